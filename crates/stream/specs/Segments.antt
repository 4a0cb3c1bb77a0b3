-- A stream read segment by segment: docs/RULES.md, 6.5 and 6.6. Assumes nothing.
use Rattle.std.specs.Prelude.{ℕ, ◌+◌, cond, List, [], leb, drop}
use Rattle.basis.specs.Front.{Front, incomplete, refuses, whole}
use Rattle.basis.specs.Machine.{refused_after, holding}
use Rattle.refusal.specs.Refusal.{Refusal}
use Rattle.segment.specs.Header.{Header, header_length}
use Rattle.segment.specs.Segment.{Segment, segment_length, header_at}
use Rattle.stream.specs.Meaning.{Lent, Meaning, held, segment_in, by_segment, meaning_from}

-- with which of its bytes a segment is judged: the header's last where that is refused, else its own last
abbrev pub last_of : Lent → Front Refusal Header → ℕ
last_of z incomplete = header_length z.form
last_of z (refuses why) = header_length z.form
last_of z (whole h) = cond (leb (segment_length z.form h.payload) z.segment) (segment_length z.form h.payload) (header_length z.form)

unfoldable pub judged_at : Lent → List ℕ → ℕ
judged_at z s = last_of z (header_at z.form s)

-- by the first segment of the bytes to come: unfinished, they are held; refused, that is the end; whole, it says its envelopes, and the bytes behind it come next
abbrev pub by_first : Lent → Front Refusal Segment → ℕ → List ℕ → List ℕ → ℕ → Meaning
by_first z incomplete taken pending s n = holding (held s pending)
by_first z (refuses why) taken pending s n = refused_after why (taken + n)
by_first z (whole g) taken pending s n = by_segment z g.self g.payload pending (taken + n) (λ unread. meaning_from z (taken + n) unread [] (drop n s))

unfoldable pub segmentwise : Lent → ℕ → List ℕ → List ℕ → Meaning
segmentwise z taken pending s = by_first z (segment_in z s) taken pending s (judged_at z s)
