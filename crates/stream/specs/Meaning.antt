-- What a whole stream means, in whatever pieces it may come: docs/RULES.md, 6.5 to 6.11. Assumes nothing.
use Rattle.std.specs.Prelude.{ℕ, zero, suc, ◌+◌, pred, Bool, true, false, cond, List, [], ◌∷◌, ◌++◌, leb, eqb, length, take}
use Rattle.basis.specs.Front.{Front, incomplete, refuses, whole, if_whole}
use Rattle.basis.specs.Machine.{dated, Story, says, refused_after, holding}
use Rattle.refusal.specs.Refusal.{Refusal, segment_too_long, unexpected_self_contained, reassembly_too_short}
use Rattle.types.specs.Read.{Place, place}
use Rattle.segment.specs.Header.{Form, Header, header_length}
use Rattle.segment.specs.Segment.{Segment, segment_length, header_at, payload_at}
use Rattle.frame.specs.Envelope.{Envelope, envelope}
use Rattle.frame_decoder.specs.Reader.{Buffer, segment_buffer, reassembly_buffer}

-- a line's form, and the lengths of the two buffers that its reader is lent
pub record Lent : Type 0 where
  pub form : Form
  pub segment : ℕ
  pub reassembly : ℕ

abbrev pub lent : Form → ℕ → ℕ → Lent
lent form segment reassembly = record { form = form; segment = segment; reassembly = reassembly }

-- ---- what can be said

-- an envelope: in which buffer it stands, where and how long, its bytes and its reading; or how many unread bytes of a self-contained payload were dropped
pub data Said : Type 0 where
  envelope_of : Buffer → Place → List ℕ → Envelope → Said
  leftover_of : ℕ → Said

-- the bytes that are held when all were taken: those of an unfinished segment, and those pending
pub record Held : Type 0 where
  pub segment : List ℕ
  pub pending : List ℕ

abbrev pub held : List ℕ → List ℕ → Held
held segment pending = record { segment = segment; pending = pending }

-- The answers in order, each with the number of bytes of the stream after which it is due, and then the end: a refusal and how many bytes were taken up to it, or what is held.
abbrev pub Meaning : Type 0
Meaning = Story Said Refusal Held

-- ---- a segment, by its first bytes

-- 6.5: 4 where it is longer than its buffer
abbrev pub behind_header : Lent → List ℕ → Header → Front Refusal Segment
behind_header z s h = cond (leb (segment_length z.form h.payload) z.segment) (payload_at z.form s h) (refuses segment_too_long)

-- 2, 3 and 4 once its header is there, 5 once all of it is
unfoldable pub segment_in : Lent → List ℕ → Front Refusal Segment
segment_in z s = if_whole (header_at z.form s) (behind_header z s)

-- ---- envelopes

-- by what stands at the front of s, which stands in this buffer from `at` on: nothing whole, and the rest of the stream goes on with these bytes; a refusal; or an envelope, with so many bytes
-- more to it than its first
abbrev pub by_front : Front Refusal Envelope → ℕ → Buffer → ℕ → List ℕ → (List ℕ → Meaning) → (ℕ → Meaning) → Meaning
by_front incomplete taken buffer at s goes_on behind = goes_on s
by_front (refuses why) taken buffer at s goes_on behind = refused_after why taken
by_front (whole e) taken buffer at s goes_on behind = says (dated taken (envelope_of buffer (place at e.size) (take e.size s) e)) (behind (pred e.size))

-- 6.7: the envelopes of some bytes one after the other, once the first `skip` bytes are passed over; all are due after as many bytes of the stream
unfoldable pub envelopes_in : ℕ → Buffer → ℕ → ℕ → List ℕ → (List ℕ → Meaning) → Meaning
envelopes_in taken buffer at skip [] goes_on = goes_on []
envelopes_in taken buffer at (suc skip) (b ∷ s) goes_on = envelopes_in taken buffer (suc at) skip s goes_on
envelopes_in taken buffer at zero (b ∷ s) goes_on =
    by_front (envelope (b ∷ s)) taken buffer at (b ∷ s) goes_on (λ skip. envelopes_in taken buffer (suc at) skip s goes_on)

-- 6.8: bytes that no envelope takes up
abbrev pub dropping : ℕ → List ℕ → Meaning → Meaning
dropping taken unread m = cond (eqb (length unread) 0) m (says (dated taken (leftover_of (length unread))) m)

-- ---- the stream

-- 6.6: a whole segment, its payload behind the header in the segment buffer, or joined to the pending bytes from the front of the other; the rest of the stream goes on with what is then pending
abbrev pub by_segment : Lent → Bool → List ℕ → List ℕ → ℕ → (List ℕ → Meaning) → Meaning
by_segment z true payload pending taken goes_on =
    cond (eqb (length pending) 0)
    (envelopes_in taken segment_buffer (header_length z.form) 0 payload (λ unread. dropping taken unread (goes_on pending)))
    (refused_after unexpected_self_contained taken)
by_segment z false payload pending taken goes_on =
    cond (leb (length pending + length payload) z.reassembly)
    (envelopes_in taken reassembly_buffer 0 0 (pending ++ payload) goes_on)
    (refused_after reassembly_too_short taken)

-- by what the first bytes of a segment are; the rest goes on with what is pending, and with the first bytes of the segment at hand
abbrev pub by_beginning : Lent → Front Refusal Segment → List ℕ → List ℕ → ℕ → (List ℕ → List ℕ → Meaning) → Meaning
by_beginning z incomplete pending s taken goes_on = goes_on pending s
by_beginning z (refuses why) pending s taken goes_on = refused_after why taken
by_beginning z (whole g) pending s taken goes_on = by_segment z g.self g.payload pending taken (λ unread. goes_on unread [])

-- with so many bytes taken, some pending and some of a segment at hand: what the bytes to come mean
unfoldable pub meaning_from : Lent → ℕ → List ℕ → List ℕ → List ℕ → Meaning
meaning_from z taken pending s [] = holding (held s pending)
meaning_from z taken pending s (b ∷ stream) =
    by_beginning z (segment_in z (s ++ b ∷ [])) pending (s ++ b ∷ []) (suc taken) (λ pending' s'. meaning_from z (suc taken) pending' s' stream)

abbrev pub meaning : Lent → List ℕ → Meaning
meaning z stream = meaning_from z 0 [] [] stream
