-- What is due without another byte, up to the first answer: docs/RULES.md, 6.5 to 6.9. Assumes nothing.
use Rattle.std.specs.Prelude.{ℕ, ◌+◌, ◌-◌, Bool, true, false, cond, List, leb, eqb, length, take}
use Rattle.basis.specs.Front.{Front, incomplete, refuses, whole}
use Rattle.refusal.specs.Refusal.{Refusal, segment_too_long, unexpected_self_contained, reassembly_too_short}
use Rattle.types.specs.Number.{part}
use Rattle.types.specs.Read.{place}
use Rattle.types.specs.Write.{put}
use Rattle.segment.specs.Header.{Header, header, header_length}
use Rattle.segment.specs.Segment.{Segment, segment_length, header_at, payload_at}
use Rattle.frame.specs.Envelope.{Envelope, envelope}
use Rattle.frame_decoder.specs.Reader.{Phase, in_header, in_rest, in_segment, in_reassembly, stopped, Reader, header_passed, segment_finished, handed_on, payload_read, stopped_by, segment_buffer, reassembly_buffer, Answer, envelope_at, leftover, refused}

-- an answer and the reader behind it; or a reader that waits for bytes
pub data Due : Type 0 where
  due : Answer → Reader → Due
  waits : Reader → Due

-- the same, and what the reassembly buffer then holds; the segment buffer is never changed
pub record Settled : Type 0 where
  pub says : Due
  pub reassembly : List ℕ

abbrev pub settled : Due → List ℕ → Settled
settled says reassembly = record { says = says; reassembly = reassembly }

abbrev pub refusing : Refusal → Reader → Due
refusing why r = due (refused why) (stopped_by r why)

-- ---- 6.5: a header of which n bytes are there, and as what it is read; room is the segment buffer's

unfoldable pub header_due : Reader → ℕ → ℕ → Front Refusal Header → Due
header_due r n room incomplete = waits r
header_due r n room (refuses why) = refusing why r
header_due r n room (whole h) =
    cond (leb (segment_length r.form h.payload) room)
    (waits (header_passed r n h))
    (refusing segment_too_long r)

-- ---- 6.7: envelopes of a self-contained payload, where it stands in the segment buffer

-- 6.8: n unread bytes are dropped
unfoldable pub leftover_due : Reader → ℕ → Due
leftover_due r n = cond (eqb n 0) (waits (payload_read r r.pending)) (due (leftover n) (payload_read r r.pending))

unfoldable pub from_segment : Reader → ℕ → ℕ → Front Refusal Envelope → Due
from_segment r len at incomplete = leftover_due r (len - at)
from_segment r len at (refuses why) = refusing why r
from_segment r len at (whole e) =
    due (envelope_at segment_buffer (place (header_length r.form + at) e.size) e) (handed_on r (in_segment len at) e.size)

unfoldable pub read_segment : Reader → List ℕ → ℕ → ℕ → Due
read_segment r segment len at = from_segment r len at (envelope (part segment (header_length r.form + at) (len - at)))

-- ---- 6.7: envelopes of the pending bytes

-- 6.9: n bytes are moved to the front, and those behind keep what they held
abbrev pub moved_down : List ℕ → ℕ → ℕ → List ℕ
moved_down reassembly at n = put reassembly 0 (part reassembly at n)

unfoldable pub from_pending : Reader → List ℕ → ℕ → Front Refusal Envelope → Settled
from_pending r reassembly at incomplete =
    settled (waits (payload_read r (r.pending - at))) (moved_down reassembly at (r.pending - at))
from_pending r reassembly at (refuses why) = settled (refusing why r) reassembly
from_pending r reassembly at (whole e) =
    settled (due (envelope_at reassembly_buffer (place at e.size) e) (handed_on r (in_reassembly at) e.size)) reassembly

unfoldable pub read_pending : Reader → List ℕ → ℕ → Settled
read_pending r reassembly at = from_pending r reassembly at (envelope (part reassembly at (r.pending - at)))

-- ---- 6.6: a segment whose header said len, and as what it is read

-- self-contained
unfoldable pub read_alone : Reader → List ℕ → ℕ → Due
read_alone r segment len = cond (eqb r.pending 0) (read_segment (segment_finished r len true) segment len 0) (refusing unexpected_self_contained r)

-- not: its payload joins the pending bytes
unfoldable pub read_joined : Reader → List ℕ → List ℕ → Settled
read_joined r reassembly payload =
    cond (leb (r.pending + length payload) (length reassembly))
    (read_pending (segment_finished r (length payload) false) (put reassembly r.pending payload) 0)
    (settled (refusing reassembly_too_short r) reassembly)

abbrev pub received : Reader → List ℕ → List ℕ → ℕ → Bool → List ℕ → Settled
received r segment reassembly len true payload = settled (read_alone r segment len) reassembly
received r segment reassembly len false payload = read_joined r reassembly payload

unfoldable pub segment_due : Reader → List ℕ → List ℕ → ℕ → Front Refusal Segment → Settled
segment_due r segment reassembly len incomplete = settled (waits r) reassembly
segment_due r segment reassembly len (refuses why) = settled (refusing why r) reassembly
segment_due r segment reassembly len (whole s) = received r segment reassembly len s.self s.payload

-- ---- by phase

unfoldable pub settle_at : Reader → List ℕ → List ℕ → Phase → Settled
settle_at r segment reassembly (in_header n) = settled (header_due r n (length segment) (header_at r.form (take n segment))) reassembly
settle_at r segment reassembly (in_rest n len self) = segment_due r segment reassembly len (payload_at r.form (take n segment) (header len 0 self))
settle_at r segment reassembly (in_segment len at) = settled (read_segment r segment len at) reassembly
settle_at r segment reassembly (in_reassembly at) = read_pending r reassembly at
settle_at r segment reassembly (stopped why) = settled (due (refused why) r) reassembly

unfoldable pub settle : Reader → List ℕ → List ℕ → Settled
settle r segment reassembly = settle_at r segment reassembly r.phase
