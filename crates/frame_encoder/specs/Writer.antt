-- A segment writer, call by call: docs/RULES.md, section 8. Assumes nothing.
use Rattle.std.specs.Prelude.{ℕ, ◌+◌, Bool, true, false, cond, List, ltb, leb, eqb, length, take}
use Rattle.refusal.specs.Refusal.{Refusal, inadmissible, output_too_short, envelope_does_not_fit, segment_not_empty}
use Rattle.types.specs.Number.{part}
use Rattle.types.specs.Write.{put, Check, fine, against, demand}
use Rattle.segment.specs.Header.{Form, header_length, lengths}
use Rattle.segment.specs.Segment.{max_payload, segment_length, segment_bytes}

-- its form, and the length of the payload so far
pub record Writer : Type 0 where
  pub form : Form
  pub payload : ℕ

abbrev pub writer : Form → ℕ → Writer
writer form payload = record { form = form; payload = payload }

abbrev pub fresh : Form → Writer
fresh form = writer form 0

-- how many bytes were written, and of what was given how many went in; or a refusal
pub data Reply : Type 0 where
  wrote : ℕ → ℕ → Reply
  refused : Refusal → Reply

-- a call's answer, and the writer and the output that it leaves
pub record Done : Type 0 where
  pub after : Writer
  pub reply : Reply
  pub output : List ℕ

abbrev pub done : Writer → Reply → List ℕ → Done
done after reply output = record { after = after; reply = reply; output = output }

-- a refusal leaves both as they were
abbrev pub unless : Check → Writer → List ℕ → Done → Done
unless fine w out d = d
unless (against why) w out d = done w (refused why) out

-- 8.2: payload so far and length together are below 131,072
unfoldable pub fits : Writer → ℕ → Bool
fits w n = ltb (w.payload + n) lengths

-- an output has room for header, payload and trailer
abbrev pub room_for : Writer → ℕ → ℕ → Bool
room_for w n room = leb (segment_length w.form n) room

-- ---- 8.2: an envelope is added

unfoldable pub add_check : Writer → ℕ → ℕ → Check
add_check w room n =
    demand (leb w.payload max_payload) inadmissible
    (demand (fits w n) envelope_does_not_fit
    (demand (room_for w (w.payload + n) room) output_too_short fine))

unfoldable pub add : Writer → List ℕ → List ℕ → Done
add w out envelope =
    unless (add_check w (length out) (length envelope)) w out
    (done (writer w.form (w.payload + length envelope)) (wrote (length envelope) (length envelope)) (put out (header_length w.form + w.payload) envelope))

-- ---- 8.3: what stands there is finished

unfoldable pub finish_check : Writer → ℕ → Check
finish_check w room =
    demand (leb w.payload max_payload) inadmissible
    (demand (room_for w w.payload room) output_too_short fine)

unfoldable pub finish : Writer → List ℕ → Done
finish w out =
    unless (finish_check w (length out)) w out
    (done (fresh w.form) (wrote (segment_length w.form w.payload) 0) (put out 0 (segment_bytes w.form true (part out (header_length w.form) w.payload))))

-- ---- 8.4: a piece of an envelope

-- the smaller of its length and the longest payload
unfoldable pub piece_of : ℕ → ℕ
piece_of n = cond (leb n max_payload) n max_payload

unfoldable pub piece_check : Writer → ℕ → ℕ → Check
piece_check w room n =
    demand (leb w.payload max_payload) inadmissible
    (demand (eqb w.payload 0) segment_not_empty
    (demand (room_for w (piece_of n) room) output_too_short fine))

unfoldable pub piece : Writer → List ℕ → List ℕ → Done
piece w out envelope =
    unless (piece_check w (length out) (length envelope)) w out
    (done (fresh w.form) (wrote (segment_length w.form (piece_of (length envelope))) (piece_of (length envelope)))
    (put out 0 (segment_bytes w.form false (take (piece_of (length envelope)) envelope))))
