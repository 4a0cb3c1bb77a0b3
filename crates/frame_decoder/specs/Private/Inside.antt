-- What only the contracts of functions inside this crate cite, and proofs. No public promise speaks of it: a reader of the promises need not believe it.
-- What the types inside the crate mean, and what is known of a state that was admitted. Assumes nothing.
use Rattle.std.specs.Prelude.{ℕ, ◌-◌, ◌≤◌, ◌<◌, min, ◌≡◌, List, length, take, drop}
use Rattle.segment.specs.Header.{Form}
use Rattle.segment.specs.Segment.{max_payload, segment_length}
use Rattle.frame_decoder.specs.Reader.{Reader, Counts, counts_of, min_segment, max_segment, max_reassembly}
use Rattle.frame_decoder.specs.Settle as settling
use Rattle.frame_decoder.specs.Call.{stored, work}
use Rattle.frame_decoder.specs.Paper.{paper_reader, paper_answer, paper_step}
use Rattle.frame_decoder.specs.declared.FrameDecoder as code-decoder
use Rattle.frame_decoder.specs.declared.Answer as code-answer
use Rattle.frame_decoder.specs.declared.Step.{Step}
use Rattle.frame_decoder.specs.declared.settle.Due.{Due}
use Rattle.std.specs.Prelude as std
use Rattle.std.proofs.Common.{ControlFlow, Continue, Break}
use Rattle.refusal.specs.declared.Refusal as why

abbrev pub paper_due : Due → settling.Due
paper_due (Due.Answered answer r) = settling.due (paper_answer (std.Ok answer)) (paper_reader r)
paper_due (Due.Refused e r) = settling.due (paper_answer (std.Err e)) (paper_reader r)
paper_due (Due.Waits r) = settling.waits (paper_reader r)

abbrev pub step_of : code-decoder.FrameDecoder → std.Result code-answer.Answer why.Refusal → ℕ → Step
step_of r answer taken = record { reader = r; heard = record { answer = answer; taken = taken } }

-- ---- counts that lie in what they count, over a segment buffer of a bytes

pub record Lie (form : Form) (a : ℕ) (c : Counts) : Type 0 where
  pub small : c.payload ≤ max_payload
  pub room : segment_length form c.payload ≤ a
  pub there : c.there ≤ c.goal
  pub read : c.read ≤ c.all
  pub from : c.from ≤ c.pending

-- a reader over buffers of a and b bytes
pub record Admitted (r : Reader) (a b : ℕ) : Type 0 where
  pub least : min_segment ≤ a
  pub most : a ≤ max_segment
  pub held : r.pending ≤ b
  pub largest : b ≤ max_reassembly
  pub counts : Lie r.form a (counts_of r)

-- how many bytes are still to come of a header or a segment
abbrev pub wanted : Counts → ℕ
wanted c = c.goal - c.there

-- what is still to come has its place in a segment buffer of so many bytes
abbrev pub Roomy : ℕ → Counts → Type 0
Roomy room c = (c.there ≤ c.goal) × (c.goal ≤ room)

-- what filling did: as many bytes as were wanted and there, each at its place
pub record FilledIs (took : ℕ) (m : Reader) (segment left bytes : List ℕ) : Type 0 where
  pub count : took ≡ min (wanted (counts_of m)) (length bytes)
  pub buffer : left ≡ stored m segment (take took bytes)

-- a call that goes on from there with the rest of the piece, and means the same
pub record Onward (taken : ℕ) (r : Reader) (segment reassembly piece : List ℕ) (next : ℕ) (x : Reader) (segment' reassembly' : List ℕ) : Type 0 where
  pub same : work next x segment' reassembly' (drop next piece) ≡ work taken r segment reassembly (drop taken piece)
  pub later : taken < next
  pub within : next ≤ length piece
  pub good : Admitted x (length segment') (length reassembly')

-- what a turn leaves: the call's outcome, or a call that goes on
abbrev pub TurnIs : ControlFlow Step (code-decoder.FrameDecoder × ℕ) → ℕ → Reader → List ℕ → List ℕ → List ℕ → List ℕ → List ℕ → Type 0
TurnIs (Break s) taken r segment reassembly piece segment' reassembly' =
    paper_step s segment' reassembly' ≡ work taken r segment reassembly (drop taken piece)
TurnIs (Continue g) taken r segment reassembly piece segment' reassembly' = Onward taken r segment reassembly piece g.1 (paper_reader g.0) segment' reassembly'
