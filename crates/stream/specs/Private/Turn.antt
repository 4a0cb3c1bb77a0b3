-- What only the contracts of functions inside this crate cite, and proofs. No public promise speaks of it: a reader of the promises need not believe it.
-- What the turns of the caller's loop leave. Assumes nothing.
use Rattle.std.specs.Prelude.{ℕ, Bool, ◌≤◌, ◌<◌, ◌≡◌, List, Result, MatchBool, MatchResult}
use Rattle.refusal.specs.Refusal.{paper_refusal}
use Rattle.refusal.specs.declared.Refusal.{Refusal}
use Rattle.frame_decoder.specs.Paper.{paper_reader}
use Rattle.stream.specs.Caller.{state}
use Rattle.stream.specs.Collect.{Tape, refused_end}
use Rattle.stream.specs.Paper.{tape_of}
use Rattle.stream.specs.Private.Inside.{Way, Going, Onward, Over, Wants, left_to}
use Rattle.stream.specs.declared.Notebook.{Notebook}
use Rattle.stream.specs.declared.Listener.{Listener}

-- ---- what is lent

abbrev pub tape_in : Notebook → Tape
tape_in b = tape_of b.notes b.envelopes.now b.marks.now

-- both write to the same outputs
pub record SameOutputs (b c : Notebook) : Type 0 where
  pub envelopes : c.envelopes.ghost_name ≡ b.envelopes.ghost_name
  pub marks : c.marks.ghost_name ≡ b.marks.ghost_name

abbrev pub way_of : Listener → Notebook → Way
way_of l b = record { at = state (paper_reader l.reader) l.segment.now l.reassembly.now; taken = l.taken; tape = tape_in b }

-- the same stream, buffers and outputs are lent to both
pub record SameLent (l m : Listener) (b c : Notebook) : Type 0 where
  pub stream : m.stream ≡ l.stream
  pub segment : m.segment.ghost_name ≡ l.segment.ghost_name
  pub reassembly : m.reassembly.ghost_name ≡ l.reassembly.ghost_name
  pub outputs : SameOutputs b c

-- ---- what is left

-- the piece that ends there is used up
pub record PieceUsed (stream : List ℕ) (end : ℕ) (w v : Way) : Type 0 where
  pub going : Going stream v
  pub all : v.taken ≡ end
  pub wants : Wants v.at
  pub onward : Onward stream w v

pub record Answered (stream : List ℕ) (end : ℕ) (w v : Way) : Type 0 where
  pub going : Going stream v
  pub most : v.taken ≤ end
  pub less : left_to end v < left_to end w
  pub onward : Onward stream w v

-- the reader has stopped there
abbrev pub StoppedAt : Refusal → List ℕ → Way → Way → Type 0
StoppedAt why stream w v = Over stream w v.tape (refused_end (paper_refusal why) v.taken) v.at.segment v.at.reassembly

abbrev pub UsedIs : Result (Unit {0}) Refusal → ℕ → List ℕ → Way → Way → Type 0
UsedIs r end stream w v = MatchResult r (λ _. PieceUsed stream end w v) (λ why. StoppedAt why stream w v)

abbrev pub TurnIs : Result Bool Refusal → ℕ → List ℕ → Way → Way → Type 0
TurnIs r end stream w v = MatchResult r (λ more. MatchBool more (Answered stream end w v) (PieceUsed stream end w v)) (λ why. StoppedAt why stream w v)
