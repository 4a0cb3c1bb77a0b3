-- What the values of the code mean. Assumes nothing.
use Rattle.std.specs.Prelude.{ℕ, List, take}
use Rattle.refusal.specs.Refusal.{paper_refusal}
use Rattle.stream.specs.Collect.{Tape, tape, Ending, refused_end, held_end}
use Rattle.stream.specs.declared.Notes.{Notes}
use Rattle.stream.specs.declared.End.{End}

-- the notes, together with what the two outputs then hold
abbrev pub tape_of : Notes → List ℕ → List ℕ → Tape
tape_of n envelopes marks = tape n.answers n.bytes n.complete envelopes marks

-- an end, together with what the two buffers then hold
abbrev pub paper_end : End → List ℕ → List ℕ → Ending
paper_end (End.Refused e taken) segment reassembly = refused_end (paper_refusal e) taken
paper_end (End.Held n pending) segment reassembly = held_end n (take n segment) pending (take pending reassembly)
