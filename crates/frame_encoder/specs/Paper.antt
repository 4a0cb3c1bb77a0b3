-- What the values and answers of the code mean. Assumes nothing.
use Rattle.std.specs.Prelude.{List, ℕ, Result, Ok, Err}
use Rattle.refusal.specs.Refusal.{paper_refusal}
use Rattle.refusal.specs.declared.Refusal.{Refusal}
use Rattle.segment.specs.Paper.{paper_form}
use Rattle.frame_encoder.specs.Writer.{Writer, writer, Reply, wrote, refused, Done, done}
use Rattle.frame_encoder.specs.declared.FrameEncoder.{FrameEncoder}
use Rattle.frame_encoder.specs.declared.Wrote.{Wrote}
use Rattle.frame_encoder.specs.declared.Step.{Step}

abbrev pub paper_writer : FrameEncoder → Writer
paper_writer e = writer (paper_form e.form) e.payload

abbrev pub paper_encoded : Result Wrote Refusal → Reply
paper_encoded (Ok w) = wrote w.size w.taken
paper_encoded (Err e) = refused (paper_refusal e)

-- a step, together with what the output then holds
abbrev pub paper_step : Step → List ℕ → Done
paper_step s output = done (paper_writer s.encoder) (paper_encoded s.answer) output
