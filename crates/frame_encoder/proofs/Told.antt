-- What an answer means says the answer. Assumes nothing.
use Prim.Native.Nat.{ℕ}
use mathlib.Core.Path.{refl, ap, ap₂}
use Rattle.std.specs.Prelude.{Result, Ok, Err}
use Rattle.refusal.specs.declared.Refusal.{Refusal}
use mathlib.Core.List.{List}
use Rattle.basis.proofs.Determined.{Tells}
use Rattle.refusal.proofs.Numbers.{case_of, case_of_paper}
use Rattle.segment.proofs.Told.{form_told}
use Rattle.frame_encoder.specs.Writer.{wrote, refused, done}
use Rattle.frame_encoder.specs.Paper.{paper_writer, paper_encoded, paper_step}
use Rattle.frame_encoder.specs.declared.FrameEncoder.{FrameEncoder}
use Rattle.frame_encoder.specs.declared.Wrote.{Wrote}
use Rattle.frame_encoder.specs.declared.Step.{Step}

pub encoder_told : Tells paper_writer
encoder_told = record {
  back = λ w. record { form = form_told.back w.form; payload = w.payload };
  is = λ e. ap (λ f. record { form = f; payload = e.payload }) (form_told.is e.form);
}

encoded_told : Tells paper_encoded
encoded_told = record {
  back = elim [ wrote size taken ↦ Ok (record { size = size; taken = taken }) | refused why ↦ Err (case_of why) ];
  is = elim [ Ok w ↦ refl | Err e ↦ ap Err (case_of_paper e) ];
}

-- the writer, the answer and what the output then holds
abbrev pub Lent : Type 0
Lent = (FrameEncoder × Result Wrote Refusal) × List ℕ

pub lent_told : Tells (λ (l : Lent). done (paper_writer l.0.0) (paper_encoded l.0.1) l.1)
lent_told = record {
  back = λ d. ((encoder_told.back d.after, encoded_told.back d.reply), d.output);
  is = λ l. ap₂ (λ w r. ((w, r), l.1)) (encoder_told.is l.0.0) (encoded_told.is l.0.1);
}

-- the step, and the output
abbrev pub Outcome : Type 0
Outcome = Step × List ℕ

pub outcome_told : Tells (λ (o : Outcome). paper_step o.0 o.1)
outcome_told = record {
  back = λ d. (record { encoder = encoder_told.back d.after; answer = encoded_told.back d.reply }, d.output);
  is = λ o. ap₂ (λ w r. (record { encoder = w; answer = r }, o.1)) (encoder_told.is o.0.encoder) (encoded_told.is o.0.answer);
}
