-- Each public function's contract leaves nothing open. Assumes nothing.
use Rattle.basis.specs.Determined.{Determined}
use mathlib.Core.Path.{refl, ap}
use mathlib.Core.Option.{none, some}
use Rattle.basis.proofs.Determined.{Tells, by_equation, by_meaning}
use Rattle.refusal.specs.Refusal.{number_of, refusal_of, paper_numbered}
use Rattle.std.specs.Prelude as std
use Rattle.refusal.proofs.Numbers.{case_of, case_of_paper}
use Rattle.refusal.proofs.Refusal.number.Reads as number
use Rattle.refusal.proofs.of_number.Reads as of_number

pub number_determined : Determined number.Post
number_determined = by_equation (λ κs a. number_of a.0)

numbered_told : Tells paper_numbered
numbered_told = record {
  back = elim [ none ↦ std.None | some e ↦ std.Some (case_of e) ];
  is = elim [ std.None ↦ refl | std.Some e ↦ ap std.Some (case_of_paper e) ];
}

pub of_number_determined : Determined of_number.Post
of_number_determined = by_meaning numbered_told (λ κs a. refusal_of a.0)
