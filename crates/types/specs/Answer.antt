-- What reading says of a position. Assumes nothing.
use Rattle.std.specs.Prelude.{ℕ}
use Rattle.refusal.specs.Refusal.{Refusal}

-- a value and the position behind it, or a refusal
pub data Answer (A : Type 0) : Type 0 where
  got : A → ℕ → Answer A
  refused : Refusal → Answer A

-- what is read behind something, in the light of its value: of two refusals the first met
abbrev pub and_then : {A B : Type 0} → Answer A → (A → ℕ → Answer B) → Answer B
and_then (got value next) more = more value next
and_then (refused why) more = refused why
