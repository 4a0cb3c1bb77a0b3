-- Walking along some strings: what the steps say, one after the other, until they end or one is refused. Assumes nothing.
use Rattle.std.specs.Prelude.{ℕ, ◌≡◌, List, [], ◌∷◌}
use Rattle.std.proofs.Math.Option.{none, some}
use Rattle.refusal.specs.Refusal.{Refusal}
use Rattle.types.specs.Answer.{Answer, got, refused}
use Rattle.types.specs.Read.{Place, step_at}

-- from `left` strings at a position: the places of the texts met, and how it ends
pub data Walks (s : List ℕ) : ℕ → ℕ → List Place → Answer (Unit {0}) → Type 0 where
  ends : {left at next : ℕ} → step_at s left at ≡ got none next → Walks s left at [] (got tt next)
  stops : {left at : ℕ} {why : Refusal} → step_at s left at ≡ refused why → Walks s left at [] (refused why)
  meets : {left at less next : ℕ} {p : Place} {ps : List Place} {end : Answer (Unit {0})} → step_at s left at ≡ got (some (p, less)) next → Walks s less next ps end → Walks s left at (p ∷ ps) end
