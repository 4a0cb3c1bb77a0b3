-- Only what is read counts: a reader whose answer does not depend on the bytes behind what it read. Assumes nothing.
use Rattle.std.specs.Prelude.{ℕ, ◌≤◌, ◌≡◌, ◌⊎◌, List, ◌++◌, length, take}
use Rattle.refusal.specs.Refusal.{Refusal, past_end}
use Rattle.types.specs.Answer.{Answer, got, refused}

-- from a position within the bytes
pub record Local {A : Type 0} (read : List ℕ → ℕ → Answer A) : Type 0 where
  -- it goes on, and not past the end
  pub on : (s : List ℕ) (at : ℕ) {v : A} {next : ℕ} → read s at ≡ got v next → at ≤ next
  pub inside : (s : List ℕ) (at : ℕ) {v : A} {next : ℕ} → at ≤ length s → read s at ≡ got v next → next ≤ length s
  -- only what stands before the next position matters
  pub same : (s t : List ℕ) (at : ℕ) {v : A} {next : ℕ} → read s at ≡ got v next → take next t ≡ take next s → next ≤ length t → read t at ≡ got v next
  -- a refusal but 12 stays with more bytes behind
  pub firm : (s q : List ℕ) (at : ℕ) {e : Refusal} → read s at ≡ refused e → (e ≡ past_end) ⊎ (read (s ++ q) at ≡ refused e)

-- from any position
pub record Steady {A : Type 0} (read : List ℕ → ℕ → Answer A) : Type 0 where
  pub local : Local read
  pub bounded : (s : List ℕ) (at : ℕ) {v : A} {next : ℕ} → read s at ≡ got v next → next ≤ length s
