-- Sums that stay small: capped at each step or only at the end, they are the same. Assumes nothing.
use Prim.Native.Nat.{ℕ, ◌+◌, ◌≤◌, ◌<◌}
use mathlib.Core.Path.{◌≡◌, ap, sym, ◌∙◌}
use mathlib.Core.Bool.{Bool, cond}
use native.Mathlib.Decide.{dec_le}
use native.Mathlib.Nat.{lt_of_not-le}
use native.Mathlib.Omega.{arith}
use borrow.Author.Tests.{le-leb, lt-leb}
use Rattle.frame.specs.Write.{max_body}
use Rattle.frame.specs.Private.Inside.{capped}

pub capped_small : {n : ℕ} → n ≤ max_body → capped n ≡ n
unfolding capped
capped_small {n} h = ap (λ (t : Bool). cond t n (max_body + 1)) (le-leb n max_body h)

pub capped_large : {n : ℕ} → max_body < n → capped n ≡ max_body + 1
unfolding capped
capped_large {n} h = ap (λ (t : Bool). cond t n (max_body + 1)) (lt-leb n max_body h)

pub capped_plus : (a b : ℕ) → capped (capped a + b) ≡ capped (a + b)
capped_plus a b =
    elim (dec_le a max_body) [
      | yes h ↦ ap (λ (k : ℕ). capped (k + b)) (capped_small h)
      | no h ↦
          let l : max_body < a = lt_of_not-le h in
          let e : capped a ≡ max_body + 1 = capped_large l in
          capped_large (omega arith) ∙ sym (capped_large (omega arith))
    ]

-- what the test of a capped number says of the number
pub capped_within : {r : ℕ} (n : ℕ) → r ≡ capped n → r ≤ max_body → (n ≤ max_body) × (r ≡ n)
capped_within n e h =
    elim (dec_le n max_body) [
      | yes k ↦ (k, e ∙ capped_small k)
      | no k ↦ let f : ⊥ = omega (arith, capped_large (lt_of_not-le k)) in absurd f
    ]

pub capped_past : {r : ℕ} (n : ℕ) → r ≡ capped n → max_body < r → max_body < n
capped_past n e h =
    elim (dec_le n max_body) [
      | yes k ↦ let f : ⊥ = omega (arith, capped_small k) in absurd f
      | no k ↦ lt_of_not-le k
    ]
