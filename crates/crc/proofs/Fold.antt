-- A running value over bytes, for any byte step: it can be carried on over a joined input, and keeps a width that the step keeps. And a bit step that is
-- done several times: it keeps such a width too, and a loop that counts carries it. Assumes nothing.
use mathlib.Core.Path.{◌≡◌, refl}
use mathlib.Core.List.{List, [], ◌∷◌, ◌++◌}
use Prim.Native.Nat.{ℕ, zero, suc, ◌+◌, ◌-◌, ◌^◌, ◌<◌}
use native.Mathlib.Omega.{arith}
use Rattle.basis.specs.Bytes.{Bytes}
use Rattle.crc.specs.Fold.{run, times}

module _ (step : ℕ → ℕ → ℕ) where
  -- the value after a joined input is the one after the first part, carried on over the second
  pub run_append : (v : ℕ) (a b : List ℕ) → run step v (a ++ b) ≡ run step (run step v a) b
  unfolding run
  run_append v [] b = refl
  run_append v (x ∷ a) b = run_append (step v x) a b

  -- what each byte keeps, all of them keep
  pub run_below : (w : ℕ) → ((v b : ℕ) → v < 2 ^ w → b < 256 → step v b < 2 ^ w)
      → (v : ℕ) (s : List ℕ) → v < 2 ^ w → Bytes s → run step v s < 2 ^ w
  unfolding run
  run_below w keeps v [] h bytes = h
  run_below w keeps v (b ∷ s) h bytes = run_below w keeps (step v b) s (keeps v b h (bytes 0)) (λ i. bytes (suc i))

module _ (f : ℕ → ℕ) where
  pub times_below : (w : ℕ) → ((v : ℕ) → v < 2 ^ w → f v < 2 ^ w) → (n v : ℕ) → v < 2 ^ w → times n f v < 2 ^ w
  unfolding times
  times_below w keeps zero v h = h
  times_below w keeps (suc n) v h = times_below w keeps n (f v) (keeps v h)

  -- a counting loop's turn
  pub times_turn : (n i v : ℕ) → i < n → times (n - i) f v ≡ times (n - (i + 1)) f (f v)
  unfolding times
  times_turn n i v h = let e : n - i ≡ suc (n - (i + 1)) = omega arith in rw e
