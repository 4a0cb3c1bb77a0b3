-- Parts of parts. Assumes nothing.
use Prim.Native.Nat.{ℕ, zero, suc, ◌+◌, ◌-◌, ◌≤◌}
use mathlib.Core.Path.{◌≡◌, refl, sym, ap, ◌∙◌}
use mathlib.Core.Bool.{Bool, cond}
use mathlib.Core.List.{List, [], ◌∷◌, ◌++◌}
use native.Mathlib.Omega.{arith}
use borrow.Author.Tests.{le-leb}
use lib.ListN.{length, take, drop, length-append}
use lib.Seq.{take-take, take_at, drop-drop, take-nil, length-take-le, take-append_seam, drop-append_seam, take-append-le, drop-append-le}
use Rattle.types.specs.Number.{part}
use Rattle.types.specs.Read.{place, bytes_in}
use Rattle.types.specs.Write.{put}

drop_take : (k n m : ℕ) (s : List ℕ) → n - k ≡ m → drop k (take n s) ≡ take m (drop k s)
drop_take zero n m s e = ap (λ (i : ℕ). take i s) (let z : n ≡ m = omega arith in z)
drop_take (suc k) zero m s e = sym (ap (λ (i : ℕ). take i (drop (suc k) s)) (let z : m ≡ 0 = omega arith in z))
drop_take (suc k) (suc n) m [] e = sym (take-nil m)
drop_take (suc k) (suc n) m (x ∷ s) e = drop_take k n m s (omega arith)

-- what is left of a part once its first k elements are passed over
pub part_rest : (s : List ℕ) (at n k : ℕ) → drop k (part s at n) ≡ part s (at + k) (n - k)
part_rest s at n k = drop_take k n (n - k) (drop at s) refl ∙ ap (take (n - k)) (drop-drop k at s)

pub part_first : (s : List ℕ) (at n k : ℕ) → k ≤ n → take k (part s at n) ≡ part s at k
part_first s at n k h = take-take k n (drop at s) h

-- the bytes of a place that lies in a buffer
pub bytes_part : (s : List ℕ) (at n : ℕ) → at + n ≤ length s → bytes_in s (place at n) ≡ part s at n
unfolding bytes_in
bytes_part s at n h = ap (λ (t : Bool). cond t (part s at n) []) (le-leb (at + n) (length s) h)

-- ---- what was put

-- at the front it is what stands there
pub take_put : (out bs : List ℕ) (at n : ℕ) → at ≤ length out → n ≡ at + length bs → take n (put out at bs) ≡ take at out ++ bs
unfolding put
take_put out bs at n h e =
    take_at (take at out ++ bs) (drop (at + length bs) out) n (length-append (take at out) bs ∙ ap (λ (k : ℕ). k + length bs) (length-take-le at out h) ∙ sym e)

-- ---- two ways to cut a list

module _ (e xs x y : List ℕ) (q : e ++ xs ≡ x ++ y) (h : length e ≤ length x) where
  pub cut_take : take (length e) x ≡ e
  cut_take = sym (take-append-le (length e) x y h) ∙ ap (take (length e)) (sym q) ∙ take-append_seam e xs

  pub cut_drop : xs ≡ drop (length e) x ++ y
  cut_drop = sym (drop-append_seam e xs) ∙ ap (drop (length e)) q ∙ drop-append-le (length e) x y h
