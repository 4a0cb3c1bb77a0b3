-- Laws of numbers whose first byte has least weight, said over how many bytes there are. Assumes nothing.
use Prim.Native.Nat.{ℕ, zero, suc, ◌+◌, ◌*◌, ◌-◌, ◌/◌, ◌%◌, ◌^◌, ◌≤◌, ◌<◌}
use mathlib.Core.Path.{◌≡◌, refl, sym, ap, ap₂, ◌∙◌}
use mathlib.Core.List.{List, [], ◌∷◌, ◌++◌, append_assoc, append-nil}
use native.Mathlib.Omega.{arith}
use native.Mathlib.Numerals.{add-one, sub-one}
use native.Mathlib.Nat.{pow-le-pow_right, one-le-pow, mul-le-mul_left, pow-suc, zero-lt-suc, mod-one, mod-eq_of_lt, mod-lt}
use lib.Arith.{digits_lt, digits_div, digits_mod}
use lib.ListN.{length-append, length, take, set, get_or}
use lib.Seq.{drop-cons, take_all}
use mir.Syntax.{w8, w64}
use mir.Val.{Fits}
use borrow.Rule.Slice.PartMut.{put_mid}
use Rattle.std.proofs.lemmas.Grind.{take-set_at}
use Rattle.std.proofs.lemmas.Slice.{put_mid-paste}
use Rattle.basis.specs.Bytes.{Bytes}
use Rattle.types.specs.Number.{part}
use Rattle.types.specs.Write.{put}
use Rattle.types.proofs.BigEndian.{length_part, bytes_part, digit_more}
use Rattle.types.proofs.Put.{paste_all}
use Rattle.segment.specs.LittleEndian.{le, le_digits}

-- ---- one byte more, in front

pub part_cons : (s : List ℕ) (at k : ℕ) → at < length s → part s at (suc k) ≡ get_or s at 0 ∷ part s (suc at) k
part_cons s at k h = ap (take (suc k)) (drop-cons s at 0 h)

pub le_part_cons : (s : List ℕ) (at k : ℕ) → at < length s → le (part s at (suc k)) ≡ le (part s (suc at) k) * 256 + get_or s at 0
unfolding le
le_part_cons s at k h = ap le (part_cons s at k h)

-- ---- one byte more, behind

le_snoc : (s : List ℕ) (b : ℕ) → le (s ++ (b ∷ [])) ≡ b * 256 ^ length s + le s
unfolding le
le_snoc [] b = omega arith
le_snoc (x ∷ s) b = rw (pow-suc 256 (length s)) (omega (arith, le_snoc s b))

-- ---- the bytes of a number

pub length_le : (n x : ℕ) → length (le_digits n x) ≡ n
unfolding le_digits
length_le zero x = refl
length_le (suc n) x = ap suc (length_le n (x / 256))

pub bytes_le : (n x : ℕ) → Bytes (le_digits n x)
unfolding le_digits
bytes_le zero x i = zero-lt-suc 255
bytes_le (suc n) x zero = mod-lt x (zero-lt-suc 255)
bytes_le (suc n) x (suc i) = bytes_le n (x / 256) i

-- written, then read
pub le_digits_lem : (n x : ℕ) → le (le_digits n x) ≡ x % 256 ^ n
unfolding le le_digits
le_digits_lem zero x = sym (mod-one x)
le_digits_lem (suc n) x = ap (λ (k : ℕ). k * 256 + x % 256) (le_digits_lem n (x / 256)) ∙ digit_more n x

pub le_digits_fit : (n x : ℕ) → x < 256 ^ n → le (le_digits n x) ≡ x
le_digits_fit n x h = le_digits_lem n x ∙ mod-eq_of_lt h

-- read, then written
pub digits_le : (n : ℕ) (s : List ℕ) → length s ≡ n → Bytes s → le_digits n (le s) ≡ s
unfolding le le_digits
digits_le zero [] e b = refl
digits_le zero (x ∷ s) e b = let f : ⊥ = omega arith in absurd f
digits_le (suc n) [] e b = let f : ⊥ = omega arith in absurd f
digits_le (suc n) (x ∷ s) e b =
    let l : length s ≡ n = omega arith in
    ap₂ (λ (y : ℕ) (l : List ℕ). y ∷ l) (digits_mod (le s) (b 0)) (ap (le_digits n) (digits_div (le s) (b 0)) ∙ digits_le n s l (λ i. b (suc i)))

-- what n bytes hold
pub le_below : (n : ℕ) (s : List ℕ) → length s ≡ n → Bytes s → le s < 256 ^ n
unfolding le
le_below zero [] e b = zero-lt-suc 0
le_below zero (x ∷ s) e b = let f : ⊥ = omega arith in absurd f
le_below (suc n) [] e b = let f : ⊥ = omega arith in absurd f
le_below (suc n) (x ∷ s) e b = let l : length s ≡ n = omega arith in rw pow-suc (digits_lt (le_below n s l (λ i. b (suc i))) (b 0))

-- ---- turns of a loop

-- reading, from the last byte down: v is the number of the bytes read, `rest` are those that are left, and t is the number of all
pub le_next : (v b t : ℕ) (rest next : List ℕ) → rest ≡ next ++ (b ∷ []) → v * 256 ^ length rest + le rest ≡ t → (v * 256 + b) * 256 ^ length next + le next ≡ t
le_next v b t rest next e h =
    let more : length rest ≡ suc (length next) = ap length e ∙ length-append next (b ∷ []) ∙ add-one (length next) in
    let k : v * 256 ^ suc (length next) + (b * 256 ^ length next + le next) ≡ t = ap₂ (λ (n m : ℕ). v * 256 ^ n + m) (sym more) (sym (ap le e ∙ le_snoc next b)) ∙ h in
    let j : v * (256 ^ length next * 256) + (b * 256 ^ length next + le next) ≡ t = rw pow-suc at k in
    omega arith

pub le_none : (v t : ℕ) (rest : List ℕ) → length rest ≡ 0 → v * 256 ^ length rest + le rest ≡ t → v ≡ t
unfolding le
le_none v t [] e h = omega arith
le_none v t (b ∷ rest) e h = let f : ⊥ = omega arith in absurd f

module _ (s : List ℕ) (at n : ℕ) (bytes : (i : ℕ) → Fits w8 (get_or s i 0)) (room : at + n ≤ length s) where
  pub part_below : le (part s at n) < 256 ^ n
  part_below = le_below n (part s at n) (length_part s at n room) (bytes_part s at n (λ i. (bytes i).fits))

  module _ (few : n ≤ 8) (v b : ℕ) (rest next : List ℕ) (left : rest ≡ next ++ (b ∷ [])) (all : v * 256 ^ length rest + le rest ≡ le (part s at n)) where
    pub sum_fits : Fits w64 (v * 256 + b)
    sum_fits =
        let l : 256 ^ n ≤ 256 ^ 8 = pow-le-pow_right {n = 256} (zero-lt-suc 255) {j = 8} few in
        let k : (v * 256 + b) * 256 ^ length next + le next ≡ le (part s at n) = le_next v b (le (part s at n)) rest next left all in
        record { fits = omega (arith, part_below, mul-le-mul_left (v * 256 + b) (one-le-pow (length next) 256 (zero-lt-suc 255))) }

    pub product_fits : Fits w64 (v * 256)
    product_fits = let s = sum_fits.fits in record { fits = omega arith }

pub ruleset reading = (le_next, le_none, part_below, sum_fits, product_fits)

-- writing, from the first byte up: i bytes are written, and `rest` is what is left of x
le_first : (n x : ℕ) → 0 < n → le_digits n x ≡ x % 256 ∷ le_digits (n - 1) (x / 256)
unfolding le_digits
le_first zero x h = let f : ⊥ = omega arith in absurd f
le_first (suc n) x h = rw sub-one

module _ (s : List ℕ) (n i x rest : ℕ) (len : length s ≡ n) (done : take i s ++ le_digits (n - i) rest ≡ le_digits n x) where
  pub written_next : i < n → take (i + 1) (set s i (rest % 256)) ++ le_digits (n - (i + 1)) (rest / 256) ≡ le_digits n x
  written_next h =
      ap (λ (l : List ℕ). l ++ le_digits (n - (i + 1)) (rest / 256)) (take-set_at s i (i + 1) (rest % 256) refl (omega arith))
      ∙ append_assoc (take i s) (rest % 256 ∷ []) (le_digits (n - (i + 1)) (rest / 256))
      ∙ ap (λ (k : ℕ). take i s ++ (rest % 256 ∷ le_digits k (rest / 256))) (let z : n - (i + 1) ≡ n - i - 1 = omega arith in z)
      ∙ ap (λ (l : List ℕ). take i s ++ l) (sym (le_first (n - i) rest (omega arith)))
      ∙ done

  written_all : n ≤ i → s ≡ le_digits n x
  unfolding le_digits
  written_all h =
      sym (append-nil s)
      ∙ ap₂ (λ (l : List ℕ) (k : ℕ). l ++ le_digits k rest) (sym (take_all i s (omega arith))) (let z : 0 ≡ n - i = omega arith in z)
      ∙ done

  -- what stands where they were written
  pub put_written : (out : List ℕ) (at : ℕ) → n ≤ i → put_mid at (at + n - at) out s ≡ put out at (le_digits n x)
  put_written out at h = put_mid-paste at (at + n - at) out s s (length s) refl (omega arith) refl ∙ paste_all out at s ∙ ap (put out at) (written_all h)

pub ruleset writing = (written_next, put_written)
