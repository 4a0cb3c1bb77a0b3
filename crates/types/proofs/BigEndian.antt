-- Laws of numbers of some bytes, said over how many bytes there are: the number of written bytes is the number, and the bytes of a number
-- that was read are the bytes. Assumes nothing.
use Prim.Native.Nat.{ℕ, zero, suc, ◌+◌, ◌*◌, ◌-◌, ◌/◌, ◌%◌, ◌^◌, ◌≤◌, ◌<◌}
use mathlib.Core.Path.{◌≡◌, refl, sym, ap, ap₂, ◌∙◌}
use mathlib.Core.List.{List, [], ◌∷◌, ◌++◌}
use native.Mathlib.Omega.{arith}
use native.Mathlib.Numerals.{add-one}
use native.Mathlib.Nat.{pow-suc, zero-lt-suc, one-le-pow, mod-one, mod-eq_of_lt, le_of_eq, add-sub_cancel_left}
use lib.ListN.{length, take, drop, get_or, length-drop, length-append}
use lib.Seq.{take-suc, take_all, get_or-drop, length-take-le}
use lib.Arith.{digits_lt, mod-mul, digits_div, digits_mod}
use Rattle.basis.specs.Bytes.{Bytes}
use Rattle.types.specs.Number.{be, be_from, part, digits}

-- ---- one byte more

be_from_snoc : (v : ℕ) (s : List ℕ) (b : ℕ) → be_from v (s ++ (b ∷ [])) ≡ be_from v s * 256 + b
unfolding be_from
be_from_snoc v [] b = refl
be_from_snoc v (a ∷ s) b = be_from_snoc (v * 256 + a) s b

be_snoc : (s : List ℕ) (b : ℕ) → be (s ++ (b ∷ [])) ≡ be s * 256 + b
unfolding be
be_snoc s b = be_from_snoc 0 s b

pub be_take_suc : (s : List ℕ) (i : ℕ) → i < length s → be (take (i + 1) s) ≡ be (take i s) * 256 + get_or s i 0
be_take_suc s i h = ap be (rw add-one (take-suc s i 0 h)) ∙ be_snoc (take i s) (get_or s i 0)

pub more_below : (i : ℕ) {v b : ℕ} → v < 256 ^ i → b < 256 → v * 256 + b < 256 ^ (i + 1)
more_below i hv hb = rw (add-one, pow-suc) (digits_lt hv hb)

-- ---- parts

-- the part that a range of the code takes
pub part_of : (s : List ℕ) (at n : ℕ) → take (at + n - at) (drop at s) ≡ part s at n
part_of s at n = ap (λ (k : ℕ). take k (drop at s)) (add-sub_cancel_left at n)

pub length_part : (s : List ℕ) (at n : ℕ) → at + n ≤ length s → length (part s at n) ≡ n
length_part s at n h = length-take-le n (drop at s) (simp length-drop (omega arith))

pub bytes_take : (n : ℕ) (s : List ℕ) → Bytes s → Bytes (take n s)
bytes_take zero s b i = zero-lt-suc 255
bytes_take (suc n) [] b i = b i
bytes_take (suc n) (x ∷ s) b zero = b zero
bytes_take (suc n) (x ∷ s) b (suc i) = bytes_take n s (λ j. b (suc j)) i

pub bytes_drop : (at : ℕ) (s : List ℕ) → Bytes s → Bytes (drop at s)
bytes_drop at s b i = rw get_or-drop (b (at + i))

pub bytes_part : (s : List ℕ) (at n : ℕ) → Bytes s → Bytes (part s at n)
bytes_part s at n b = bytes_take n (drop at s) (bytes_drop at s b)

-- ---- the bytes of a number

pub length_digits : (n x : ℕ) → length (digits n x) ≡ n
unfolding digits
length_digits zero x = refl
length_digits (suc n) x = length-append (digits n (x / 256)) (x % 256 ∷ []) ∙ ap (λ (k : ℕ). k + 1) (length_digits n (x / 256)) ∙ add-one n

-- the lowest byte of a number, and the n above it
pub digit_more : (n x : ℕ) → x / 256 % 256 ^ n * 256 + x % 256 ≡ x % 256 ^ suc n
digit_more n x = sym (mod-mul x (one-le-pow n 256 (zero-lt-suc 255)) (zero-lt-suc 255)) ∙ ap (λ (k : ℕ). x % k) (sym (pow-suc 256 n))

-- written, then read: a number that n bytes hold
pub be_digits : (n x : ℕ) → be (digits n x) ≡ x % 256 ^ n
unfolding digits be be_from
be_digits zero x = sym (mod-one x)
be_digits (suc n) x = be_snoc (digits n (x / 256)) (x % 256) ∙ ap (λ (k : ℕ). k * 256 + x % 256) (be_digits n (x / 256)) ∙ digit_more n x

pub be_digits_fit : (n x : ℕ) → x < 256 ^ n → be (digits n x) ≡ x
be_digits_fit n x h = be_digits n x ∙ mod-eq_of_lt h

-- n + 1 bytes are n bytes and the last
module _ (n : ℕ) (s : List ℕ) (e : length s ≡ suc n) where
  last_apart : s ≡ take n s ++ (get_or s n 0 ∷ [])
  last_apart = sym (take_all (suc n) s (le_of_eq e)) ∙ take-suc s n 0 (omega arith)

  be_last : be s ≡ be (take n s) * 256 + get_or s n 0
  be_last = ap be last_apart ∙ be_snoc (take n s) (get_or s n 0)

  length_but_last : length (take n s) ≡ n
  length_but_last = length-take-le n s (omega arith)

-- read, then written
pub digits_be : (n : ℕ) (s : List ℕ) → length s ≡ n → Bytes s → digits n (be s) ≡ s
unfolding digits
digits_be zero [] e b = refl
digits_be zero (x ∷ s) e b = let f : ⊥ = omega arith in absurd f
digits_be (suc n) s e b =
    ap₂ (λ (x y : ℕ). digits n x ++ (y ∷ []))
    (ap (λ (k : ℕ). k / 256) (be_last n s e) ∙ digits_div (be (take n s)) (b n))
    (ap (λ (k : ℕ). k % 256) (be_last n s e) ∙ digits_mod (be (take n s)) (b n))
    ∙ ap (λ (l : List ℕ). l ++ (get_or s n 0 ∷ [])) (digits_be n (take n s) (length_but_last n s e) (bytes_take n s b))
    ∙ sym (last_apart n s e)

-- what n bytes hold
pub be_below : (n : ℕ) (s : List ℕ) → length s ≡ n → Bytes s → be s < 256 ^ n
unfolding be be_from
be_below zero [] e b = zero-lt-suc 0
be_below zero (x ∷ s) e b = let f : ⊥ = omega arith in absurd f
be_below (suc n) s e b = rw (be_last n s e, ← add-one n) (more_below n (be_below n (take n s) (length_but_last n s e) (bytes_take n s b)) (b n))
