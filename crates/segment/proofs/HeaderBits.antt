-- The fields of a header have bits of their own: written they are read back, and read they are written back. Assumes nothing.
use Prim.Native.Nat.{ℕ, ◌+◌, ◌*◌, ◌/◌, ◌%◌, ◌^◌, ◌≤◌, ◌<◌}
use mathlib.Core.Path.{◌≡◌, refl, sym, ap, ◌∙◌}
use mathlib.Core.Bool.{Bool, true, false, cond}
use native.Mathlib.Nat.{mod-eq_of_lt}
use native.Mathlib.Omega.{arith}
use borrow.Author.Tests.{eq-eqb, ne_eqb, eqb-true, eqb-false}
use lib.Dec.{eqb}
use Rattle.segment.specs.Header.{Form, short, long, Header, header, lengths, number_length, self_weight, uncompressed_of, uncompressed_part, fields_of, header_number}
use Rattle.segment.specs.ThereAndBack.{Fits, used_bits}

pub number_below : (f : Form) (h : Header) → header_number f h < used_bits f
unfolding header_number
number_below f h = go f h.self
  where
    go : (f : Form) (t : Bool) → h.payload % lengths + uncompressed_part f h.uncompressed + cond t (self_weight f) 0 < used_bits f
    go short true = omega arith
    go short false = omega arith
    go long true = omega arith
    go long false = omega arith

-- they are bits of the number's bytes
pub used_within : (f : Form) → used_bits f ≤ 256 ^ number_length f
used_within short = omega arith
used_within long = omega arith

-- ---- written, then read

-- bit 34 above bits below it
bit_set : (x : ℕ) → x < 17179869184 → (x + 17179869184) / 17179869184 % 2 ≡ 1
bit_set x h = let q : (x + 17179869184) / 17179869184 ≡ 1 = omega arith in ap (λ (k : ℕ). k % 2) q

bit_clear : (x : ℕ) → x < 17179869184 → (x + 0) / 17179869184 % 2 ≡ 0
bit_clear x h = let q : (x + 0) / 17179869184 ≡ 0 = omega arith in ap (λ (k : ℕ). k % 2) q

-- the 17 bits below bit 34
middle_below : (a b : ℕ) → a < lengths → b < lengths → (a + b * lengths + 17179869184) / lengths % lengths ≡ b
middle_below a b h k =
    let q : (a + b * lengths + 17179869184) / lengths ≡ b + lengths = omega arith in
    let r : (b + lengths) % lengths ≡ b = omega arith in
    ap (λ (x : ℕ). x % lengths) q ∙ r

middle_alone : (a b : ℕ) → a < lengths → b < lengths → (a + b * lengths + 0) / lengths % lengths ≡ b
middle_alone a b h k =
    let q : (a + b * lengths + 0) / lengths ≡ b = omega arith in
    ap (λ (x : ℕ). x % lengths) q ∙ mod-eq_of_lt k

same : {a b c d : ℕ} {s t : Bool} → a ≡ b → c ≡ d → s ≡ t → header a c s ≡ header b d t
same {b = b} {c = c} {s = s} p q r = ap (λ (x : ℕ). header x c s) p ∙ ap (λ (y : ℕ). header b y s) q ∙ ap (header b _) r

pub fields_back : (f : Form) (h : Header) → Fits f h → fields_of f (header_number f h) ≡ h
unfolding fields_of header_number
fields_back f h fit = go f h.self refl fit.none
  where
    go : (f : Form) (t : Bool) → h.self ≡ t → (f ≡ short → h.uncompressed ≡ 0)
        → header ((h.payload % lengths + uncompressed_part f h.uncompressed + cond t (self_weight f) 0) % lengths)
        (uncompressed_of f (h.payload % lengths + uncompressed_part f h.uncompressed + cond t (self_weight f) 0))
        (eqb ((h.payload % lengths + uncompressed_part f h.uncompressed + cond t (self_weight f) 0) / self_weight f % 2) 1)
        ≡ header h.payload h.uncompressed t
    go short true e none =
        let p : (h.payload % lengths + 0 + 131072) % lengths ≡ h.payload = omega (arith, fit.payload) in
        let q : (h.payload % lengths + 0 + 131072) / 131072 ≡ 1 = omega (arith, fit.payload) in
        let b : (h.payload % lengths + 0 + 131072) / 131072 % 2 ≡ 1 = ap (λ (k : ℕ). k % 2) q in
        same p (sym (none refl)) (eq-eqb ((h.payload % lengths + 0 + 131072) / 131072 % 2) 1 b)
    go short false e none =
        let p : (h.payload % lengths + 0 + 0) % lengths ≡ h.payload = omega (arith, fit.payload) in
        let b : (h.payload % lengths + 0 + 0) / 131072 % 2 ≡ 0 = omega (arith, fit.payload) in
        same p (sym (none refl)) (ne_eqb ((h.payload % lengths + 0 + 0) / 131072 % 2) 1 (λ z. omega arith))
    go long true e none =
        let p : (h.payload % lengths + h.uncompressed % lengths * lengths + 17179869184) % lengths ≡ h.payload = omega (arith, fit.payload) in
        let u : (h.payload % lengths + h.uncompressed % lengths * lengths + 17179869184) / lengths % lengths ≡ h.uncompressed =
        middle_below (h.payload % lengths) (h.uncompressed % lengths) (omega arith) (omega arith) ∙ mod-eq_of_lt fit.uncompressed
        in
        let b = bit_set (h.payload % lengths + h.uncompressed % lengths * lengths) (omega arith) in
        same p u (eq-eqb ((h.payload % lengths + h.uncompressed % lengths * lengths + 17179869184) / 17179869184 % 2) 1 b)
    go long false e none =
        let p : (h.payload % lengths + h.uncompressed % lengths * lengths + 0) % lengths ≡ h.payload = omega (arith, fit.payload) in
        let u : (h.payload % lengths + h.uncompressed % lengths * lengths + 0) / lengths % lengths ≡ h.uncompressed =
        middle_alone (h.payload % lengths) (h.uncompressed % lengths) (omega arith) (omega arith) ∙ mod-eq_of_lt fit.uncompressed
        in
        let b = bit_clear (h.payload % lengths + h.uncompressed % lengths * lengths) (omega arith) in
        same p u (ne_eqb ((h.payload % lengths + h.uncompressed % lengths * lengths + 0) / 17179869184 % 2) 1 (λ z. omega arith))

-- ---- read, then written: unused bits are 0

pub number_forth : (f : Form) (x : ℕ) → x < used_bits f → header_number f (fields_of f x) ≡ x
unfolding fields_of header_number
number_forth short x h = go (eqb (x / 131072 % 2) 1) refl
  where
    go : (t : Bool) → eqb (x / 131072 % 2) 1 ≡ t → x % lengths % lengths + 0 + cond t 131072 0 ≡ x
    go true e = omega (arith, eqb-true (x / 131072 % 2) 1 e)
    go false e =
        let n = eqb-false (x / 131072 % 2) 1 e in
        let small : x < 131072 = omega arith in
        omega arith
number_forth long x h = go (eqb (x / 17179869184 % 2) 1) refl
  where
    go : (t : Bool) → eqb (x / 17179869184 % 2) 1 ≡ t → x % lengths % lengths + x / lengths % lengths % lengths * lengths + cond t 17179869184 0 ≡ x
    go true e = omega (arith, eqb-true (x / 17179869184 % 2) 1 e)
    go false e =
        let n = eqb-false (x / 17179869184 % 2) 1 e in
        let small : x < 17179869184 = omega arith in
        let q : x / lengths < lengths = omega arith in
        omega arith
