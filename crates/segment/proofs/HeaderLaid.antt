-- A header's number and behind it the check of the bytes that then stand there are the header. Assumes nothing.
use Prim.Native.Nat.{ℕ, ◌+◌, ◌≤◌}
use mathlib.Core.Path.{◌≡◌, sym, ap, ap₂, ◌∙◌}
use mathlib.Core.List.{List}
use native.Mathlib.Nat.{zero-add}
use native.Mathlib.Omega.{arith}
use lib.ListN.{length, take, length-append}
use Rattle.crc.specs.Check24.{crc24}
use Rattle.types.specs.Write.{put}
use Rattle.types.proofs.Put.{put_then}
use Rattle.types.proofs.Holds.{holds_put}
use Rattle.segment.specs.LittleEndian.{le_digits}
use Rattle.segment.specs.Header.{Form, short, long, Header, number_length, check_length, header_length, header_number, number_bytes, header_bytes}
use Rattle.segment.proofs.LittleEndian.{length_le}

pub head_least : (f : Form) → 6 ≤ header_length f
head_least short = omega arith
head_least long = omega arith

pub head_most : (f : Form) → header_length f ≤ 8
head_most short = omega arith
head_most long = omega arith

pub number_length_lem : (f : Form) (h : Header) → length (number_bytes f h) ≡ number_length f
unfolding number_bytes
number_length_lem f h = length_le (number_length f) (header_number f h)

pub header_length_lem : (f : Form) (h : Header) → length (header_bytes f h) ≡ header_length f
unfolding header_bytes
header_length_lem f h =
    length-append (number_bytes f h) (le_digits check_length (crc24 (number_bytes f h)))
    ∙ ap₂ (λ (a b : ℕ). a + b) (number_length_lem f h) (length_le check_length (crc24 (number_bytes f h)))

module _ (f : Form) (h : Header) (out : List ℕ) (room : header_length f ≤ length out) where
  -- what stands there once the number is written
  number_stands : {m : List ℕ} → m ≡ put out 0 (number_bytes f h) → take (number_length f) m ≡ number_bytes f h
  number_stands e =
      let l : length (number_bytes f h) ≡ number_length f = number_length_lem f h in
      ap₂ (λ (k : ℕ) (s : List ℕ). take k s) (sym l) e ∙ (holds_put out 0 (number_bytes f h) (omega (arith, zero-add (length (number_bytes f h))))).is

  pub header_laid : {n x check : ℕ} {m l : List ℕ} → n ≡ number_length f → x ≡ header_number f h → m ≡ put out 0 (le_digits n x) → check ≡ crc24 (take n m)
      → l ≡ put m n (le_digits check_length check) → l ≡ put out 0 (header_bytes f h)
  unfolding header_bytes number_bytes
  header_laid {m = m} len num p q r =
      let k : length (le_digits check_length (crc24 (number_bytes f h))) ≡ check_length = length_le check_length (crc24 (number_bytes f h)) in
      let first : m ≡ put out 0 (number_bytes f h) = p ∙ ap₂ (λ (n x : ℕ). put out 0 (le_digits n x)) len num in
      put_then out 0 (number_bytes f h) (le_digits check_length (crc24 (number_bytes f h))) (number_length f) (number_length_lem f h) (omega (arith, zero-add (number_length f))) first
      (r ∙ ap₂ (λ (i c : ℕ). put m i (le_digits check_length c)) (len ∙ sym (zero-add (number_length f))) (q ∙ ap (λ (n : ℕ). crc24 (take n m)) len ∙ ap crc24 (number_stands first)))
