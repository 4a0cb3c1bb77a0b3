-- Laws of a text that a list of lengths cuts, for a loop that goes along the lengths. Assumes nothing.
use Prim.Native.Nat.{ℕ, suc, ◌+◌, ◌*◌, ◌-◌, ◌≤◌, ◌<◌}
use mathlib.Core.Path.{◌≡◌, refl, sym, ap, ap₂, ◌∙◌}
use mathlib.Core.Bool.{Bool, true, false, ◌&&◌}
use mathlib.Core.List.{List, [], ◌∷◌, ◌++◌}
use native.Mathlib.Omega.{arith}
use native.Mathlib.Numerals.{add-one}
use lib.ListN.{length, take, drop, get_or, length-append, length-drop, drop_of_length-le}
use lib.Seq.{drop-cons, drop-drop, length-take-le}
use lib.Dec.{leb, eqb}
use borrow.Author.Tests.{le-leb, lt-leb, leb-true, eqb-true, eqb-false, eq-eqb, ne_eqb}
use Rattle.refusal.specs.Refusal.{Refusal, not_utf8, not_writable}
use Rattle.types.specs.Number.{digits, part}
use Rattle.utf8.specs.Utf8.{utf8}
use Rattle.types.specs.Write.{put, counted, max_short, total, all_short, all_utf8, lengths_fit, cut_by, strings_bytes, list_bytes, list_check, Check, fine, demand}
use Rattle.types.proofs.BigEndian.{length_digits}
use Rattle.types.proofs.Put.{length_counted, put_then}

-- ---- two tests at once

pub both_true : (a b : Bool) → (a && b) ≡ true → (a ≡ true) × (b ≡ true)
both_true true b e = (refl, e)
both_true false b e = let z : ◌≡◌ {A = ℕ} 0 1 = cc in let f : ⊥ = omega arith in absurd f

and_false : (a : Bool) {b : Bool} → b ≡ false → (a && b) ≡ false
and_false true e = e
and_false false e = refl

-- two equalities that hold of the same numbers
same_eqb : (a b c d : ℕ) → (a ≡ b → c ≡ d) → (c ≡ d → a ≡ b) → eqb a b ≡ eqb c d
same_eqb a b c d f g = go (eqb a b) refl
  where
    go : (t : Bool) → eqb a b ≡ t → eqb a b ≡ eqb c d
    go true e = e ∙ sym (eq-eqb c d (f (eqb-true a b e)))
    go false e = e ∙ sym (ne_eqb c d (λ h. eqb-false a b e (g h)))

-- ---- the lengths

-- the next length is too large for a [short], or for what is left, or neither
pub fit_large : (left n : ℕ) (ns : List ℕ) → max_short < n → lengths_fit left (n ∷ ns) ≡ false
unfolding lengths_fit all_short
fit_large left n ns h = ap (λ (t : Bool). (t && all_short ns) && eqb left (total (n ∷ ns))) (lt-leb n max_short h)

pub fit_over : (left n : ℕ) (ns : List ℕ) → left < n → lengths_fit left (n ∷ ns) ≡ false
unfolding lengths_fit total
fit_over left n ns h = and_false (all_short (n ∷ ns)) (ne_eqb left (n + total ns) (λ e. omega arith))

pub fit_goes_on : (left n : ℕ) (ns : List ℕ) → n ≤ max_short → n ≤ left → lengths_fit left (n ∷ ns) ≡ lengths_fit (left - n) ns
unfolding lengths_fit all_short total
fit_goes_on left n ns h k =
    ap₂ (λ (t u : Bool). (t && all_short ns) && u) (le-leb n max_short h)
    (same_eqb left (n + total ns) (left - n) (total ns) (λ e. omega arith) (λ e. omega arith))

pub fit_none : (left : ℕ) → lengths_fit left [] ≡ eqb left 0
unfolding lengths_fit all_short total
fit_none left = refl

-- what is known of the next length where all fit
pub record Next (left n : ℕ) (rest : List ℕ) : Type 0 where
  pub small : n ≤ max_short
  pub within : n ≤ left
  pub fits : lengths_fit (left - n) rest ≡ true

pub next_of : (left n : ℕ) (rest : List ℕ) → lengths_fit left (n ∷ rest) ≡ true → Next left n rest
unfolding lengths_fit all_short total
next_of left n rest e =
    let all = both_true (all_short (n ∷ rest)) (eqb left (n + total rest)) e in
    let short = both_true (leb n max_short) (all_short rest) all.0 in
    let sum : left ≡ n + total rest = eqb-true left (n + total rest) all.1 in
    let small : n ≤ max_short = leb-true n max_short short.0 in
    let within : n ≤ left = omega arith in
    record { small = small; within = within; fits = sym (fit_goes_on left n rest small within) ∙ e }

-- ---- a turn of a loop along the lengths

module _ (ns : List ℕ) (i : ℕ) (h : i < length ns) where
  pub cut_lengths : drop i ns ≡ get_or ns i 0 ∷ drop (i + 1) ns
  cut_lengths = rw (add-one, drop-cons ns i 0)

  pub fit_next : (left : ℕ) → lengths_fit left (drop i ns) ≡ true → Next left (get_or ns i 0) (drop (i + 1) ns)
  fit_next left e = next_of left (get_or ns i 0) (drop (i + 1) ns) (sym (ap (lengths_fit left) cut_lengths) ∙ e)

  pub cut_next : (t : List ℕ) (at : ℕ) → cut_by (drop at t) (drop i ns) ≡ part t at (get_or ns i 0) ∷ cut_by (drop (at + get_or ns i 0) t) (drop (i + 1) ns)
  unfolding cut_by
  cut_next t at =
      ap (cut_by (drop at t)) cut_lengths
      ∙ ap (λ (l : List ℕ). part t at (get_or ns i 0) ∷ cut_by l (drop (i + 1) ns)) (drop-drop (get_or ns i 0) at t)

  -- the text at hand is UTF-8, or it is not
  pub utf8_goes_on : (t : List ℕ) (at : ℕ) → utf8 (part t at (get_or ns i 0)) ≡ true
      → all_utf8 (cut_by (drop at t) (drop i ns)) ≡ all_utf8 (cut_by (drop (at + get_or ns i 0) t) (drop (i + 1) ns))
  unfolding all_utf8
  utf8_goes_on t at e =
      ap all_utf8 (cut_next t at) ∙ ap (λ (b : Bool). b && all_utf8 (cut_by (drop (at + get_or ns i 0) t) (drop (i + 1) ns))) e

  pub utf8_stops : (t : List ℕ) (at : ℕ) → utf8 (part t at (get_or ns i 0)) ≡ false → all_utf8 (cut_by (drop at t) (drop i ns)) ≡ false
  unfolding all_utf8
  utf8_stops t at e =
      ap all_utf8 (cut_next t at) ∙ ap (λ (b : Bool). b && all_utf8 (cut_by (drop (at + get_or ns i 0) t) (drop (i + 1) ns))) e

  pub bytes_next : (t : List ℕ) (at : ℕ)
      → strings_bytes (cut_by (drop at t) (drop i ns)) ≡ counted 2 (part t at (get_or ns i 0)) ++ strings_bytes (cut_by (drop (at + get_or ns i 0) t) (drop (i + 1) ns))
  unfolding strings_bytes
  bytes_next t at = ap strings_bytes (cut_next t at)

-- past the last length
pub cut_end : (t ns : List ℕ) (i : ℕ) → length ns ≤ i → cut_by t (drop i ns) ≡ []
unfolding cut_by
cut_end t ns i h = ap (cut_by t) (drop_of_length-le ns h)

pub fit_end : (left : ℕ) (ns : List ℕ) (i : ℕ) → length ns ≤ i → lengths_fit left (drop i ns) ≡ eqb left 0
fit_end left ns i h = ap (lengths_fit left) (drop_of_length-le ns h) ∙ fit_none left

pub utf8_end : (t ns : List ℕ) (i : ℕ) → length ns ≤ i → all_utf8 (cut_by t (drop i ns)) ≡ true
unfolding all_utf8
utf8_end t ns i h = ap all_utf8 (cut_end t ns i h)

pub bytes_end : (t ns : List ℕ) (i : ℕ) → length ns ≤ i → strings_bytes (cut_by t (drop i ns)) ≡ []
unfolding strings_bytes
bytes_end t ns i h = ap strings_bytes (cut_end t ns i h)

-- ---- a turn of the loop that writes the strings

module _ (ns : List ℕ) (i : ℕ) (h : i < length ns) (t : List ℕ) (at : ℕ) (within : get_or ns i 0 ≤ length t - at) where
  pub part_length : length (part t at (get_or ns i 0)) ≡ get_or ns i 0
  part_length = length-take-le (get_or ns i 0) (drop at t) (rw length-drop within)

  counted_length : length (counted 2 (part t at (get_or ns i 0))) ≡ 2 + get_or ns i 0
  counted_length = length_counted 2 (part t at (get_or ns i 0)) ∙ ap (λ (k : ℕ). 2 + k) part_length

  pub rest_length : length (strings_bytes (cut_by (drop at t) (drop i ns))) ≡ 2 + get_or ns i 0 + length (strings_bytes (cut_by (drop (at + get_or ns i 0) t) (drop (i + 1) ns)))
  rest_length =
      ap length (bytes_next ns i h t at)
      ∙ length-append (counted 2 (part t at (get_or ns i 0))) (strings_bytes (cut_by (drop (at + get_or ns i 0) t) (drop (i + 1) ns)))
      ∙ ap (λ (k : ℕ). k + length (strings_bytes (cut_by (drop (at + get_or ns i 0) t) (drop (i + 1) ns)))) counted_length

  pub put_turn : (out : List ℕ) (to : ℕ) → to + length (strings_bytes (cut_by (drop at t) (drop i ns))) ≤ length out
      → {m : List ℕ} → m ≡ put out to (counted 2 (part t at (get_or ns i 0)))
      → put m (to + (2 + get_or ns i 0)) (strings_bytes (cut_by (drop (at + get_or ns i 0) t) (drop (i + 1) ns))) ≡ put out to (strings_bytes (cut_by (drop at t) (drop i ns)))
  put_turn out to room e =
      put_then out to (counted 2 (part t at (get_or ns i 0))) (strings_bytes (cut_by (drop (at + get_or ns i 0) t) (drop (i + 1) ns))) (2 + get_or ns i 0)
      counted_length (omega (arith, rest_length)) e refl
      ∙ ap (put out to) (sym (bytes_next ns i h t at))

-- ---- how much there is

pub length_cut : (t ns : List ℕ) → length (cut_by t ns) ≡ length ns
unfolding cut_by
length_cut t [] = refl
length_cut t (n ∷ ns) = ap suc (length_cut (drop n t) ns)

pub strings_length : (t ns : List ℕ) → lengths_fit (length t) ns ≡ true → length (strings_bytes (cut_by t ns)) ≡ 2 * length ns + length t
unfolding strings_bytes cut_by
strings_length t [] e = let z : length t ≡ 0 = eqb-true (length t) 0 (sym (fit_none (length t)) ∙ e) in omega arith
strings_length t (n ∷ ns) e =
    let nx : Next (length t) n ns = next_of (length t) n ns e in
    let ld : length (drop n t) ≡ length t - n = length-drop n t in
    let rest : List ℕ = strings_bytes (cut_by (drop n t) ns) in
    let ih : length rest ≡ 2 * length ns + length (drop n t) = strings_length (drop n t) ns (ap (λ (k : ℕ). lengths_fit k ns) ld ∙ nx.fits) in
    let lt : length (take n t) ≡ n = length-take-le n t nx.within in
    let lc : length (counted 2 (take n t)) ≡ 2 + length (take n t) = length_counted 2 (take n t) in
    let la : length (counted 2 (take n t) ++ rest) ≡ length (counted 2 (take n t)) + length rest = length-append (counted 2 (take n t)) rest in
    let wi : n ≤ length t = nx.within in
    omega arith

pub list_apart : (ts : List (List ℕ)) → length (list_bytes ts) ≡ 2 + length (strings_bytes ts)
unfolding list_bytes
list_apart ts = length-append (digits 2 (length ts)) (strings_bytes ts) ∙ ap (λ (k : ℕ). k + length (strings_bytes ts)) (length_digits 2 (length ts))

pub list_length : (t ns : List ℕ) → lengths_fit (length t) ns ≡ true → length (list_bytes (cut_by t ns)) ≡ 2 + 2 * length ns + length t
list_length t ns e =
    let ls : length (strings_bytes (cut_by t ns)) ≡ 2 * length ns + length t = strings_length t ns e in
    list_apart (cut_by t ns) ∙ omega arith

-- ---- a list that may be written

pub record Writes (t ns : List ℕ) : Type 0 where
  pub count : length ns ≤ max_short
  pub lengths : lengths_fit (length t) ns ≡ true
  pub texts : all_utf8 (cut_by t ns) ≡ true

pub demand_fine : (t : Bool) (why : Refusal) (rest : Check) → demand t why rest ≡ fine → (t ≡ true) × (rest ≡ fine)
demand_fine true why rest e = (refl, e)
demand_fine false why rest e = let z : ◌≡◌ {A = ℕ} 0 1 = cc in let f : ⊥ = omega arith in absurd f

pub writes : (t ns : List ℕ) → list_check t ns ≡ fine → Writes t ns
unfolding list_check
writes t ns e =
    let a = demand_fine (leb (length ns) max_short) not_writable _ e in
    let b = demand_fine (lengths_fit (length t) ns) not_writable _ a.1 in
    let c = demand_fine (all_utf8 (cut_by t ns)) not_utf8 fine b.1 in
    record { count = leb-true (length ns) max_short a.0; lengths = b.0; texts = c.0 }
