-- Which refusals reading strings can meet: 12 and 13. Assumes nothing.
use Prim.Native.Nat.{ℕ, zero, suc, ◌+◌, ◌≤◌}
use mathlib.Core.Path.{◌≡◌, refl, sym, ap, ◌∙◌, subst}
use mathlib.Core.Bool.{Bool, true, false}
use mathlib.Core.List.{List, ◌∷◌}
use native.Mathlib.Omega.{arith}
use lib.Dec.{leb}
use lib.ListN.{length}
use Rattle.refusal.specs.Refusal.{Refusal, refusal_number}
use Rattle.types.specs.Answer.{Answer, got, refused, and_then}
use Rattle.types.specs.Number.{part}
use Rattle.types.specs.Read.{strings, short_at, text_at, string_at, strings_at, listed, string_list_at}
use Rattle.types.proofs.Found.{got_refused, same_refusal}
use Rattle.types.proofs.Reading.{number_read, text_read}
use Rattle.utf8.specs.Utf8.{utf8}

-- one of the two
abbrev pub OfTexts : Refusal → Type 0
OfTexts why = (12 ≤ refusal_number why) × (refusal_number why ≤ 13)

-- refused at once, or behind something that was read
refused_then : {A B : Type 0} (P : Refusal → Type 0) (a : Answer A) (f : A → ℕ → Answer B) {why : Refusal}
    → ((e : Refusal) → a ≡ refused e → P e) → ((v : A) (next : ℕ) (e : Refusal) → f v next ≡ refused e → P e) → and_then a f ≡ refused why → P why
refused_then P (got v next) f first behind e = behind v next _ e
refused_then P (refused d) f first behind e = subst P (same_refusal e) (first d refl)

short_refused : (s : List ℕ) (at : ℕ) (why : Refusal) → short_at s at ≡ refused why → OfTexts why
short_refused s at why e = go (leb (at + 2) (length s)) refl
  where
    go : (t : Bool) → leb (at + 2) (length s) ≡ t → OfTexts why
    go true p = absurd (got_refused (sym e ∙ number_read 2 s at p))
    go false p = let z : refusal_number why ≡ 12 = ap refusal_number (same_refusal (sym e ∙ number_read 2 s at p)) in (omega arith, omega arith)

text_refused : (s : List ℕ) (n at : ℕ) (why : Refusal) → text_at s n at ≡ refused why → OfTexts why
text_refused s n at why e = go (leb (at + n) (length s)) refl (utf8 (part s at n)) refl
  where
    go : (t : Bool) → leb (at + n) (length s) ≡ t → (u : Bool) → utf8 (part s at n) ≡ u → OfTexts why
    go true p true q = absurd (got_refused (sym e ∙ text_read n s at p q))
    go true p false q = let z : refusal_number why ≡ 13 = ap refusal_number (same_refusal (sym e ∙ text_read n s at p q)) in (omega arith, omega arith)
    go false p u q = let z : refusal_number why ≡ 12 = ap refusal_number (same_refusal (sym e ∙ text_read n s at p q)) in (omega arith, omega arith)

pub string_refused : (s : List ℕ) (at : ℕ) (why : Refusal) → string_at s at ≡ refused why → OfTexts why
unfolding string_at
string_refused s at why e = refused_then OfTexts (short_at s at) (text_at s) (short_refused s at) (λ v next n. text_refused s v next n) e

pub strings_refused : (s : List ℕ) (count at : ℕ) (why : Refusal) → strings_at s count at ≡ refused why → OfTexts why
unfolding strings_at
strings_refused s zero at why e = absurd (got_refused (sym e))
strings_refused s (suc n) at why e =
    refused_then OfTexts (string_at s at) (λ p next. and_then (strings_at s n next) (λ ps end. got (p ∷ ps) end)) (string_refused s at)
    (λ p next m f. refused_then OfTexts (strings_at s n next) (λ ps end. got (p ∷ ps) end) (strings_refused s n next) (λ ps end k g. absurd (got_refused (sym g))) f) e

pub list_refused : (s : List ℕ) (at : ℕ) (why : Refusal) → string_list_at s at ≡ refused why → OfTexts why
unfolding string_list_at listed
list_refused s at why e =
    refused_then OfTexts (short_at s at) (listed s) (short_refused s at)
    (λ n start m f.
    refused_then OfTexts (strings_at s n start) (λ ps next. got (strings n start) next) (strings_refused s n start) (λ ps next k g. absurd (got_refused (sym g))) f) e
