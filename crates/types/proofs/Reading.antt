-- What the definitions of reading say on each way through the code. Assumes nothing.
use Prim.Native.Nat.{ℕ, zero, suc, ◌+◌, ◌-◌, ◌^◌, ◌≤◌, ◌<◌}
use mathlib.Core.Path.{◌≡◌, refl, sym, ap, ◌∙◌}
use mathlib.Core.Bool.{Bool, true, false, cond}
use mathlib.Core.List.{List, [], ◌∷◌}
use mathlib.Core.Option.{none, some}
use native.Mathlib.Numerals.{sub-one}
use native.Mathlib.Nat.{not-suc-le-zero}
use borrow.Author.Tests.{le-ltb}
use lib.Dec.{leb}
use lib.IntN.{pos, negsuc}
use lib.ListN.{length}
use mir.Syntax.{Width, w32}
use mir.Val.{to_z, bits, hbits, sel}
use mir.ValLaws.{to_z_pos}
use Rattle.refusal.specs.Refusal.{Refusal, past_end, not_utf8}
use Rattle.types.specs.Answer.{Answer, got, refused, and_then}
use Rattle.types.specs.Number.{be, part}
use Rattle.utf8.specs.Utf8.{utf8}
use Rattle.types.specs.Read.{Place, place, number_at, signed_at, run_at, text_at, natural, count_at, string_at, strings_at, step_at, bytes_in}
use Rattle.types.specs.Private.Inside.{end_of}

-- behind what was read, and behind what was refused
pub then_got : {A B : Type 0} {a : Answer A} (f : A → ℕ → Answer B) {v : A} {next : ℕ} → a ≡ got v next → and_then a f ≡ f v next
then_got f e = ap (λ a. and_then a f) e

pub then_refused : {A B : Type 0} {a : Answer A} (f : A → ℕ → Answer B) {e : Refusal} → a ≡ refused e → and_then a f ≡ refused e
then_refused f e = ap (λ a. and_then a f) e

-- what is read behind something that is there where a test holds
then_tested : {A B : Type 0} {a : Answer A} (t : Bool) (v : A) (next : ℕ) (why : Refusal) (f : A → ℕ → Answer B) → a ≡ cond t (got v next) (refused why) → and_then a f ≡ cond t (f v next) (refused why)
then_tested true v next why f e = then_got f e
then_tested false v next why f e = then_refused f e

-- ---- numbers, bytes and texts, by the test of the room for them

module _ (n : ℕ) (s : List ℕ) (at : ℕ) {room : Bool} (h : leb (at + n) (length s) ≡ room) where
  pub number_read : number_at n s at ≡ cond room (got (be (part s at n)) (at + n)) (refused past_end)
  unfolding number_at
  number_read = ap (λ t. cond t (got (be (part s at n)) (at + n)) (refused past_end)) h

  pub signed_read : (w : Width) → signed_at w n s at ≡ cond room (got (to_z w (be (part s at n))) (at + n)) (refused past_end)
  unfolding signed_at
  signed_read w = then_tested room (be (part s at n)) (at + n) past_end (λ x next. got (to_z w x) next) number_read

  pub run_read : run_at s n at ≡ cond room (got (place at n) (at + n)) (refused past_end)
  unfolding run_at
  run_read = ap (λ t. cond t (got (place at n) (at + n)) (refused past_end)) h

  -- and by that of the text
  pub text_read : {fits : Bool} → utf8 (part s at n) ≡ fits → text_at s n at ≡ cond room (cond fits (got (place at n) (at + n)) (refused not_utf8)) (refused past_end)
  unfolding text_at
  text_read u =
      then_tested room (place at n) (at + n) past_end (λ p next. cond (utf8 (part s at n)) (got p next) (refused not_utf8)) run_read
      ∙ ap (λ t. cond room (cond t (got (place at n) (at + n)) (refused not_utf8)) (refused past_end)) u

  -- the bytes of a place
  pub bytes_there : bytes_in s (place at n) ≡ cond room (part s at n) []
  unfolding bytes_in
  bytes_there = ap (λ t. cond t (part s at n) []) h

-- ---- a count that is an [int]

-- the bits of a signed number as a count: their number below the sign's bit, none from there on
pub natural_some : (w : Width) (x : ℕ) → x < 2 ^ hbits w → natural (to_z w x) ≡ some x
natural_some w x h = ap natural (to_z_pos w x h)

pub natural_none : (w : Width) (x : ℕ) → 2 ^ hbits w ≤ x → natural (to_z w x) ≡ none
natural_none w x h = ap (λ t. natural (sel t (pos x) (negsuc (2 ^ bits w - suc x)))) (le-ltb x (2 ^ hbits w) h)

pub count_read : (s : List ℕ) (at : ℕ) {room : Bool} → leb (at + 4) (length s) ≡ room → count_at s at ≡ cond room (got (natural (to_z w32 (be (part s at 4)))) (at + 4)) (refused past_end)
unfolding count_at
count_read s at {room} h = then_tested room (to_z w32 (be (part s at 4))) (at + 4) past_end (λ z next. got (natural z) next) (signed_read 4 s at h w32)

-- ---- strings, one behind the other

module _ (s : List ℕ) where
  -- the first is read: where the last ends does not depend on it
  end_cons : (p : Place) (a : Answer (List Place)) → end_of (and_then a (λ ps end. got (p ∷ ps) end)) ≡ end_of a
  end_cons p (got ps end) = refl
  end_cons p (refused n) = refl

  pub strings_go : (n at : ℕ) {p : Place} {next : ℕ} → 0 < n → string_at s at ≡ got p next → end_of (strings_at s n at) ≡ end_of (strings_at s (n - 1) next)
  unfolding strings_at
  strings_go zero at h e = absurd (not-suc-le-zero h)
  strings_go (suc n) at {p} {next} h e =
      ap end_of (then_got (λ p next. and_then (strings_at s n next) (λ ps end. got (p ∷ ps) end)) e)
      ∙ end_cons p (strings_at s n next)
      ∙ ap (λ (k : ℕ). end_of (strings_at s k next)) (sym (sub-one (suc n)))

  -- the first is refused: so are all
  pub strings_stop : (n at : ℕ) {e : Refusal} → 0 < n → string_at s at ≡ refused e → end_of (strings_at s n at) ≡ refused e
  unfolding strings_at
  strings_stop zero at h e = absurd (not-suc-le-zero h)
  strings_stop (suc n) at h e = ap end_of (then_refused (λ p next. and_then (strings_at s n next) (λ ps end. got (p ∷ ps) end)) e)

  -- none is left
  pub strings_none : (n at : ℕ) → n ≤ 0 → end_of (strings_at s n at) ≡ got tt at
  unfolding strings_at
  strings_none zero at h = refl
  strings_none (suc n) at h = absurd (not-suc-le-zero h)

  -- a step along them
  pub step_go : (n at : ℕ) {p : Place} {next : ℕ} → 0 < n → string_at s at ≡ got p next → step_at s n at ≡ got (some (p, n - 1)) next
  unfolding step_at
  step_go zero at h e = absurd (not-suc-le-zero h)
  step_go (suc n) at {p} {next} h e =
      then_got (λ p next. got (some (p, n)) next) e ∙ ap (λ (k : ℕ). got (some (p, k)) next) (sym (sub-one (suc n)))

  pub step_stop : (n at : ℕ) {e : Refusal} → 0 < n → string_at s at ≡ refused e → step_at s n at ≡ refused e
  unfolding step_at
  step_stop zero at h e = absurd (not-suc-le-zero h)
  step_stop (suc n) at h e = then_refused (λ p next. got (some (p, n)) next) e

  pub step_none : (n at : ℕ) → n ≤ 0 → step_at s n at ≡ got none at
  unfolding step_at
  step_none zero at h = refl
  step_none (suc n) at h = absurd (not-suc-le-zero h)
