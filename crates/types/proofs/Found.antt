-- What an answer with a value says of the bytes that were read. Assumes nothing.
use Prim.Native.Nat.{ℕ, ◌+◌, ◌≤◌, ◌<◌}
use mathlib.Core.Path.{◌≡◌, refl, sym, ap, ap₂, ◌∙◌}
use mathlib.Core.Bool.{Bool, true, false, cond}
use mathlib.Core.List.{List}
use mathlib.Core.Option.{Option, none, some}
use native.Mathlib.Omega.{arith}
use native.Mathlib.Nat.{lt_of_not-le}
use native.Mathlib.Decide.{dec_le}
use lib.Dec.{leb}
use lib.IntN.{ℤ}
use lib.ListN.{length}
use mir.Syntax.{Width, w32}
use mir.Val.{to_z}
use borrow.Author.Tests.{leb-true}
use Rattle.refusal.specs.Refusal.{Refusal, past_end, not_utf8}
use Rattle.types.specs.Answer.{Answer, got, refused, and_then}
use Rattle.types.specs.Number.{be, part}
use Rattle.utf8.specs.Utf8.{utf8}
use Rattle.types.specs.Read.{Place, place, Strings, strings, number_at, signed_at, short_at, run_at, text_at, natural, count_at, strings_at, listed, string_list_at}
use Rattle.types.specs.Write.{max_int}
use Rattle.types.proofs.Reading.{natural_some, natural_none}

-- ---- answers

-- no value is a refusal
pub got_refused : {A : Type 0} {v : A} {next : ℕ} {why : Refusal} → refused why ≡ got v next → ⊥
got_refused e = let z : ◌≡◌ {A = ℕ} 0 1 = cc in omega arith

pub got_value : {A : Type 0} {v w : A} {next end : ℕ} → got v next ≡ got w end → v ≡ w
got_value e = cc

pub got_next : {A : Type 0} {v w : A} {next end : ℕ} → got v next ≡ got w end → next ≡ end
got_next e = cc

pub same_refusal : {A : Type 0} {d e : Refusal} → ◌≡◌ {A = Answer A} (refused d) (refused e) → d ≡ e
same_refusal r = cc

-- a value that was read behind something: what was read first, and then it
pub record Behind {A B : Type 0} (a : Answer A) (f : A → ℕ → Answer B) (w : B) (end : ℕ) : Type 0 where
  pub value : A
  pub next : ℕ
  pub first : a ≡ got value next
  pub then : f value next ≡ got w end

pub behind : {A B : Type 0} (a : Answer A) (f : A → ℕ → Answer B) {w : B} {end : ℕ} → and_then a f ≡ got w end → Behind a f w end
behind (got v next) f e = record { value = v; next = next; first = refl; then = e }
behind (refused why) f e = absurd (got_refused e)

-- a test, and what is answered where it holds
record Passed {A : Type 0} (t : Bool) (v : A) (next : ℕ) (w : A) (end : ℕ) : Type 0 where
  test : t ≡ true
  value : w ≡ v
  ends : end ≡ next

passed : {A : Type 0} (t : Bool) (v : A) (next : ℕ) (why : Refusal) {w : A} {end : ℕ} → cond t (got v next) (refused why) ≡ got w end → Passed t v next w end
passed true v next why e = record { test = refl; value = sym (got_value e); ends = sym (got_next e) }
passed false v next why e = absurd (got_refused e)

-- ---- notations

-- w was read from n bytes, which are there and mean v, and `end` is behind them
pub record Found {A : Type 0} (s : List ℕ) (at n : ℕ) (v w : A) (end : ℕ) : Type 0 where
  pub room : at + n ≤ length s
  pub value : w ≡ v
  pub ends : end ≡ at + n

-- the value put through something
found_as : {A B : Type 0} {s : List ℕ} {at n : ℕ} {v w : A} {next end : ℕ} (f : A → B) {u : B} → Found s at n v w next → got (f w) next ≡ got u end → Found s at n (f v) u end
found_as f g e = record { room = g.room; value = sym (got_value e) ∙ ap f g.value; ends = sym (got_next e) ∙ g.ends }

module _ (n : ℕ) (s : List ℕ) (at : ℕ) where
  found_there : {A : Type 0} (v : A) {w : A} {end : ℕ} → cond (leb (at + n) (length s)) (got v (at + n)) (refused past_end) ≡ got w end → Found s at n v w end
  found_there v e =
      let p = passed (leb (at + n) (length s)) v (at + n) past_end e in
      record { room = leb-true (at + n) (length s) p.test; value = p.value; ends = p.ends }

  pub number_found : {x end : ℕ} → number_at n s at ≡ got x end → Found s at n (be (part s at n)) x end
  unfolding number_at
  number_found e = found_there (be (part s at n)) e

  pub signed_found : (w : Width) {z : ℤ} {end : ℕ} → signed_at w n s at ≡ got z end → Found s at n (to_z w (be (part s at n))) z end
  unfolding signed_at
  signed_found w e =
      let b = behind (number_at n s at) (λ x next. got (to_z w x) next) e in
      found_as (to_z w) (number_found b.first) b.then

  pub run_found : {p : Place} {end : ℕ} → run_at s n at ≡ got p end → Found s at n (place at n) p end
  unfolding run_at
  run_found e = found_there (place at n) e

  pub record TextFound (p : Place) (end : ℕ) : Type 0 where
    pub run : Found s at n (place at n) p end
    pub text : utf8 (part s at n) ≡ true

  pub text_found : {p : Place} {end : ℕ} → text_at s n at ≡ got p end → TextFound p end
  unfolding text_at
  text_found e =
      let b = behind (run_at s n at) (λ p next. cond (utf8 (part s at n)) (got p next) (refused not_utf8)) e in
      let f = run_found b.first in
      let p = passed (utf8 (part s at n)) b.value b.next not_utf8 b.then in
      record { run = record { room = f.room; value = p.value ∙ f.value; ends = p.ends ∙ f.ends }; text = p.test }

-- a count that is an [int]
pub count_found : (s : List ℕ) (at : ℕ) {c : Option ℕ} {end : ℕ} → count_at s at ≡ got c end → Found s at 4 (natural (to_z w32 (be (part s at 4)))) c end
unfolding count_at
count_found s at e =
    let b = behind (signed_at w32 4 s at) (λ z next. got (natural z) next) e in
    found_as natural (signed_found 4 s at w32 b.first) b.then

-- some number of bytes is the number of the count, below 2 to the 31
pub record Counted (x n : ℕ) : Type 0 where
  pub small : n ≤ max_int
  pub value : n ≡ x

pub some_counted : (x n : ℕ) → some n ≡ natural (to_z w32 x) → Counted x n
some_counted x n e =
    elim (dec_le 2147483648 x) [
      | yes h ↦ absurd (some_none (e ∙ natural_none w32 x h))
      | no h ↦
          let k : x < 2147483648 = lt_of_not-le h in
          let v : n ≡ x = some_value (e ∙ natural_some w32 x k) in
          record { small = omega arith; value = v }
    ]
  where
    some_none : some n ≡ none → ⊥
    some_none p = let z : ◌≡◌ {A = ℕ} 0 1 = cc in omega arith

    some_value : {y : ℕ} → some n ≡ some y → n ≡ y
    some_value p = cc

-- a list of strings: its count, and behind it the strings
pub list_found : (s : List ℕ) (at : ℕ) {n start end : ℕ} → string_list_at s at ≡ got (strings n start) end → (short_at s at ≡ got n start) × (ps : List Place) × (strings_at s n start ≡ got ps end)
unfolding string_list_at listed
list_found s at e =
    let h = behind (short_at s at) (listed s) e in
    let k = behind (strings_at s h.value h.next) (λ ps next. got (strings h.value h.next) next) h.then in
    let many = ap (λ (x : Strings). x.left) (got_value k.then) in
    let from = ap (λ (x : Strings). x.at) (got_value k.then) in
    (h.first ∙ ap₂ got many from, k.value, sym (ap₂ (strings_at s) many from) ∙ k.first ∙ ap (got k.value) (got_next k.then))
