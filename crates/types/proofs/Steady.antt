-- A reader sees only what it reads: bytes behind that don't matter, and where some of it is cut off it says 12, or what it met before.
-- Said once for readers that are put together from others. Assumes nothing.
use Prim.Native.Nat.{ℕ, zero, suc, ◌+◌, ◌≤◌, ◌<◌}
use mathlib.Core.Path.{◌≡◌, refl, sym, ap, ap₂, ◌∙◌, subst}
use mathlib.Core.Bool.{Bool, true, false, cond}
use mathlib.Core.Logic.{◌⊎◌, inl, inr, ⊎_elim}
use mathlib.Core.List.{List, [], ◌∷◌, ◌++◌}
use mathlib.Core.Option.{Option, none, some}
use native.Mathlib.Omega.{arith}
use native.Mathlib.Nat.{le_refl, le_of_eq, le_of_lt, lt_of_not-le}
use native.Mathlib.Decide.{dec_le}
use lib.Dec.{leb}
use lib.ListN.{length, take, drop, length-append, take-append-drop}
use lib.Seq.{take-take, take-add, take-append-le, take_all, drop_at, length-take-le}
use mir.Syntax.{Width, w32, w64}
use mir.Val.{to_z}
use borrow.Author.Tests.{le-leb, leb-true}
use Rattle.refusal.specs.Refusal.{Refusal, negative_length, past_end, not_utf8}
use Rattle.types.specs.Answer.{Answer, got, refused, and_then}
use Rattle.types.specs.Number.{be, part}
use Rattle.utf8.specs.Utf8.{utf8}
use Rattle.types.specs.Read.{Place, place, number_at, signed_at, byte_at, short_at, int_at, long_at, run_at, text_at, uuid_at, natural, count_at, long_text, nullable_run, short_bytes_at, string_at, long_string_at, bytes_at, strings, strings_at, listed, string_list_at}
use Rattle.types.specs.Steady.{Local, Steady}
use Rattle.types.proofs.Reading.{then_got, then_refused, number_read, run_read, text_read}
use Rattle.types.proofs.Found.{got_refused, got_value, got_next, same_refusal, behind}

-- ---- parts

-- a part of the bytes before a position is a part of them
part_front : (s : List ℕ) (at n : ℕ) → at ≤ length s → drop at (take (at + n) s) ≡ part s at n
part_front s at n h = ap (drop at) (take-add at n s) ∙ drop_at (take at s) (part s at n) at (length-take-le at s h)

pub part_same : (s t : List ℕ) (at n : ℕ) → at + n ≤ length s → at + n ≤ length t → take (at + n) t ≡ take (at + n) s → part t at n ≡ part s at n
part_same s t at n h k e = sym (part_front t at n (omega arith)) ∙ ap (drop at) e ∙ part_front s at n (omega arith)

part_more : (s q : List ℕ) (at n : ℕ) → at + n ≤ length s → part (s ++ q) at n ≡ part s at n
part_more s q at n h =
    let l : length (s ++ q) ≡ length s + length q = length-append s q in
    part_same s (s ++ q) at n h (omega arith) (take-append-le (at + n) s q h)

-- the first k bytes are at most k, and at most as many as there are
length_take_most : (k : ℕ) (s : List ℕ) → (length (take k s) ≤ k) × (length (take k s) ≤ length s)
length_take_most k s =
    elim (dec_le k (length s)) [
      | yes h ↦ let e : length (take k s) ≡ k = length-take-le k s h in omega arith
      | no h ↦ let e : length (take k s) ≡ length s = ap length (take_all k s (le_of_lt (lt_of_not-le h))) in let j : length s < k = lt_of_not-le h in omega arith
    ]

-- ---- what follows

module _ {A : Type 0} (read : List ℕ → ℕ → Answer A) (steady : Steady read) (s : List ℕ) (at : ℕ) where
  -- bytes are appended behind what was read, or other bytes stand there
  pub appended : {v : A} {next : ℕ} → read s at ≡ got v next → (q : List ℕ) → read (s ++ q) at ≡ got v next
  appended {next = next} e q =
      let k : next ≤ length s = steady.bounded s at e in
      let l : length (s ++ q) ≡ length s + length q = length-append s q in
      steady.local.same s (s ++ q) at e (take-append-le next s q k) (omega arith)

  pub exchanged : {v : A} {next : ℕ} → read s at ≡ got v next → (q : List ℕ) → read (take next s ++ q) at ≡ got v next
  exchanged {next = next} e q =
      let k : next ≤ length s = steady.bounded s at e in
      let m : length (take next s) ≡ next = length-take-le next s k in
      let l : length (take next s ++ q) ≡ length (take next s) + length q = length-append (take next s) q in
      steady.local.same s (take next s ++ q) at e
      (take-append-le next (take next s) q (omega arith) ∙ take-take next next s (le_refl next)) (omega arith)

  pub appended_refused : {e : Refusal} → read s at ≡ refused e → (e ≡ past_end → ⊥) → (q : List ℕ) → read (s ++ q) at ≡ refused e
  appended_refused p n q = ⊎_elim (λ t. absurd (n t)) (λ r. r) (steady.local.firm s q at p)

  -- the first k bytes alone
  front : (k : ℕ) → take k s ++ drop k s ≡ s
  front k = take-append-drop k s

  same_front : (k : ℕ) {v : A} {next : ℕ} → read (take k s) at ≡ got v next → (read s at ≡ got v next) × (next ≤ k)
  same_front k {next = next} e =
      let h : next ≤ length (take k s) = steady.bounded (take k s) at e in
      let b = length_take_most k s in
      let l : next ≤ k = omega (arith, b.0) in
      let m : next ≤ length s = omega (arith, b.1) in
      (steady.local.same (take k s) s at e (sym (take-take next k s l)) m, l)

  -- some of what was read is cut off
  pub cut_off : {v : A} {next : ℕ} → read s at ≡ got v next → (k : ℕ) → k < next → read (take k s) at ≡ refused past_end
  cut_off {v} {next} e k h = by_answer (read (take k s) at) refl
    where
      by_answer : (a : Answer A) → read (take k s) at ≡ a → a ≡ refused past_end
      by_answer (got w m) p =
          let f = same_front k p in
          let z : m ≡ next = got_next (sym f.0 ∙ e) in
          let b : ⊥ = omega (arith, f.1) in
          absurd b
      by_answer (refused d) p =
          ⊎_elim (λ t. ap refused t) (λ r. absurd (got_refused (sym r ∙ ap (λ (x : List ℕ). read x at) (front k) ∙ e))) (steady.local.firm (take k s) (drop k s) at p)

  -- and where the whole is refused, what is left is refused with 12 or with the same refusal
  pub cut_off_refused : {e : Refusal} → read s at ≡ refused e → (k : ℕ) → (read (take k s) at ≡ refused past_end) ⊎ (read (take k s) at ≡ refused e)
  cut_off_refused {e} q k = by_answer (read (take k s) at) refl
    where
      by_answer : (a : Answer A) → read (take k s) at ≡ a → (a ≡ refused past_end) ⊎ (a ≡ refused e)
      by_answer (got w m) p = absurd (got_refused (sym q ∙ (same_front k p).0))
      by_answer (refused d) p =
          ⊎_elim (λ t. inl (ap refused t)) (λ r. inr (sym r ∙ ap (λ (x : List ℕ). read x at) (front k) ∙ q)) (steady.local.firm (take k s) (drop k s) at p)

-- ---- readers put together

-- what is read is turned into something else, which may tell where it was read
local_map : {A B : Type 0} {read : List ℕ → ℕ → Answer A} (f : ℕ → A → B) → Local read → Local (λ s at. and_then (read s at) (λ v next. got (f at v) next))
local_map {A} {B} {read} f l =
    record {
      on = λ s at e. let b = behind (read s at) (λ v next. got (f at v) next) e in subst (λ (k : ℕ). at ≤ k) (got_next b.then) (l.on s at b.first);
      inside = λ s at h e. let b = behind (read s at) (λ v next. got (f at v) next) e in subst (λ (k : ℕ). k ≤ length s) (got_next b.then) (l.inside s at h b.first);
      same = λ s t at {v} {next} e p h.
          let b = behind (read s at) (λ v next. got (f at v) next) e in
          let z : b.next ≡ next = got_next b.then in
          then_got (λ v next. got (f at v) next)
          (l.same s t at b.first (subst (λ (k : ℕ). take k t ≡ take k s) (sym z) p) (subst (λ (k : ℕ). k ≤ length t) (sym z) h))
          ∙ b.then;
      firm = λ s q at {e} r. firm_by s q at e (read s at) refl r;
    }
  where
    firm_by : (s q : List ℕ) (at : ℕ) (e : Refusal) (a : Answer A) → read s at ≡ a → and_then a (λ v next. got (f at v) next) ≡ refused e
        → (e ≡ past_end) ⊎ (and_then (read (s ++ q) at) (λ v next. got (f at v) next) ≡ refused e)
    firm_by s q at e (got v next) p r = absurd (got_refused (sym r))
    firm_by s q at e (refused d) p r =
        let z : d ≡ e = same_refusal r in
        ⊎_elim (λ t. inl (sym z ∙ t)) (λ t. inr (then_refused (λ v next. got (f at v) next) t ∙ ap refused z)) (l.firm s q at p)

-- one behind the other
local_then : {A B : Type 0} {read : List ℕ → ℕ → Answer A} {more : A → List ℕ → ℕ → Answer B} → Steady read → ((v : A) → Local (more v))
    → Local (λ s at. and_then (read s at) (λ v next. more v s next))
local_then {A} {B} {read} {more} r l =
    record {
      on = λ s at {v} {next} e.
          let b = behind (read s at) (λ v next. more v s next) e in
          let x : at ≤ b.next = r.local.on s at b.first in
          let y : b.next ≤ next = (l b.value).on s b.next b.then in
          omega arith;
      inside = λ s at h e. bounded_then s at e;
      same = λ s t at {v} {next} e p h.
          let b = behind (read s at) (λ v next. more v s next) e in
          let y : b.next ≤ next = (l b.value).on s b.next b.then in
          then_got (λ v next. more v t next)
          (r.local.same s t at b.first (sym (take-take b.next next t y) ∙ ap (take b.next) p ∙ take-take b.next next s y) (omega arith))
          ∙ (l b.value).same s t b.next b.then p h;
      firm = λ s q at {e} f. firm_by s q at e (read s at) refl f;
    }
  where
    bounded_then : (s : List ℕ) (at : ℕ) {w : B} {end : ℕ} → and_then (read s at) (λ v next. more v s next) ≡ got w end → end ≤ length s
    bounded_then s at e =
        let b = behind (read s at) (λ v next. more v s next) e in
        (l b.value).inside s b.next (r.bounded s at b.first) b.then

    firm_by : (s q : List ℕ) (at : ℕ) (e : Refusal) (a : Answer A) → read s at ≡ a → and_then a (λ v next. more v s next) ≡ refused e
        → (e ≡ past_end) ⊎ (and_then (read (s ++ q) at) (λ v next. more v (s ++ q) next) ≡ refused e)
    firm_by s q at e (got v next) p f =
        ⊎_elim inl (λ t. inr (then_got (λ v next. more v (s ++ q) next) (appended read r s at p q) ∙ t)) ((l v).firm s q next f)
    firm_by s q at e (refused d) p f =
        let z : d ≡ e = same_refusal f in
        ⊎_elim (λ t. inl (sym z ∙ t)) (λ t. inr (then_refused (λ v next. more v (s ++ q) next) t ∙ ap refused z)) (r.local.firm s q at p)

steady_map : {A B : Type 0} {read : List ℕ → ℕ → Answer A} (f : ℕ → A → B) → Steady read → Steady (λ s at. and_then (read s at) (λ v next. got (f at v) next))
steady_map {read = read} f r =
    record {
      local = local_map f r.local;
      bounded = λ s at e.
          let b = behind (read s at) (λ v next. got (f at v) next) e in
          subst (λ (k : ℕ). k ≤ length s) (got_next b.then) (r.bounded s at b.first);
    }

steady_then : {A B : Type 0} {read : List ℕ → ℕ → Answer A} {more : A → List ℕ → ℕ → Answer B} → Steady read → ((v : A) → Local (more v))
    → Steady (λ s at. and_then (read s at) (λ v next. more v s next))
steady_then {read = read} {more = more} r l =
    record {
      local = local_then r l;
      bounded = λ s at e.
          let b = behind (read s at) (λ v next. more v s next) e in
          (l b.value).inside s b.next (r.bounded s at b.first) b.then;
    }

-- nothing is read
local_none : {A : Type 0} (v : A) → Local (λ s at. got v at)
local_none v =
    record {
      on = λ s at e. le_of_eq (got_next e);
      inside = λ s at h e. subst (λ (k : ℕ). k ≤ length s) (got_next e) h;
      same = λ s t at e p h. e;
      firm = λ s q at r. absurd (got_refused (sym r));
    }

local_refused : {A : Type 0} (why : Refusal) → Local {A = A} (λ s at. refused why)
local_refused why =
    record {
      on = λ s at e. absurd (got_refused e);
      inside = λ s at h e. absurd (got_refused e);
      same = λ s t at e p h. absurd (got_refused e);
      firm = λ s q at r. inr r;
    }

-- ---- the notations

-- n bytes that mean something by themselves, where there is room for them and they pass a test
module _ {A : Type 0} (n : ℕ) (fit : List ℕ → Bool) (why : Refusal) (value : ℕ → List ℕ → A) where
  judged : Bool → Bool → ℕ → List ℕ → Answer A
  judged room fits at bytes = cond room (cond fits (got (value at bytes) (at + n)) (refused why)) (refused past_end)

  found : (room fits : Bool) (at : ℕ) (bytes : List ℕ) {v : A} {end : ℕ} → judged room fits at bytes ≡ got v end → (room ≡ true) × (fits ≡ true) × (value at bytes ≡ v) × (at + n ≡ end)
  unfolding judged
  found true true at bytes e = (refl, refl, got_value e, got_next e)
  found true false at bytes e = absurd (got_refused e)
  found false fits at bytes e = absurd (got_refused e)

  steady_part : (read : List ℕ → ℕ → Answer A) → ((s : List ℕ) (at : ℕ) → read s at ≡ judged (leb (at + n) (length s)) (fit (part s at n)) at (part s at n)) → Steady read
  unfolding judged
  steady_part read is =
      record {
        local = record {
          on = λ s at e. omega (arith, (met s at e).3);
          inside = λ s at h e. inside s at e;
          same = λ s t at {v} e p h.
              let f = met s at e in
              let k : at + n ≤ length t = subst (λ (j : ℕ). j ≤ length t) (sym f.3) h in
              let b = part_same s t at n (leb-true (at + n) (length s) f.0) k (subst (λ (j : ℕ). take j t ≡ take j s) (sym f.3) p) in
              is t at ∙ ap₂ (λ room fits. judged room fits at (part t at n)) (le-leb (at + n) (length t) k) (ap fit b ∙ f.1) ∙ ap₂ got (ap (value at) b ∙ f.2) f.3;
          firm = λ s q at {e} r. firm s q at (leb (at + n) (length s)) (fit (part s at n)) refl refl (sym (is s at) ∙ r);
        };
        bounded = inside;
      }
    where
      met : (s : List ℕ) (at : ℕ) {v : A} {end : ℕ} → read s at ≡ got v end → (leb (at + n) (length s) ≡ true) × (fit (part s at n) ≡ true) × (value at (part s at n) ≡ v) × (at + n ≡ end)
      met s at e = found (leb (at + n) (length s)) (fit (part s at n)) at (part s at n) (sym (is s at) ∙ e)

      inside : (s : List ℕ) (at : ℕ) {v : A} {end : ℕ} → read s at ≡ got v end → end ≤ length s
      inside s at e = let f = met s at e in omega (arith, f.3, leb-true (at + n) (length s) f.0)

      firm : (s q : List ℕ) (at : ℕ) {e : Refusal} (room fits : Bool) → leb (at + n) (length s) ≡ room → fit (part s at n) ≡ fits
          → judged room fits at (part s at n) ≡ refused e → (e ≡ past_end) ⊎ (read (s ++ q) at ≡ refused e)
      firm s q at true true h f r = absurd (got_refused (sym r))
      firm s q at false fits h f r = inl (sym (same_refusal r))
      firm s q at true false h f r =
          let k : at + n ≤ length s = leb-true (at + n) (length s) h in
          let l : length (s ++ q) ≡ length s + length q = length-append s q in
          inr (is (s ++ q) at ∙ ap₂ (λ room fits. judged room fits at (part (s ++ q) at n)) (le-leb (at + n) (length (s ++ q)) (omega arith)) (ap fit (part_more s q at n k) ∙ f) ∙ r)

pub steady_number : (n : ℕ) → Steady (number_at n)
unfolding judged
steady_number n = steady_part n (λ bytes. true) past_end (λ at. be) (number_at n) (λ s at. number_read n s at refl)

pub steady_run : (n : ℕ) → Steady (λ s at. run_at s n at)
unfolding judged
steady_run n = steady_part n (λ bytes. true) past_end (λ at bytes. place at n) (λ s at. run_at s n at) (λ s at. run_read n s at refl)

pub steady_text : (n : ℕ) → Steady (λ s at. text_at s n at)
unfolding judged
steady_text n = steady_part n utf8 not_utf8 (λ at bytes. place at n) (λ s at. text_at s n at) (λ s at. text_read n s at refl refl)

pub steady_signed : (w : Width) (n : ℕ) → Steady (signed_at w n)
unfolding signed_at
steady_signed w n = steady_map (λ at. to_z w) (steady_number n)

pub steady_byte : Steady byte_at
steady_byte = steady_number 1

pub steady_short : Steady short_at
steady_short = steady_number 2

pub steady_int : Steady int_at
steady_int = steady_signed w32 4

pub steady_long : Steady long_at
steady_long = steady_signed w64 8

pub steady_uuid : Steady uuid_at
steady_uuid = steady_run 16

pub steady_count : Steady count_at
unfolding count_at
steady_count = steady_map (λ at. natural) steady_int

pub steady_short_bytes : Steady short_bytes_at
unfolding short_bytes_at
steady_short_bytes = steady_then steady_short (λ n. (steady_run n).local)

pub steady_string : Steady string_at
unfolding string_at
steady_string = steady_then steady_short (λ n. (steady_text n).local)

local_long_text : (c : Option ℕ) → Local (λ s at. long_text s c at)
local_long_text none = local_refused negative_length
local_long_text (some n) = (steady_text n).local

pub steady_long_string : Steady long_string_at
unfolding long_string_at
steady_long_string = steady_then steady_count local_long_text

local_nullable : (c : Option ℕ) → Local (λ s at. nullable_run s c at)
local_nullable none = local_none none
local_nullable (some n) = local_map (λ at. some) (steady_run n).local

pub steady_bytes : Steady bytes_at
unfolding bytes_at
steady_bytes = steady_then steady_count local_nullable

pub local_strings : (n : ℕ) → Local (λ s at. strings_at s n at)
unfolding strings_at
local_strings zero = local_none []
local_strings (suc n) = local_then steady_string (λ p. local_map (λ (at : ℕ) (ps : List Place). p ∷ ps) (local_strings n))

local_listed : (n : ℕ) → Local (λ s start. listed s n start)
unfolding listed
local_listed n = local_map (λ (start : ℕ) (ps : List Place). strings n start) (local_strings n)

pub steady_string_list : Steady string_list_at
unfolding string_list_at
steady_string_list = steady_then steady_short local_listed
