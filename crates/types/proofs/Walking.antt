-- Reading some strings and walking along them agree: the same texts, the same end, the same refusal. Assumes nothing.
use Prim.Native.Nat.{ℕ, zero, suc}
use mathlib.Core.Path.{◌≡◌, refl, sym, ap, ap₂, ◌∙◌, subst}
use mathlib.Core.List.{List, [], ◌∷◌}
use mathlib.Core.Option.{Option, none, some, get_or}
use native.Mathlib.Omega.{arith}
use lib.ListN.{length}
use Rattle.refusal.specs.Refusal.{Refusal}
use Rattle.types.specs.Answer.{Answer, got, refused, and_then}
use Rattle.types.specs.Read.{Place, strings, string_at, strings_at, string_list_at, step_at}
use Rattle.types.specs.Along.{Walks, ends, stops, meets}
use Rattle.types.proofs.Reading.{then_got, then_refused}
use Rattle.types.proofs.Found.{behind, got_value, got_next, got_refused, same_refusal, list_found}

-- n strings that are read are met one after the other, and no other
pub walk_read : (s : List ℕ) (n at : ℕ) {ps : List Place} {end : ℕ} → strings_at s n at ≡ got ps end → Walks s n at ps (got tt end) × (length ps ≡ n)
unfolding strings_at step_at
walk_read s zero at {ps} {end} e =
    subst (λ (qs : List Place). Walks s zero at qs (got tt end) × (length qs ≡ zero)) (got_value e) (ends (ap (got none) (got_next e)), refl)
walk_read s (suc n) at {ps} {end} e =
    let h = behind (string_at s at) (λ p next. and_then (strings_at s n next) (λ ps end. got (p ∷ ps) end)) e in
    let k = behind (strings_at s n h.next) (λ ps end. got (h.value ∷ ps) end) h.then in
    let i = walk_read s n h.next (k.first ∙ ap (got k.value) (got_next k.then)) in
    subst (λ (qs : List Place). Walks s (suc n) at qs (got tt end) × (length qs ≡ suc n)) (got_value k.then)
    (meets (then_got (λ p next. got (some (p, n)) next) h.first) i.0, ap suc i.1)

-- where they are refused, so is the walk, with the same refusal
module _ (s : List ℕ) (n at : ℕ) (why : Refusal) (rest : (next : ℕ) → strings_at s n next ≡ refused why → (ps : List Place) × Walks s n next ps (refused why)) where
  refused_behind : {p : Place} {next : ℕ} → string_at s at ≡ got p next → (r : Answer (List Place)) → strings_at s n next ≡ r
      → and_then r (λ ps end. got (p ∷ ps) end) ≡ refused why → (ps : List Place) × Walks s (suc n) at ps (refused why)
  unfolding step_at
  refused_behind f (got ps end) q e = absurd (got_refused (sym e))
  refused_behind {p} {next} f (refused d) q e =
      let i = rest next (q ∙ ap refused (same_refusal e)) in
      (p ∷ i.0, meets (then_got (λ p next. got (some (p, n)) next) f) i.1)

  refused_from : (a : Answer Place) → string_at s at ≡ a → and_then a (λ p next. and_then (strings_at s n next) (λ ps end. got (p ∷ ps) end)) ≡ refused why
      → (ps : List Place) × Walks s (suc n) at ps (refused why)
  unfolding step_at
  refused_from (got p next) f e = refused_behind f (strings_at s n next) refl e
  refused_from (refused d) f e = ([], stops (then_refused (λ p next. got (some (p, n)) next) (f ∙ ap refused (same_refusal e))))

pub walk_refused : (s : List ℕ) (n at : ℕ) {why : Refusal} → strings_at s n at ≡ refused why → (ps : List Place) × Walks s n at ps (refused why)
unfolding strings_at
walk_refused s zero at e = absurd (got_refused (sym e))
walk_refused s (suc n) at {why} e = refused_from s n at why (λ next f. walk_refused s n next f) (string_at s at) refl e

-- the strings of a list that is read are walked along from the first on: as many texts as the count says, and the same end
pub list_walks : (s : List ℕ) (at : ℕ) {n start end : ℕ} → string_list_at s at ≡ got (strings n start) end
    → (ps : List Place) × Walks s n start ps (got tt end) × (length ps ≡ n)
list_walks s at {n} {start} e =
    let r = list_found s at e in
    let w = walk_read s n start r.2 in
    (r.1, w.0, w.1)

-- and there is only one walk: the steps say all of it
none_some : {x : Place × ℕ} → none ≡ some x → ⊥
none_some e = let z : ◌≡◌ {A = ℕ} 0 1 = cc in omega arith

some_some : {x y : Place × ℕ} → some x ≡ some y → x ≡ y
some_some {x} e = ap (λ (o : Option (Place × ℕ)). get_or o x) e

pub walk_once : (s : List ℕ) {left at : ℕ} {ps qs : List Place} {a b : Answer (Unit {0})} → Walks s left at ps a → Walks s left at qs b → (ps ≡ qs) × (a ≡ b)
walk_once s (ends p) (ends q) = (refl, ap (got tt) (got_next (sym p ∙ q)))
walk_once s (ends p) (stops q) = absurd (got_refused (sym q ∙ p))
walk_once s (ends p) (meets q w) = absurd (none_some (got_value (sym p ∙ q)))
walk_once s (stops p) (ends q) = absurd (got_refused (sym p ∙ q))
walk_once s (stops p) (stops q) = (refl, ap refused (same_refusal (sym p ∙ q)))
walk_once s (stops p) (meets q w) = absurd (got_refused (sym p ∙ q))
walk_once s (meets p v) (ends q) = absurd (none_some (got_value (sym q ∙ p)))
walk_once s (meets p v) (stops q) = absurd (got_refused (sym q ∙ p))
walk_once s (meets {less = less} {next = next} {p = x} p v) (meets {less = fewer} {next = after} {p = y} {ps = qs} {end = b} q w) =
    let here : Place × ℕ = (x, less) in
    let there : Place × ℕ = (y, fewer) in
    let step : got (some here) next ≡ got (some there) after = sym p ∙ q in
    let pair : here ≡ there = some_some (got_value step) in
    let rest : Walks s less next qs b =
    subst (λ (k : ℕ). Walks s k next qs b) (sym (ap (λ (z : Place × ℕ). z.1) pair)) (subst (λ (k : ℕ). Walks s fewer k qs b) (sym (got_next step)) w)
    in
    let i = walk_once s v rest in
    (ap₂ (λ (z : Place) (zs : List Place). z ∷ zs) (ap (λ (z : Place × ℕ). z.0) pair) i.0, i.1)
