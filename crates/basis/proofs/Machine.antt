-- What holds of any machine whose calls keep one law: using up a piece ends soon and in one way, tells what was still to come, and two pieces are used up as both together. So however a stream
-- is cut, its caller hears the same. Assumes nothing.
use Prim.Native.Nat.{ℕ, zero, suc, ◌+◌, ◌≤◌, ◌<◌}
use mathlib.Core.Path.{◌≡◌, refl, sym, ap, ap₂, ◌∙◌, subst}
use mathlib.Core.List.{List, [], ◌∷◌, ◌++◌}
use native.Mathlib.Nat.{add_assoc}
use native.Mathlib.Omega.{arith}
use lib.ListN.{length, drop, length-drop}
use lib.Seq.{drop-append-add, drop-append-le}
use Rattle.basis.specs.Lists.{joined}
use Rattle.basis.specs.Machine.{Reply, hands_on, asks_more, refuses_with, Step, step, Dated, dated, Story, says, refused_after, holding, saying, Close, used_up, refused_with, Uses, by_more, by_refusal, after_one, Same, Ends, Hears, all_given, one_used, one_refused}

-- ---- a machine and its law

-- Good are the states that a call works on; Sure those whose caller has touched nothing in between; one that Waits has nothing to hand on before another byte comes. ahead is at least how much can still be
-- handed on without one, and rest is what is still to be told, with so many bytes taken and these bytes of the stream to come.
pub record Machine (S X E H : Type 0) : Type 1 where
  pub call : S → List ℕ → Step S X E
  pub holds : S → H
  pub Good : S → Type 0
  pub Sure : S → Type 0
  pub Waits : S → Type 0
  pub ahead : S → ℕ
  pub rest : S → ℕ → List ℕ → Story X E H

-- with n bytes taken before
abbrev pub later : {S X E : Type 0} → ℕ → Step S X E → Step S X E
later n o = step o.reply (n + o.taken) o.next

-- a call that took n bytes and hands x on, asks for more, or refuses. What follows the piece does not change what is handed on or refused; asked for more, it goes on as if that had come in the same piece.
pub record Hands {S X E H : Type 0} (M : Machine S X E H) (s : S) (piece : List ℕ) (n : ℕ) (x : X) (t : S) : Type 0 where
  pub less : M.ahead t + length (drop n piece) < M.ahead s + length piece
  pub sure : M.Sure s → M.Sure t
  pub same : M.Sure s → (taken : ℕ) (stream : List ℕ) → M.rest s taken (piece ++ stream) ≡ says (dated (taken + n) x) (M.rest t (taken + n) (drop n piece ++ stream))
  pub longer : (q : List ℕ) → M.call s (piece ++ q) ≡ step (hands_on x) n t

pub record Asks {S X E H : Type 0} (M : Machine S X E H) (s : S) (piece : List ℕ) (n : ℕ) (t : S) : Type 0 where
  pub all : n ≡ length piece
  pub waits : M.Waits t
  pub sure : M.Sure s → M.Sure t
  pub same : M.Sure s → (taken : ℕ) (stream : List ℕ) → M.rest s taken (piece ++ stream) ≡ M.rest t (taken + n) stream
  pub both : (q : List ℕ) → M.call s (piece ++ q) ≡ later n (M.call t q)

pub record Refuses {S X E H : Type 0} (M : Machine S X E H) (s : S) (piece : List ℕ) (n : ℕ) (e : E) (t : S) : Type 0 where
  pub same : M.Sure s → (taken : ℕ) (stream : List ℕ) → M.rest s taken (piece ++ stream) ≡ refused_after e (taken + n)
  pub longer : (q : List ℕ) → M.call s (piece ++ q) ≡ step (refuses_with e) n t

abbrev pub Does : {S X E H : Type 0} → Machine S X E H → S → List ℕ → ℕ → Reply X E → S → Type 0
Does M s piece n (hands_on x) t = Hands M s piece n x t
Does M s piece n asks_more t = Asks M s piece n t
Does M s piece n (refuses_with e) t = Refuses M s piece n e t

pub record Kept {S X E H : Type 0} (M : Machine S X E H) (s : S) (piece : List ℕ) (o : Step S X E) : Type 0 where
  pub within : o.taken ≤ length piece
  pub good : M.Good o.next
  pub does : Does M s piece o.taken o.reply o.next

pub record Lawful {S X E H : Type 0} (M : Machine S X E H) : Type 0 where
  pub keeps : (s : S) (piece : List ℕ) → M.Good s → Kept M s piece (M.call s piece)
  pub quiet : (s : S) (taken : ℕ) → M.Good s → M.Sure s → M.Waits s → M.rest s taken [] ≡ holding (M.holds s)

-- where no piece is left, the machine waits
abbrev pub Open : {S X E H : Type 0} → Machine S X E H → S → List (List ℕ) → Type 0
Open M s [] = M.Waits s
Open M s (piece ∷ pieces) = Unit {0}

-- ---- what is said

pub saying_both : {X E H : Type 0} (first later : List (Dated X)) (m : Story X E H) → saying (first ++ later) m ≡ saying first (saying later m)
saying_both [] later m = refl
saying_both (x ∷ first) later m = ap (says x) (saying_both first later m)

-- ---- replies and what they come with are told apart

handed : {X E : Type 0} → X → Reply X E → X
handed d (hands_on x) = x
handed d asks_more = d
handed d (refuses_with e) = d

refusal : {X E : Type 0} → E → Reply X E → E
refusal d (hands_on x) = d
refusal d asks_more = d
refusal d (refuses_with e) = e

tag_of : {X E : Type 0} → Reply X E → ℕ
tag_of (hands_on x) = 0
tag_of asks_more = 1
tag_of (refuses_with e) = 2

module _ {S X E : Type 0} where
  tag : Step S X E → ℕ
  unfolding tag_of
  tag o = tag_of o.reply

  pub hands_asks : {x : X} {m n : ℕ} {s t : S} → step {E = E} (hands_on x) m s ≡ step asks_more n t → ⊥
  unfolding tag
  hands_asks e = let z : ◌≡◌ {A = ℕ} 0 1 = ap tag e in omega arith

  pub hands_refuses : {x : X} {e : E} {m n : ℕ} {s t : S} → step (hands_on x) m s ≡ step (refuses_with e) n t → ⊥
  unfolding tag
  hands_refuses q = let z : ◌≡◌ {A = ℕ} 0 2 = ap tag q in omega arith

  pub asks_refuses : {e : E} {m n : ℕ} {s t : S} → step {X = X} asks_more m s ≡ step (refuses_with e) n t → ⊥
  unfolding tag
  asks_refuses q = let z : ◌≡◌ {A = ℕ} 1 2 = ap tag q in omega arith

  pub same_handed : {x y : X} {m n : ℕ} {s t : S} → step {E = E} (hands_on x) m s ≡ step (hands_on y) n t → x ≡ y
  unfolding handed
  same_handed {x} q = ap (λ (o : Step S X E). handed x o.reply) q

  pub same_refusal : {e f : E} {m n : ℕ} {s t : S} → step {X = X} (refuses_with e) m s ≡ step (refuses_with f) n t → e ≡ f
  unfolding refusal
  same_refusal {e} q = ap (λ (o : Step S X E). refusal e o.reply) q

-- ---- in one way only

-- the rest of a caller's loop, by what a call came to
abbrev From : {S X E : Type 0} → (S → List ℕ → Step S X E) → ℕ → List ℕ → Step S X E → List (Dated X) → Close E → ℕ → S → Type 0
From call taken piece o xs c end u = Uses call o.next (taken + o.taken) (drop o.taken piece) xs c end u

pub one_way : {S X E : Type 0} {call : S → List ℕ → Step S X E} {s t u : S} {taken m n : ℕ} {piece : List ℕ} {xs ys : List (Dated X)} {c d : Close E}
    → Uses call s taken piece xs c m t → Uses call s taken piece ys d n u → Same xs ys c d m n t u
one_way {taken = taken} (by_more e) (by_more f) =
    record { says = refl; ends = refl; taken = ap (λ o. taken + o.taken) (sym e ∙ f); leaves = ap (λ o. o.next) (sym e ∙ f) }
one_way (by_more e) (by_refusal f) = absurd (asks_refuses (sym e ∙ f))
one_way (by_more e) (after_one f on) = absurd (hands_asks (sym f ∙ e))
one_way (by_refusal e) (by_more f) = absurd (asks_refuses (sym f ∙ e))
one_way {taken = taken} (by_refusal e) (by_refusal f) =
    record { says = refl; ends = ap refused_with (same_refusal (sym e ∙ f)); taken = ap (λ o. taken + o.taken) (sym e ∙ f); leaves = ap (λ o. o.next) (sym e ∙ f) }
one_way (by_refusal e) (after_one f on) = absurd (hands_refuses (sym f ∙ e))
one_way (after_one e on) (by_more f) = absurd (hands_asks (sym e ∙ f))
one_way (after_one e on) (by_refusal f) = absurd (hands_refuses (sym e ∙ f))
one_way {call = call} {u = u} {taken = taken} {n = end} {piece = piece} {d = d} (after_one {xs = ws} e on) (after_one {n = k} {x = y} {xs = zs} f on') =
    let q = sym e ∙ f in
    let i = one_way on (subst (λ o. From call taken piece o zs d end u) (sym q) on') in
    record {
      says = ap₂ (λ i x. dated (taken + i) x ∷ ws) (ap (λ o. o.taken) q) (same_handed q) ∙ ap (λ l. dated (taken + k) y ∷ l) i.says;
      ends = i.ends;
      taken = i.taken;
      leaves = i.leaves;
    }

-- ---- of a machine that keeps its law

module _ {S X E H : Type 0} (M : Machine S X E H) (law : Lawful M) where
  -- what is known of a call that came to this
  pub kept_by : {s : S} {piece : List ℕ} {o : Step S X E} → M.Good s → M.call s piece ≡ o → Kept M s piece o
  kept_by {s} {piece} g e = subst (Kept M s piece) e (law.keeps s piece g)

  -- ---- it tells what was still to come

  -- what comes once the piece is used up
  abbrev then : Close E → ℕ → S → List ℕ → Story X E H
  then used_up end t stream = M.rest t end stream
  then (refused_with e) end t stream = refused_after e end

  -- where it was used up, all of it was taken and the machine waits
  abbrev Rests : Close E → S → S → ℕ → List ℕ → ℕ → Type 0
  Rests used_up s t taken piece end = (end ≡ taken + length piece) × M.Waits t × (M.Sure s → M.Sure t)
  Rests (refused_with e) s t taken piece end = Unit {0}

  pub record Told (s : S) (taken : ℕ) (piece : List ℕ) (xs : List (Dated X)) (c : Close E) (end : ℕ) (t : S) : Type 0 where
    pub good : M.Good t
    pub within : end ≤ taken + length piece
    pub rests : Rests c s t taken piece end
    pub same : M.Sure s → (stream : List ℕ) → M.rest s taken (piece ++ stream) ≡ saying xs (then c end t stream)

  pub told : {s t : S} {taken end : ℕ} {piece : List ℕ} {xs : List (Dated X)} {c : Close E} → M.Good s → Uses M.call s taken piece xs c end t → Told s taken piece xs c end t
  told {taken = taken} g (by_more {n = n} e) =
      let k = kept_by g e in
      record {
        good = k.good;
        within = omega (arith, k.within);
        rests = (ap (λ (i : ℕ). taken + i) k.does.all, k.does.waits, k.does.sure);
        same = λ a stream. k.does.same a taken stream;
      }
  told {taken = taken} g (by_refusal {n = n} e) =
      let k = kept_by g e in
      record { good = k.good; within = omega (arith, k.within); rests = tt; same = λ a stream. k.does.same a taken stream }
  told {s} {t} {taken} {end} {piece} {c = c} g (after_one {t = v} {n = n} {x = x} e on) =
      let k = kept_by g e in
      let i = told k.good on in
      let l : length (drop n piece) + n ≡ length piece = omega (arith, length-drop n piece, k.within) in
      record {
        good = i.good;
        within = omega (arith, i.within);
        rests = by c i.rests;
        same = λ a stream. k.does.same a taken stream ∙ ap (says (dated (taken + n) x)) (i.same (k.does.sure a) stream);
      }
    where
      by : (c : Close E) → Rests c v t (taken + n) (drop n piece) end → Rests c s t taken piece end
      by used_up r = (omega (arith, r.0, length-drop n piece, (kept_by g e).within), r.1, λ a. r.2 ((kept_by g e).does.sure a))
      by (refused_with e) r = tt

  -- ---- it ends soon

  ends_by : (fuel : ℕ) (s : S) (taken : ℕ) (piece : List ℕ) → M.Good s → M.ahead s + length piece < fuel → Ends M.call s taken piece (M.ahead s + length piece)
  ends_by zero s taken piece g h = absurd (omega arith)
  ends_by (suc fuel) s taken piece g h =
      let o : Step S X E = M.call s piece in
      by o.reply o.taken o.next refl (λ t taken' piece' g' h'. ends_by fuel t taken' piece' g' h')
    where
      by : (reply : Reply X E) (n : ℕ) (t : S) → M.call s piece ≡ step reply n t
          → ((t : S) (taken : ℕ) (piece : List ℕ) → M.Good t → M.ahead t + length piece < fuel → Ends M.call t taken piece (M.ahead t + length piece))
          → Ends M.call s taken piece (M.ahead s + length piece)
      by asks_more n t e goes_on = record { handed = []; close = used_up; end = taken + n; last = t; uses = by_more e; soon = omega arith }
      by (refuses_with refusal) n t e goes_on = record { handed = []; close = refused_with refusal; end = taken + n; last = t; uses = by_refusal e; soon = omega arith }
      by (hands_on x) n t e goes_on =
          let k = kept_by g e in
          let i = goes_on t (taken + n) (drop n piece) k.good (omega (arith, k.does.less)) in
          record {
            handed = dated (taken + n) x ∷ i.handed;
            close = i.close;
            end = i.end;
            last = i.last;
            uses = after_one e i.uses;
            soon = omega (arith, i.soon, k.does.less);
          }

  pub ends : (s : S) (taken : ℕ) (piece : List ℕ) → M.Good s → Ends M.call s taken piece (M.ahead s + length piece)
  ends s taken piece g = ends_by (suc (M.ahead s + length piece)) s taken piece g (omega arith)

  -- ---- two pieces

  -- the second after the first, as if both had come together
  module _ (q : List ℕ) where
    passed : {s t : S} {p : List ℕ} {n : ℕ} → Kept M s p (step asks_more n t) → (k : ℕ) → drop k q ≡ drop (n + k) (p ++ q)
    passed {p = p} {n} i k = sym (ap (λ (j : ℕ). drop (j + k) (p ++ q)) i.does.all ∙ drop-append-add p q k)

    then_more : {s t u : S} {taken n end : ℕ} {p : List ℕ} {xs : List (Dated X)} {c : Close E} → M.Good s → M.call s p ≡ step asks_more n t → Uses M.call t (taken + n) q xs c end u
        → Uses M.call s taken (p ++ q) xs c end u
    then_more {s} {t} {u} {taken} {n} {p = p} g e (by_more {n = k} f) =
        subst (λ (i : ℕ). Uses M.call s taken (p ++ q) [] used_up i u) (sym (add_assoc taken n k)) (by_more ((kept_by g e).does.both q ∙ ap (later n) f))
    then_more {s} {t} {u} {taken} {n} {p = p} g e (by_refusal {n = k} {e = refusal} f) =
        subst (λ (i : ℕ). Uses M.call s taken (p ++ q) [] (refused_with refusal) i u) (sym (add_assoc taken n k)) (by_refusal ((kept_by g e).does.both q ∙ ap (later n) f))
    then_more {s} {t} {u} {taken} {n} {end} {p} {c = c} g e (after_one {t = v} {n = k} {x = x} {xs = xs} f on) =
        subst (λ (i : ℕ). Uses M.call s taken (p ++ q) (dated i x ∷ xs) c end u) (sym (add_assoc taken n k))
        (after_one ((kept_by g e).does.both q ∙ ap (later n) f)
        (subst (λ (l : List ℕ). Uses M.call v (taken + (n + k)) l xs c end u) (passed (kept_by g e) k) (subst (λ (i : ℕ). Uses M.call v i (drop k q) xs c end u) (add_assoc taken n k) on)))

    pub one_then : {s t u : S} {taken n end : ℕ} {p : List ℕ} {xs ys : List (Dated X)} {c : Close E} → M.Good s → Uses M.call s taken p xs used_up n t → Uses M.call t n q ys c end u
        → Uses M.call s taken (p ++ q) (xs ++ ys) c end u
    one_then g (by_more e) later = then_more g e later
    one_then {u = u} {taken = taken} {end = end} {p = p} {ys = ys} {c = c} g (after_one {t = v} {n = k} {xs = xs} e on) later =
        let i = kept_by g e in
        after_one (i.does.longer q)
        (subst (λ (l : List ℕ). Uses M.call v (taken + k) l (xs ++ ys) c end u) (sym (drop-append-le k p q i.within)) (one_then i.good on later))

    -- once it is refused, what follows is not looked at
    pub refused_longer : {s t : S} {taken n : ℕ} {p : List ℕ} {xs : List (Dated X)} {e : E} → M.Good s → Uses M.call s taken p xs (refused_with e) n t → Uses M.call s taken (p ++ q) xs (refused_with e) n t
    refused_longer g (by_refusal e) = by_refusal ((kept_by g e).does.longer q)
    refused_longer {t = t} {taken = taken} {n = n} {p = p} {e = refusal} g (after_one {t = v} {n = k} {xs = xs} e on) =
        let i = kept_by g e in
        after_one (i.does.longer q)
        (subst (λ (l : List ℕ). Uses M.call v (taken + k) l xs (refused_with refusal) n t) (sym (drop-append-le k p q i.within)) (refused_longer i.good on))

  -- ---- all pieces

  open_waiting : (s : S) (pieces : List (List ℕ)) → M.Waits s → Open M s pieces
  open_waiting s [] w = w
  open_waiting s (piece ∷ pieces) w = tt

  -- what is heard is what was to come
  pub heard_is : {s : S} {taken : ℕ} {pieces : List (List ℕ)} {m : Story X E H} → Hears M.call M.holds s taken pieces m → M.Good s → M.Sure s → Open M s pieces → m ≡ M.rest s taken (joined pieces)
  unfolding joined
  heard_is {s} {taken} all_given g a w = sym (law.quiet s taken g a w)
  heard_is (one_used {t = t} {piece = piece} {pieces = pieces} {xs = xs} u on) g a w =
      let i = told g u in
      ap (saying xs) (heard_is on i.good (i.rests.2 a) (open_waiting t pieces i.rests.1)) ∙ sym (i.same a (joined pieces))
  heard_is (one_refused {pieces = pieces} u) g a w = sym ((told g u).same a (joined pieces))

-- The loop over the pieces always comes to its end, if each piece does.
pub hears_all : {S X E H : Type 0} (call : S → List ℕ → Step S X E) (holds : S → H) (most : S → List ℕ → ℕ) → ((s : S) (taken : ℕ) (piece : List ℕ) → Ends call s taken piece (most s piece))
    → (pieces : List (List ℕ)) (s : S) (taken : ℕ) → (m : Story X E H) × Hears call holds s taken pieces m
hears_all call holds most up [] s taken = (holding (holds s), all_given)
hears_all {S} {X} {E} {H} call holds most up (piece ∷ pieces) s taken = by u.close u.uses (λ t n. hears_all call holds most up pieces t n)
  where
    u : Ends call s taken piece (most s piece)
    u = up s taken piece

    by : (c : Close E) → Uses call s taken piece u.handed c u.end u.last → ((t : S) (n : ℕ) → (m : Story X E H) × Hears call holds t n pieces m)
        → (m : Story X E H) × Hears call holds s taken (piece ∷ pieces) m
    by used_up w goes_on = let i = goes_on u.last u.end in (saying u.handed i.0, one_used w i.1)
    by (refused_with e) w goes_on = (saying u.handed (refused_after e u.end), one_refused w)
