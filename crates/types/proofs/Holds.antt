-- A list holds some bytes from an index on: what a writer leaves, and what a reader finds. Assumes nothing.
use Prim.Native.Nat.{ℕ, ◌+◌, ◌≤◌}
use mathlib.Core.Path.{◌≡◌, refl, sym, ap, ap₂, ◌∙◌, subst}
use mathlib.Core.Bool.{Bool, true, false, cond}
use mathlib.Core.List.{List, ◌++◌, append_assoc}
use native.Mathlib.Omega.{arith}
use lib.Dec.{leb}
use lib.ListN.{length, take, drop, length-append, length-drop, take-append-drop}
use lib.Seq.{take-take, take-add, take-append_seam, drop-append_seam, take-append-le, drop-append-le, drop_at, drop-drop, length-take-le}
use borrow.Author.Tests.{le-leb, leb-true}
use Rattle.refusal.specs.Refusal.{output_too_short}
use Rattle.types.specs.Answer.{Answer, got, refused}
use Rattle.types.specs.Number.{part}
use Rattle.types.specs.Read.{place, bytes_in}
use Rattle.types.specs.Write.{put, Check, fine, against, written, output, Wrote}
use Rattle.types.specs.ThereAndBack.{Holds, Stands}
use Rattle.types.proofs.Put.{length_put}
use Rattle.types.proofs.Reading.{bytes_there}

-- whatever stands around
pub holds_at : (p bs q : List ℕ) → Holds (p ++ (bs ++ q)) (length p) bs
holds_at p bs q =
    record {
      room = simp length-append (omega arith);
      is = ap (take (length bs)) (drop-append_seam p (bs ++ q)) ∙ take-append_seam bs q;
    }

-- more bytes behind
pub holds_more : (s q : List ℕ) (at : ℕ) (bs : List ℕ) → Holds s at bs → Holds (s ++ q) at bs
holds_more s q at bs h =
    let r : at + length bs ≤ length s = h.room in
    let l : length (s ++ q) ≡ length s + length q = length-append s q in
    let k : at ≤ length s = omega arith in
    let j : length bs ≤ length (drop at s) = rw length-drop (omega arith) in
    record {
      room = omega arith;
      is = ap (take (length bs)) (drop-append-le at s q k) ∙ take-append-le (length bs) (drop at s) q j ∙ h.is;
    }

-- n bytes that a list has are held by it
pub holds_part : (s : List ℕ) (at n : ℕ) → at + n ≤ length s → Holds s at (part s at n)
holds_part s at n h =
    let l : length (part s at n) ≡ n = length-take-le n (drop at s) (simp length-drop (omega arith)) in
    record { room = omega arith; is = ap (λ (k : ℕ). part s at k) l }

-- the bytes of a place that holds them
pub holds_bytes : (s : List ℕ) (at : ℕ) (bs : List ℕ) → Holds s at bs → bytes_in s (place at (length bs)) ≡ bs
holds_bytes s at bs h = bytes_there (length bs) s at (le-leb (at + length bs) (length s) h.room) ∙ h.is

-- ---- one behind the other

module _ (s : List ℕ) (at : ℕ) (a b : List ℕ) where
  module _ (h : Holds s at (a ++ b)) where
    both : part s at (length a + length b) ≡ a ++ b
    both = ap (λ (k : ℕ). part s at k) (sym (length-append a b)) ∙ h.is

    pub holds_left : Holds s at a
    holds_left =
        let l : length (a ++ b) ≡ length a + length b = length-append a b in
        let r : at + length (a ++ b) ≤ length s = h.room in
        let le : length a ≤ length a + length b = omega arith in
        record {
          room = omega arith;
          is = sym (take-take (length a) (length a + length b) (drop at s) le) ∙ ap (take (length a)) both ∙ take-append_seam a b;
        }

    pub holds_right : Holds s (at + length a) b
    holds_right =
        let l : length (a ++ b) ≡ length a + length b = length-append a b in
        let r : at + length (a ++ b) ≤ length s = h.room in
        let e : a ++ take (length b) (drop (length a) (drop at s)) ≡ a ++ b =
        ap (λ (x : List ℕ). x ++ take (length b) (drop (length a) (drop at s))) (sym holds_left.is)
        ∙ sym (take-add (length a) (length b) (drop at s))
        ∙ both
        in
        record {
          room = omega arith;
          is =
              ap (take (length b)) (sym (drop-drop (length a) at s))
              ∙ sym (drop-append_seam a (take (length b) (drop (length a) (drop at s))))
              ∙ ap (drop (length a)) e
              ∙ drop-append_seam a b;
        }

  pub holds_join : Holds s at a → Holds s (at + length a) b → Holds s at (a ++ b)
  holds_join h k =
      let l : length (a ++ b) ≡ length a + length b = length-append a b in
      let r : at + length a + length b ≤ length s = k.room in
      record {
        room = omega arith;
        is =
            ap (λ (j : ℕ). part s at j) l
            ∙ take-add (length a) (length b) (drop at s)
            ∙ ap₂ (λ (x y : List ℕ). x ++ take (length b) y) h.is (drop-drop (length a) at s)
            ∙ ap (λ (y : List ℕ). a ++ y) k.is;
      }

-- ---- what a writer leaves

pub holds_put : (out : List ℕ) (at : ℕ) (bs : List ℕ) → at + length bs ≤ length out → Holds (put out at bs) at bs
unfolding put
holds_put out at bs h =
    let k : at ≤ length out = omega arith in
    let l : length (put out at bs) ≡ length out = length_put out at bs h in
    let d : drop at (put out at bs) ≡ bs ++ drop (at + length bs) out =
    ap (drop at) (append_assoc (take at out) bs (drop (at + length bs) out)) ∙ drop_at (take at out) (bs ++ drop (at + length bs) out) at (length-take-le at out k)
    in
    record {
      room = omega arith;
      is = ap (take (length bs)) d ∙ take-append_seam bs (drop (at + length bs) out);
    }

-- what a writer leaves that answers a position
pub accepted : (check : Check) {out : List ℕ} {at : ℕ} {bs left : List ℕ} {next : ℕ} → Wrote check out at bs (got tt next) left → Stands check at bs left next
accepted (against why) w = let z : ◌≡◌ {A = ℕ} 0 1 = cc w.says in let f : ⊥ = omega arith in absurd f
accepted fine {out} {at} {bs} {left} {next} w = go (leb (at + length bs) (length out)) refl w.says w.leaves
  where
    go : (t : Bool) → leb (at + length bs) (length out) ≡ t → got (tt {0}) next ≡ cond t (got (tt {0}) (at + length bs)) (refused output_too_short) → left ≡ cond t (put out at bs) out
        → Stands fine at bs left next
    go true p e q =
        let end : next ≡ at + length bs = cc in
        record {
          nothing = refl;
          holds = subst (λ (l : List ℕ). Holds l at bs) (sym q) (holds_put out at bs (leb-true (at + length bs) (length out) p));
          end = end;
        }
    go false p e q = let z : ◌≡◌ {A = ℕ} 0 1 = cc in let f : ⊥ = omega arith in absurd f

-- what may be written is, where there is room
pub wrote_there : {check : Check} {out : List ℕ} {at : ℕ} {bs : List ℕ} → check ≡ fine → at + length bs ≤ length out
    → {answer : Answer Unit} {left : List ℕ} → Wrote check out at bs answer left → (answer ≡ got (tt {0}) (at + length bs)) × (left ≡ put out at bs)
wrote_there {check} {out} {at} {bs} c h w =
    let f : leb (at + length bs) (length out) ≡ true = le-leb (at + length bs) (length out) h in (
      w.says ∙ ap (λ (k : Check). written k out at bs) c ∙ ap (λ (t : Bool). cond t (got (tt {0}) (at + length bs)) (refused output_too_short)) f,
      w.leaves ∙ ap (λ (k : Check). output k out at bs) c ∙ ap (λ (t : Bool). cond t (put out at bs) out) f,
    )

-- and what is written where it stands already changes nothing
pub put_same : (s : List ℕ) (at : ℕ) (bs : List ℕ) → Holds s at bs → put s at bs ≡ s
unfolding put
put_same s at bs h =
    ap (λ (l : List ℕ). take at s ++ l ++ drop (at + length bs) s) (sym h.is)
    ∙ append_assoc (take at s) (part s at (length bs)) (drop (at + length bs) s)
    ∙ ap (λ (l : List ℕ). take at s ++ (part s at (length bs) ++ l)) (sym (drop-drop (length bs) at s))
    ∙ ap (λ (l : List ℕ). take at s ++ l) (take-append-drop (length bs) (drop at s))
    ∙ take-append-drop at s

pub written_again : {check : Check} {at : ℕ} {bs s : List ℕ} {next : ℕ} → Stands check at bs s next
    → {answer : Answer Unit} {left : List ℕ} → Wrote check s at bs answer left → (answer ≡ got (tt {0}) next) × (left ≡ s)
written_again {check} {at} {bs} {s} {next} st w =
    let r = wrote_there st.nothing st.holds.room w in
    (r.0 ∙ ap (got (tt {0})) (sym st.end), r.1 ∙ put_same s at bs st.holds)
