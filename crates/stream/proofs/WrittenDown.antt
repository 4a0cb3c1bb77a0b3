-- What the two outputs of `collect` hold where it has written down all: the bytes of the envelopes one after the other, and a mark for each answer, in order. Assumes nothing.
use Prim.Native.Nat.{ℕ, ◌+◌, ◌≤◌, ◌<◌}
use mathlib.Core.Path.{◌≡◌, refl, sym, ap, ◌∙◌, subst}
use mathlib.Core.Bool.{Bool, true, false, cond, ◌&&◌}
use mathlib.Core.List.{List, [], ◌∷◌, ◌++◌, map, append_assoc, append-nil}
use native.Mathlib.Numerals.{add-one}
use native.Mathlib.Omega.{arith}
use borrow.Author.Tests.{ltb-true, leb-true}
use lib.Dec.{leb, ltb}
use lib.ListN.{length, take, set, length-set}
use lib.Seq.{take-suc-set}
use Rattle.types.specs.Write.{put, joined}
use Rattle.types.proofs.Cut.{both_true}
use Rattle.types.proofs.Put.{length_put}
use Rattle.basis.specs.Machine.{Dated, says, refused_after, holding}
use Rattle.stream.specs.Meaning.{Said, Meaning}
use Rattle.stream.specs.Collect.{bytes_of, mark_of, Tape, tape, blank, room_on, noted, collected, answers_of, WrittenDown}
use Rattle.stream.proofs.Lists.{take_put}

map_last : {A : Type 0} (g : Dated Said → A) (xs : List (Dated Said)) (x : Dated Said) → map g (xs ++ x ∷ []) ≡ map g xs ++ g x ∷ []
map_last g [] x = refl
map_last g (y ∷ xs) x = ap (λ l. g y ∷ l) (map_last g xs x)

joined_last : (ls : List (List ℕ)) (b : List ℕ) → joined (ls ++ b ∷ []) ≡ joined ls ++ b
unfolding joined
joined_last [] b = append-nil b
joined_last (l ∷ ls) b = ap (λ (k : List ℕ). l ++ k) (joined_last ls b) ∙ sym (append_assoc l (joined ls) b)

-- ---- one more

module _ (x : Dated Said) (t : Tape) where
  abbrev room : Bool
  room = room_on t.answers t.bytes t.complete (length t.envelopes) (length t.marks) (length (bytes_of x.what))

  abbrev with_it : Tape
  with_it = tape (t.answers + 1) (t.bytes + length (bytes_of x.what)) true (put t.envelopes t.bytes (bytes_of x.what)) (set t.marks t.answers (mark_of x.what))

  abbrev without : Tape
  without = tape t.answers t.bytes false t.envelopes t.marks

  noted_by : (b : Bool) → room ≡ b → noted (bytes_of x.what) (mark_of x.what) t ≡ cond b with_it without
  unfolding noted
  noted_by b e = ap (λ (r : Bool). cond r with_it without) e

  holds_one : (xs : List (Dated Said)) → WrittenDown t xs → room ≡ true → WrittenDown with_it (xs ++ x ∷ [])
  holds_one xs h e =
      let u = both_true t.complete (ltb t.answers (length t.marks) && leb (t.bytes + length (bytes_of x.what)) (length t.envelopes)) e in
      let v = both_true (ltb t.answers (length t.marks)) (leb (t.bytes + length (bytes_of x.what)) (length t.envelopes)) u.1 in
      let a : t.answers < length t.marks = ltb-true t.answers (length t.marks) v.0 in
      let b : t.bytes + length (bytes_of x.what) ≤ length t.envelopes = leb-true (t.bytes + length (bytes_of x.what)) (length t.envelopes) v.1 in
      record {
        marks =
            ap (λ (n : ℕ). take n (set t.marks t.answers (mark_of x.what))) (add-one t.answers)
            ∙ take-suc-set t.marks t.answers (mark_of x.what) a
            ∙ ap (λ (l : List ℕ). l ++ mark_of x.what ∷ []) h.marks
            ∙ sym (map_last (λ x. mark_of x.what) xs x);
        bytes =
            take_put t.envelopes (bytes_of x.what) t.bytes (t.bytes + length (bytes_of x.what)) h.bytes_room refl
            ∙ ap (λ (l : List ℕ). l ++ bytes_of x.what) h.bytes
            ∙ sym (joined_last (map (λ x. bytes_of x.what) xs) (bytes_of x.what))
            ∙ ap joined (sym (map_last (λ x. bytes_of x.what) xs x));
        marks_room = omega (arith, length-set t.marks t.answers (mark_of x.what));
        bytes_room = omega (arith, length_put t.envelopes t.bytes (bytes_of x.what) b);
      }

-- ---- all

-- once something had no room, nothing more is written down, and it says so
incomplete_stays : (m : Meaning) (t : Tape) → t.complete ≡ false → (collected m t).complete ≡ false
incomplete_stays (refused_after why taken) t e = e
incomplete_stays (holding h) t e = e
incomplete_stays (says x m) t e =
    incomplete_stays m (noted (bytes_of x.what) (mark_of x.what) t)
    (ap (λ (k : Tape). k.complete) (noted_by x t false (ap (λ (b : Bool). b && (ltb t.answers (length t.marks) && leb (t.bytes + length (bytes_of x.what)) (length t.envelopes))) e)))

true_false : {A : Type 0} {b : Bool} → b ≡ true → b ≡ false → A
true_false {A} p q = absurd (let z : ◌≡◌ {A = ℕ} 1 0 = ap (λ (b : Bool). cond b 1 0) (sym p ∙ q) in omega arith)

collected_holds : (m : Meaning) (t : Tape) (xs : List (Dated Said)) → WrittenDown t xs → (collected m t).complete ≡ true → WrittenDown (collected m t) (xs ++ answers_of m)
collected_holds (refused_after why taken) t xs h c = subst (WrittenDown t) (sym (append-nil xs)) h
collected_holds (holding held) t xs h c = subst (WrittenDown t) (sym (append-nil xs)) h
collected_holds (says x m) t xs h c = by (room x t) refl (λ k i d. collected_holds m k (xs ++ x ∷ []) i d)
  where
    by : (b : Bool) → room x t ≡ b → ((k : Tape) → WrittenDown k (xs ++ x ∷ []) → (collected m k).complete ≡ true → WrittenDown (collected m k) ((xs ++ x ∷ []) ++ answers_of m))
        → WrittenDown (collected m (noted (bytes_of x.what) (mark_of x.what) t)) (xs ++ x ∷ answers_of m)
    by true e on =
        let n : noted (bytes_of x.what) (mark_of x.what) t ≡ with_it x t = noted_by x t true e in
        subst (λ (k : Tape). WrittenDown (collected m k) (xs ++ x ∷ answers_of m)) (sym n)
        (subst (WrittenDown (collected m (with_it x t))) (append_assoc xs (x ∷ []) (answers_of m)) (on (with_it x t) (holds_one x t xs h e) (ap (λ (k : Tape). (collected m k).complete) (sym n) ∙ c)))
    by false e on = true_false c (incomplete_stays m (noted (bytes_of x.what) (mark_of x.what) t) (ap (λ (k : Tape). k.complete) (noted_by x t false e)))

pub written_down : (m : Meaning) (envelopes marks : List ℕ) → (collected m (blank envelopes marks)).complete ≡ true → WrittenDown (collected m (blank envelopes marks)) (answers_of m)
unfolding joined
written_down m envelopes marks c = collected_holds m (blank envelopes marks) [] (record { marks = refl; bytes = refl; marks_room = omega arith; bytes_room = omega arith }) c
