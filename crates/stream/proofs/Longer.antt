-- What follows a piece: an answer does not look at it, and after *more* the call goes on as if it had come in the same piece. Assumes nothing.
use Prim.Native.Nat.{ℕ, suc, ◌+◌, ◌<◌}
use mathlib.Core.Path.{◌≡◌, refl, sym, ap, ◌∙◌, subst}
use mathlib.Core.List.{List, [], ◌∷◌, ◌++◌}
use native.Mathlib.Nat.{add-zero}
use native.Mathlib.Omega.{arith}
use lib.ListN.{length}
use Rattle.frame_decoder.specs.Reader.{Reader, pushed, Answer, envelope_at, leftover, more, refused, counts_of}
use Rattle.frame_decoder.specs.Settle.{Due, due, waits, settled, settle}
use Rattle.frame_decoder.specs.Call.{Outcome, outcome, stored, work, call}
use Rattle.frame_decoder.specs.Private.Inside.{Admitted, wanted}
use Rattle.frame_decoder.proofs.Sound.{Sound, settle_sound}
use Rattle.frame_decoder.proofs.Works.{work_due, work_more, work_push, work_settled, settle_waits}
use Rattle.frame_decoder.proofs.Steps.{roomy}
use Rattle.stream.specs.Caller.{state}
use Rattle.stream.specs.Private.Inside.{Ready}
use Rattle.stream.proofs.Rest.{Tells, settle_tells}
use Rattle.stream.proofs.Calls.{ready_on, call_works}

-- ---- *more* is told apart

unfoldable pub asks_for : Answer → ℕ
asks_for more = 1
asks_for (refused why) = 0
asks_for (leftover n) = 0
asks_for (envelope_at buffer at e) = 0

apart : {a b : Answer} {n k : ℕ} {r x : Reader} {s t p q : List ℕ} → (asks_for a ≡ asks_for b → ⊥) → outcome a n r s p ≡ outcome b k x t q → ⊥
apart clash e = clash (ap (λ (o : Outcome). asks_for o.answer) e)

-- ---- bytes taken before

abbrev later : ℕ → Outcome → Outcome
later n o = outcome o.answer (n + o.taken) o.reader o.segment o.reassembly

module _ (k : ℕ) where
  shifted_last : (t : ℕ) (r : Reader) (seg re : List ℕ) (d : Due) (re' : List ℕ) → settle r seg re ≡ settled d re' → work (k + t) r seg re [] ≡ later k (work t r seg re [])
  shifted_last t r seg re (due answer x) re' e = work_due (k + t) seg r re [] e ∙ sym (ap (later k) (work_due t seg r re [] e))
  shifted_last t r seg re (waits x) re' e = work_more (k + t) seg r re e ∙ sym (ap (later k) (work_more t seg r re e))

  shifted_next : (t : ℕ) (r : Reader) (seg re : List ℕ) (b : ℕ) (piece : List ℕ) (d : Due) (re' : List ℕ) → settle r seg re ≡ settled d re'
      → ((x : Reader) (seg₁ re₁ : List ℕ) → work (k + suc t) x seg₁ re₁ piece ≡ later k (work (suc t) x seg₁ re₁ piece)) → work (k + t) r seg re (b ∷ piece) ≡ later k (work t r seg re (b ∷ piece))
  shifted_next t r seg re b piece (due answer x) re' e on = work_due (k + t) seg r re (b ∷ piece) e ∙ sym (ap (later k) (work_due t seg r re (b ∷ piece) e))
  shifted_next t r seg re b piece (waits x) re' e on =
      work_push (k + t) seg r re b piece e
      ∙ ap (λ (i : ℕ). work i (pushed 1 x) (stored x seg (b ∷ [])) re' piece) (let i : suc (k + t) ≡ k + suc t = omega arith in i)
      ∙ on (pushed 1 x) (stored x seg (b ∷ [])) re'
      ∙ sym (ap (later k) (work_push t seg r re b piece e))

  work_later : (piece : List ℕ) (t : ℕ) (r : Reader) (seg re : List ℕ) → work (k + t) r seg re piece ≡ later k (work t r seg re piece)
  work_later [] t r seg re = shifted_last t r seg re (settle r seg re).says (settle r seg re).reassembly refl
  work_later (b ∷ piece) t r seg re = shifted_next t r seg re b piece (settle r seg re).says (settle r seg re).reassembly refl (λ x seg₁ re₁. work_later piece (suc t) x seg₁ re₁)

-- ---- an answer before the piece's end does not look at what follows

module _ (q : List ℕ) {a : Answer} (not_more : asks_for a ≡ 1 → ⊥) {n : ℕ} {y : Reader} {S R : List ℕ} where
  longer_last : (t : ℕ) (r : Reader) (seg re : List ℕ) (d : Due) (re' : List ℕ) → settle r seg re ≡ settled d re' → work t r seg re [] ≡ outcome a n y S R → work t r seg re q ≡ outcome a n y S R
  unfolding asks_for
  longer_last t r seg re (due answer x) re' e o = work_due t seg r re q e ∙ sym (work_due t seg r re [] e) ∙ o
  longer_last t r seg re (waits x) re' e o = absurd (apart (λ i. not_more (sym i)) (sym (work_more t seg r re e) ∙ o))

  longer_next : (t : ℕ) (r : Reader) (seg re : List ℕ) (b : ℕ) (piece : List ℕ) (d : Due) (re' : List ℕ) → settle r seg re ≡ settled d re' → work t r seg re (b ∷ piece) ≡ outcome a n y S R
      → ((x : Reader) (seg₁ re₁ : List ℕ) → work (suc t) x seg₁ re₁ piece ≡ outcome a n y S R → work (suc t) x seg₁ re₁ (piece ++ q) ≡ outcome a n y S R)
      → work t r seg re (b ∷ piece ++ q) ≡ outcome a n y S R
  longer_next t r seg re b piece (due answer x) re' e o on = work_due t seg r re (b ∷ piece ++ q) e ∙ sym (work_due t seg r re (b ∷ piece) e) ∙ o
  longer_next t r seg re b piece (waits x) re' e o on = work_push t seg r re b (piece ++ q) e ∙ on _ _ _ (sym (work_push t seg r re b piece e) ∙ o)

  work_longer : (piece : List ℕ) (t : ℕ) (r : Reader) (seg re : List ℕ) → work t r seg re piece ≡ outcome a n y S R → work t r seg re (piece ++ q) ≡ outcome a n y S R
  work_longer [] t r seg re o = longer_last t r seg re (settle r seg re).says (settle r seg re).reassembly refl o
  work_longer (b ∷ piece) t r seg re o = longer_next t r seg re b piece (settle r seg re).says (settle r seg re).reassembly refl o (λ x seg₁ re₁. work_longer piece (suc t) x seg₁ re₁)

-- ---- after *more* the call goes on with what follows

-- what is due is never *more*
due_not_more : (r : Reader) (seg re re' : List ℕ) {x y : Reader} {s u v w : List ℕ} {k n : ℕ} (answer : Answer) → Tells r r.phase seg re (due answer x) re' → outcome answer k x s u ≡ outcome more n y v w → ⊥
unfolding asks_for
due_not_more r seg re re' more d e = d
due_not_more r seg re re' (refused why) d e = apart (λ i. omega arith) e
due_not_more r seg re re' (leftover k) d e = apart (λ i. omega arith) e
due_not_more r seg re re' (envelope_at buffer at v) d e = apart (λ i. omega arith) e

-- a reader that waits is settled
still : (x : Reader) (seg re : List ℕ) → Admitted x (length seg) (length re) → 0 < wanted (counts_of x) → settle x seg re ≡ settled (waits x) re
still x seg re ok w = settle_waits x seg re (roomy ok) w

module _ (q : List ℕ) {n : ℕ} {y : Reader} {S R : List ℕ} where
  module _ (t : ℕ) (r : Reader) (seg re : List ℕ) (ready : Ready (state r seg re)) where
    joined_last : (d : Due) (re' : List ℕ) → settle r seg re ≡ settled d re' → Sound (length seg) (length re) d re' → Tells r r.phase seg re d re' → work t r seg re [] ≡ outcome more n y S R
        → work t r seg re q ≡ work n y S R q
    joined_last (due answer x) re' e s d o = absurd (due_not_more r seg re re' answer d (sym (work_due t seg r re [] e) ∙ o))
    joined_last (waits x) re' e s d o =
        let same : outcome more t x seg re' ≡ outcome more n y S R = sym (work_more t seg r re e) ∙ o in
        work_settled t seg r re q e (still x seg re' (subst (λ (k : ℕ). Admitted x (length seg) k) (sym s.1) s.0) s.2)
        ∙ ap (λ (p : Outcome). work p.taken p.reader p.segment p.reassembly q) same

    joined_next : (b : ℕ) (piece : List ℕ) (d : Due) (re' : List ℕ) → settle r seg re ≡ settled d re' → Sound (length seg) (length re) d re' → Tells r r.phase seg re d re'
        → work t r seg re (b ∷ piece) ≡ outcome more n y S R
        → ((x : Reader) (seg₁ re₁ : List ℕ) → Ready (state x seg₁ re₁) → work (suc t) x seg₁ re₁ piece ≡ outcome more n y S R → work (suc t) x seg₁ re₁ (piece ++ q) ≡ work n y S R q)
        → work t r seg re (b ∷ piece ++ q) ≡ work n y S R q
    joined_next b piece (due answer x) re' e s d o on = absurd (due_not_more r seg re re' answer d (sym (work_due t seg r re (b ∷ piece) e) ∙ o))
    joined_next b piece (waits x) re' e s d o on =
        work_push t seg r re b (piece ++ q) e ∙ on _ _ _ (ready_on r seg re ready b piece t x re' s.0 s.1 s.2 d) (sym (work_push t seg r re b piece e) ∙ o)

  work_joined : (piece : List ℕ) (t : ℕ) (r : Reader) (seg re : List ℕ) → Ready (state r seg re) → work t r seg re piece ≡ outcome more n y S R → work t r seg re (piece ++ q) ≡ work n y S R q
  work_joined [] t r seg re ready o =
      joined_last t r seg re ready (settle r seg re).says (settle r seg re).reassembly refl (settle_sound r (length seg) (length re) ready.ok seg re refl refl)
      (settle_tells r seg re ready.segment ready.reassembly ready.ok) o
  work_joined (b ∷ piece) t r seg re ready o =
      joined_next t r seg re ready b piece (settle r seg re).says (settle r seg re).reassembly refl (settle_sound r (length seg) (length re) ready.ok seg re refl refl)
      (settle_tells r seg re ready.segment ready.reassembly ready.ok) o (λ x seg₁ re₁ t₁. work_joined piece (suc t) x seg₁ re₁ t₁)

-- ---- calls

module _ (r : Reader) (seg re p q : List ℕ) (ready : Ready (state r seg re)) where
  pub call_longer : {a : Answer} → (asks_for a ≡ 1 → ⊥) → {n : ℕ} {x : Reader} {S R : List ℕ} → call r seg re p ≡ outcome a n x S R → call r seg re (p ++ q) ≡ outcome a n x S R
  call_longer m e = call_works r seg re (p ++ q) ready ∙ work_longer q m p 0 r seg re (sym (call_works r seg re p ready) ∙ e)

  pub call_joined : {n : ℕ} {x : Reader} {seg' re' : List ℕ} → Ready (state x seg' re') → call r seg re p ≡ outcome more n x seg' re' → call r seg re (p ++ q) ≡ later n (call x seg' re' q)
  call_joined {n} {x} {seg'} {re'} ready' e =
      call_works r seg re (p ++ q) ready
      ∙ work_joined q p 0 r seg re ready (sym (call_works r seg re p ready) ∙ e)
      ∙ ap (λ (k : ℕ). work k x seg' re' q) (sym (add-zero n))
      ∙ work_later n q 0 x seg' re'
      ∙ ap (later n) (sym (call_works x seg' re' q ready'))

-- a reader that waits leaves everything as it is where nothing more comes
pub call_waiting : (x : Reader) (seg re : List ℕ) → Ready (state x seg re) → 0 < wanted (counts_of x) → call x seg re [] ≡ outcome more 0 x seg re
call_waiting x seg re ready w = call_works x seg re [] ready ∙ work_more 0 seg x re (still x seg re ready.ok w)
