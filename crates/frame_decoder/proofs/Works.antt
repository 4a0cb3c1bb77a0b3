-- The definition of a call, byte by byte, and the code, a run of bytes at a time: pushes that complete nothing are one. Assumes nothing.
use Prim.Native.Nat.{ℕ, suc, ◌+◌, ◌-◌, ◌≤◌, ◌<◌, min}
use mathlib.Core.Path.{◌≡◌, refl, sym, ap, ap₂, ◌∙◌, subst, subst₂}
use mathlib.Core.Bool.{Bool, true, false, cond}
use mathlib.Core.List.{List, [], ◌∷◌, ◌++◌}
use native.Mathlib.Nat.{add-zero, min-le_left, min-le_right}
use native.Mathlib.Omega.{arith}
use lib.ListN.{length, take, drop, length-drop, take-append-drop}
use lib.Seq.{length-take-le, drop-drop}
use Rattle.refusal.specs.Refusal.{inadmissible}
use Rattle.types.specs.Write.{put}
use Rattle.types.proofs.Put.{put_none, put_put, length_put}
use Rattle.segment.specs.Header.{Form, header}
use Rattle.segment.proofs.Cases.{head_cut, header_is, payload_cut, payload_is}
use Rattle.frame_decoder.specs.Reader.{Phase, in_header, in_rest, in_segment, in_reassembly, stopped, Reader, in_phase, advanced, pushed, Answer, more, refused, counts_in, counts_of, admissible}
use Rattle.frame_decoder.specs.Settle.{Due, due, waits, Settled, settled, header_due, segment_due, settle_at, settle}
use Rattle.frame_decoder.specs.Call.{Outcome, outcome, stored, unless_due, work, call}
use Rattle.frame_decoder.specs.Private.Inside.{Admitted, wanted, Roomy, Onward}
use Rattle.frame_decoder.proofs.Steps.{roomy, pushed_admitted}
use Rattle.frame_decoder.proofs.Sound.{Sound, settle_sound}

-- ---- by what settling says

module _ (taken : ℕ) (seg : List ℕ) where
  -- what a call says, by what is due first
  ends : Settled → Outcome
  ends s = unless_due taken seg s.says s.reassembly (λ next. outcome more taken next seg s.reassembly)

  goes_on : ℕ → List ℕ → Settled → Outcome
  goes_on b piece s =
      unless_due taken seg s.says s.reassembly (λ next. work (suc taken) (pushed 1 next) (stored next seg (b ∷ [])) s.reassembly piece)

  module _ (r : Reader) (re : List ℕ) where
    pub work_due : (piece : List ℕ) {answer : Answer} {x : Reader} {re' : List ℕ} → settle r seg re ≡ settled (due answer x) re' → work taken r seg re piece ≡ outcome answer taken x seg re'
    unfolding work unless_due ends goes_on
    work_due [] e = ap ends e
    work_due (b ∷ piece) e = ap (goes_on b piece) e

    pub work_more : {x : Reader} {re' : List ℕ} → settle r seg re ≡ settled (waits x) re' → work taken r seg re [] ≡ outcome more taken x seg re'
    unfolding work unless_due ends
    work_more e = ap ends e

    pub work_push : (b : ℕ) (piece : List ℕ) {x : Reader} {re' : List ℕ} → settle r seg re ≡ settled (waits x) re'
        → work taken r seg re (b ∷ piece) ≡ work (suc taken) (pushed 1 x) (stored x seg (b ∷ [])) re' piece
    unfolding work unless_due goes_on
    work_push b piece e = ap (goes_on b piece) e

    -- settling is part of the call: once done it may be done again
    pub work_settled : (piece : List ℕ) {x : Reader} {re' : List ℕ} → settle r seg re ≡ settled (waits x) re' → settle x seg re' ≡ settled (waits x) re' → work taken r seg re piece ≡ work taken x seg re' piece
    unfolding work ends goes_on
    work_settled [] e f = ap ends (e ∙ sym f)
    work_settled (b ∷ piece) e f = ap (goes_on b piece) (e ∙ sym f)

-- ---- no more is taken than is there

work_within : (piece : List ℕ) (taken : ℕ) (r : Reader) (seg re : List ℕ) → (work taken r seg re piece).taken ≤ taken + length piece
work_within [] taken r seg re = last (settle r seg re).says refl
  where
    last : (d : Due) → settle r seg re ≡ settled d (settle r seg re).reassembly → (work taken r seg re []).taken ≤ taken + 0
    last (due answer x) e = subst (λ (o : Outcome). o.taken ≤ taken + 0) (sym (work_due taken seg r re [] e)) (omega arith)
    last (waits x) e = subst (λ (o : Outcome). o.taken ≤ taken + 0) (sym (work_more taken seg r re e)) (omega arith)
work_within (b ∷ piece) taken r seg re = next (settle r seg re).says refl (work_within piece (suc taken))
  where
    next : (d : Due) → settle r seg re ≡ settled d (settle r seg re).reassembly → ((x : Reader) (s t : List ℕ) → (work (suc taken) x s t piece).taken ≤ suc taken + length piece)
        → (work taken r seg re (b ∷ piece)).taken ≤ taken + suc (length piece)
    next (due answer x) e on = subst (λ (o : Outcome). o.taken ≤ taken + suc (length piece)) (sym (work_due taken seg r re (b ∷ piece) e)) (omega arith)
    next (waits x) e on = subst (λ (o : Outcome). o.taken ≤ taken + suc (length piece)) (sym (work_push taken seg r re b piece e)) (omega (arith, on (pushed 1 x) (stored x seg (b ∷ [])) (settle r seg re).reassembly))

pub call_within : (r : Reader) (seg re piece : List ℕ) → (call r seg re piece).taken ≤ length piece
unfolding call
call_within r seg re piece = by (admissible r (length seg) (length re))
  where
    by : (t : Bool) → (cond t (work 0 r seg re piece) (outcome (refused inadmissible) 0 r seg re)).taken ≤ length piece
    by true = omega (arith, work_within piece 0 r seg re)
    by false = omega arith

-- ---- a reader that waits

-- nothing is due while bytes are wanting
waits_at : (r : Reader) (seg re : List ℕ) (q : Phase) → Roomy (length seg) (counts_in r.form r.pending q) → 0 < wanted (counts_in r.form r.pending q) → settle_at r seg re q ≡ settled (waits r) re
unfolding settle_at header_due segment_due
waits_at r seg re (in_header n) room h =
    ap (λ f. settled (header_due r n (length seg) f) re) (header_is r.form (take n seg) (head_cut (omega (arith, length-take-le n seg (omega (arith, room.0, room.1))))))
waits_at r seg re (in_rest n len self) room h =
    ap (segment_due r seg re len) (payload_is r.form (take n seg) (header len 0 self) (payload_cut (omega (arith, length-take-le n seg (omega (arith, room.0, room.1))))))
waits_at r seg re (in_segment len at) room h = absurd (omega arith)
waits_at r seg re (in_reassembly at) room h = absurd (omega arith)
waits_at r seg re (stopped why) room h = absurd (omega arith)

pub settle_waits : (r : Reader) (seg re : List ℕ) → Roomy (length seg) (counts_of r) → 0 < wanted (counts_of r) → settle r seg re ≡ settled (waits r) re
unfolding settle
settle_waits r seg re = waits_at r seg re r.phase

-- ---- bytes that are wanted are taken

-- of a phase in which bytes are wanting: so many more are there, of as many as before
module _ (f : Form) (p : ℕ) where
  advanced_there : (k : ℕ) (q : Phase) → 0 < wanted (counts_in f p q) → (counts_in f p (advanced k q)).there ≡ (counts_in f p q).there + k
  advanced_there k (in_header n) h = refl
  advanced_there k (in_rest n len self) h = refl
  advanced_there k (in_segment len at) h = absurd (omega arith)
  advanced_there k (in_reassembly at) h = absurd (omega arith)
  advanced_there k (stopped why) h = absurd (omega arith)

  advanced_goal : (k : ℕ) (q : Phase) → (counts_in f p (advanced k q)).goal ≡ (counts_in f p q).goal
  advanced_goal k (in_header n) = refl
  advanced_goal k (in_rest n len self) = refl
  advanced_goal k (in_segment len at) = refl
  advanced_goal k (in_reassembly at) = refl
  advanced_goal k (stopped why) = refl

advanced_both : (k j : ℕ) (q : Phase) → advanced k (advanced j q) ≡ advanced (j + k) q
advanced_both k j (in_header n) = ap in_header (omega arith)
advanced_both k j (in_rest n len self) = ap (λ (i : ℕ). in_rest i len self) (omega arith)
advanced_both k j (in_segment len at) = ap (in_segment len) (omega arith)
advanced_both k j (in_reassembly at) = ap in_reassembly (omega arith)
advanced_both k j (stopped why) = refl

pub advanced_none : (q : Phase) → advanced 0 q ≡ q
advanced_none (in_header n) = ap in_header (add-zero n)
advanced_none (in_rest n len self) = ap (λ (k : ℕ). in_rest k len self) (add-zero n)
advanced_none (in_segment len at) = ap (in_segment len) (add-zero at)
advanced_none (in_reassembly at) = ap in_reassembly (add-zero at)
advanced_none (stopped why) = refl

pub stored_length : (r : Reader) (seg bs : List ℕ) → length bs ≤ wanted (counts_of r) → Roomy (length seg) (counts_of r) → length (stored r seg bs) ≡ length seg
stored_length r seg bs h room = length_put seg (counts_of r).there bs (omega (arith, room.0, room.1))

-- bytes that are all wanted are taken together
pub work_fed : (bs piece : List ℕ) (taken : ℕ) (r : Reader) (seg re : List ℕ) → Roomy (length seg) (counts_of r) → length bs ≤ wanted (counts_of r)
    → work taken r seg re (bs ++ piece) ≡ work (taken + length bs) (pushed (length bs) r) (stored r seg bs) re piece
work_fed [] piece taken r seg re room h =
    ap (λ (k : ℕ). work k r seg re piece) (sym (add-zero taken))
    ∙ ap₂ (λ (q : Phase) (l : List ℕ). work (taken + 0) (in_phase r q) l re piece) (sym (advanced_none r.phase)) (sym (put_none seg (counts_of r).there))
work_fed (b ∷ bs) piece taken r seg re room h =
    let one : 1 ≤ wanted (counts_of r) = omega arith in
    let on : Reader = pushed 1 r in
    let seg₁ : List ℕ = stored r seg (b ∷ []) in
    let l : length seg₁ ≡ length seg = stored_length r seg (b ∷ []) one room in
    let n : (counts_of on).there ≡ (counts_of r).there + 1 = advanced_there r.form r.pending 1 r.phase one in
    let g : (counts_of on).goal ≡ (counts_of r).goal = advanced_goal r.form r.pending 1 r.phase in
    let k : suc taken + length bs ≡ taken + suc (length bs) = omega arith in
    let whole : 1 + length bs ≡ suc (length bs) = omega arith in
    work_push taken seg r re b (bs ++ piece) (settle_waits r seg re room one)
    ∙ work_fed bs piece (suc taken) on seg₁ re (omega (arith, n, g, room.0, room.1), omega (arith, g, l, room.1)) (omega (arith, n, g))
    ∙ ap (λ (i : ℕ). work i (pushed (length bs) on) (stored on seg₁ bs) re piece) k
    ∙ ap₂ (λ (p : Phase) (s : List ℕ). work (taken + suc (length bs)) (in_phase r p) s re piece)
    (advanced_both (length bs) 1 r.phase ∙ ap (λ (i : ℕ). advanced i r.phase) whole)
    (ap (λ (i : ℕ). put seg₁ i bs) n ∙ put_put seg (counts_of r).there (b ∷ []) bs (omega (arith, room.0, room.1)))

-- ---- one turn of the loop

-- what is known of a reader that settling leaves waiting
pub waiting : (r : Reader) (seg re : List ℕ) → Admitted r (length seg) (length re) → {x : Reader} {re' : List ℕ} → settle r seg re ≡ settled (waits x) re'
    → Admitted x (length seg) (length re) × (length re' ≡ length re) × (0 < wanted (counts_of x))
waiting r seg re ok e = subst (λ (o : Settled). Sound (length seg) (length re) o.says o.reassembly) e (settle_sound r (length seg) (length re) ok seg re refl refl)

-- a waiting reader that takes what it can of the rest of a piece
pub onward : (taken : ℕ) (r : Reader) (seg re piece : List ℕ) → Admitted r (length seg) (length re) → taken < length piece
    → {x y : Reader} {re' seg' : List ℕ} {k : ℕ} → settle r seg re ≡ settled (waits x) re' → k ≡ min (wanted (counts_of x)) (length (drop taken piece)) → y ≡ pushed k x
    → seg' ≡ stored x seg (take k (drop taken piece)) → Onward taken r seg re piece (taken + k) y seg' re'
onward taken r seg re piece ok left {x} {y} {re'} {seg'} {k} e c p s =
    let w : ℕ = wanted (counts_of x) in
    let rest : List ℕ = drop taken piece in
    let z : Admitted x (length seg) (length re) × (length re' ≡ length re) × (0 < w) = waiting r seg re ok e in
    let room : Roomy (length seg) (counts_of x) = roomy z.0 in
    let lr : length rest ≡ length piece - taken = length-drop taken piece in
    let kw : k ≤ w = omega (arith, c, min-le_left w (length rest)) in
    let kr : k ≤ length rest = omega (arith, c, min-le_right w (length rest)) in
    let lt : length (take k rest) ≡ k = length-take-le k rest kr in
    let pos : 0 < k = positive w (length rest) z.2 (omega arith) c in
    let ls : length seg' ≡ length seg = ap length s ∙ stored_length x seg (take k rest) (omega arith) room in
    record {
      same =
          ap₂ (λ (w : Reader) (l : List ℕ). work (taken + k) w l re' (drop (taken + k) piece)) p s
          ∙ ap (λ (l : List ℕ). work (taken + k) (pushed k x) (stored x seg (take k rest)) re' l) (sym (drop-drop k taken piece))
          ∙ ap (λ (i : ℕ). work (taken + i) (pushed i x) (stored x seg (take k rest)) re' (drop k rest)) (sym lt)
          ∙ sym (work_fed (take k rest) (drop k rest) taken x seg re' room (omega arith))
          ∙ ap (work taken x seg re') (take-append-drop k rest)
          ∙ sym (work_settled taken seg r re rest e (settle_waits x seg re' room z.2));
      later = omega arith;
      within = omega arith;
      good = subst (λ (w : Reader). Admitted w (length seg') (length re')) (sym p) (subst₂ (λ (i j : ℕ). Admitted (pushed k x) i j) (sym ls) (sym z.1) (pushed_admitted z.0 k kw));
    }
  where
    positive : (m n : ℕ) {k : ℕ} → 0 < m → 0 < n → k ≡ min m n → 0 < k
    positive m n a b e = omega arith
