-- A stream means what its segments mean, one after the other. Assumes nothing.
use Prim.Native.Nat.{ℕ, suc, ◌+◌, ◌≤◌, ◌<◌}
use mathlib.Core.Path.{◌≡◌, refl, sym, ap, ap₂, ◌∙◌}
use mathlib.Core.Bool.{Bool, true, false, cond}
use mathlib.Core.List.{List, [], ◌∷◌, ◌++◌, append_assoc, append-nil}
use native.Mathlib.Decide.{dec_le}
use native.Mathlib.Nat.{add-zero, lt_of_not-le}
use native.Mathlib.Omega.{arith}
use borrow.Author.Tests.{leb-true}
use lib.Dec.{leb}
use lib.ListN.{length, take, drop, length-append, take-append-drop}
use lib.Seq.{length-take-le}
use Rattle.basis.specs.Front.{Front, incomplete, refuses, whole, if_whole}
use Rattle.basis.proofs.Fronts.{not_refused, not_whole}
use Rattle.refusal.specs.Refusal.{Refusal, segment_too_long}
use Rattle.segment.specs.Header.{Header, header_length}
use Rattle.segment.specs.Segment.{Segment, segment_length, header_at, payload_at}
use Rattle.segment.proofs.Cases.{fields_at, Headers, head_cut, head_differs, head_compressed, head_good, header_case, Payloads, payload_cut, payload_differs, payload_good, payload_is, payload_case}
use Rattle.segment.proofs.HeaderLaid.{head_least}
use Rattle.stream.specs.Meaning.{Lent, behind_header, segment_in, by_beginning, meaning_from}
use Rattle.stream.specs.Segments.{last_of, judged_at, by_first, segmentwise}
use Rattle.stream.proofs.Heads.{header_behind, payload_behind, in_header_lem, by_header, roomy_header}

module _ (z : Lent) (s : List ℕ) where
  abbrev head : ℕ
  head = header_length z.form

  -- ---- before its last byte a segment is unfinished

  module _ (y y' : List ℕ) (q : y ++ y' ≡ s) where
    same_header : head ≤ length y → header_at z.form y ≡ header_at z.form s
    same_header h = sym (header_behind z.form y y' h) ∙ ap (header_at z.form) q

    behind_head : head ≤ length y → (f : Front Refusal Header) → header_at z.form s ≡ f → length y < last_of z f → segment_in z y ≡ incomplete
    behind_head h incomplete e k = absurd (omega arith)
    behind_head h (refuses why) e k = absurd (omega arith)
    behind_head h (whole x) e k = by_room (leb (segment_length z.form x.payload) z.segment) refl k
      where
        by_room : (t : Bool) → leb (segment_length z.form x.payload) z.segment ≡ t → length y < cond t (segment_length z.form x.payload) head → segment_in z y ≡ incomplete
        by_room true t k =
            roomy_header z y x (same_header h ∙ e) (leb-true (segment_length z.form x.payload) z.segment t) ∙ payload_is z.form y x (payload_cut k)
        by_room false t k = absurd (omega arith)

    pub unfinished : length y < judged_at z s → segment_in z y ≡ incomplete
    unfolding judged_at
    unfinished k =
        elim (dec_le head (length y)) [
          | yes h ↦ behind_head h (header_at z.form s) refl k
          | no few ↦ in_header_lem z y (lt_of_not-le few)
        ]

  -- ---- with its last byte it is judged, and bytes behind change nothing

  last_least : (f : Front Refusal Header) → head ≤ last_of z f
  last_least incomplete = omega arith
  last_least (refuses why) = omega arith
  last_least (whole h) = by_room (leb (segment_length z.form h.payload) z.segment)
    where
      by_room : (t : Bool) → head ≤ cond t (segment_length z.form h.payload) head
      by_room true = omega arith
      by_room false = omega arith

  judged_least : head ≤ judged_at z s
  unfolding judged_at
  judged_least = last_least (header_at z.form s)

  module _ (x x' : List ℕ) (q : x ++ x' ≡ s) (n : length x ≡ judged_at z s) where
    header_there : head ≤ length x
    header_there = omega (arith, judged_least)

    same_behind : (f : Front Refusal Header) → length x ≡ last_of z f → if_whole f (behind_header z x) ≡ if_whole f (behind_header z s)
    same_behind incomplete l = refl
    same_behind (refuses why) l = refl
    same_behind (whole h) l = by_room (leb (segment_length z.form h.payload) z.segment) l
      where
        by_room : (t : Bool) → length x ≡ cond t (segment_length z.form h.payload) head → cond t (payload_at z.form x h) (refuses segment_too_long) ≡ cond t (payload_at z.form s h) (refuses segment_too_long)
        by_room true l = sym (payload_behind z.form x x' h (omega arith)) ∙ ap (λ (y : List ℕ). payload_at z.form y h) q
        by_room false l = refl

    pub judged_same : segment_in z x ≡ segment_in z s
    unfolding judged_at
    judged_same =
        by_header z x (same_header x x' q header_there) ∙ same_behind (header_at z.form s) n ∙ sym (by_header z s {f = header_at z.form s} refl)

  -- it is no longer unfinished
  module _ (there : judged_at z s ≤ length s) where
    payload_there : (h : Header) → segment_length z.form h.payload ≤ length s → payload_at z.form s h ≡ incomplete → ⊥
    payload_there h l e = go (payload_case z.form s h) e
      where
        go : {f : Front Refusal Segment} → Payloads z.form s h f → f ≡ incomplete → ⊥
        go (payload_cut k) e = omega arith
        go (payload_differs k c) e = not_refused (sym e)
        go (payload_good k c) e = not_whole (sym e)

    behind_there : {f : Front Refusal Header} → Headers z.form s f → last_of z f ≤ length s → if_whole f (behind_header z s) ≡ incomplete → ⊥
    behind_there (head_cut l) k e = omega arith
    behind_there (head_differs l c) k e = not_refused (sym e)
    behind_there (head_compressed l c u) k e = not_refused (sym e)
    behind_there (head_good l c u) k e = by_room (fields_at z.form s) (leb (segment_length z.form (fields_at z.form s).payload) z.segment) k e
      where
        by_room : (h : Header) (t : Bool) → cond t (segment_length z.form h.payload) head ≤ length s → cond t (payload_at z.form s h) (refuses segment_too_long) ≡ incomplete → ⊥
        by_room h true k e = payload_there h k e
        by_room h false k e = not_refused (sym e)

    pub finished : segment_in z s ≡ incomplete → ⊥
    unfolding judged_at
    finished e = behind_there (header_case z.form s) there (sym (by_header z s {f = header_at z.form s} refl) ∙ e)

-- ---- the bytes of a segment, one after the other

module _ (z : Lent) where
  -- so long as it is unfinished they are at hand
  at_hand : (x s₀ : List ℕ) (taken : ℕ) (pending stream : List ℕ) → ((y y' : List ℕ) → y ++ y' ≡ s₀ ++ x → length s₀ < length y → segment_in z y ≡ incomplete)
      → meaning_from z taken pending s₀ (x ++ stream) ≡ meaning_from z (taken + length x) pending (s₀ ++ x) stream
  unfolding meaning_from
  at_hand [] s₀ taken pending stream u =
      ap₂ (λ (k : ℕ) (s : List ℕ). meaning_from z k pending s stream) (sym (add-zero taken)) (sym (append-nil s₀))
  at_hand (b ∷ x) s₀ taken pending stream u =
      let s₁ : List ℕ = s₀ ++ b ∷ [] in
      let a : s₁ ++ x ≡ s₀ ++ b ∷ x = append_assoc s₀ (b ∷ []) x in
      let l : length s₁ ≡ length s₀ + 1 = length-append s₀ (b ∷ []) in
      let n : suc taken + length x ≡ taken + suc (length x) = omega arith in
      ap (λ (f : Front Refusal Segment). by_beginning z f pending s₁ (suc taken) (λ pending' s'. meaning_from z (suc taken) pending' s' (x ++ stream))) (u s₁ x a (omega arith))
      ∙ at_hand x s₁ (suc taken) pending stream (λ y y' q h. u y y' (q ∙ a) (omega arith))
      ∙ ap₂ (λ (k : ℕ) (s : List ℕ). meaning_from z k pending s stream) n a

  -- and with its last byte it is judged
  last_byte : (taken : ℕ) (pending s₀ : List ℕ) (b : ℕ) (stream : List ℕ)
      → meaning_from z taken pending s₀ (b ∷ stream) ≡ by_beginning z (segment_in z (s₀ ++ b ∷ [])) pending (s₀ ++ b ∷ []) (suc taken) (λ pending' s'. meaning_from z (suc taken) pending' s' stream)
  unfolding meaning_from
  last_byte taken pending s₀ b stream = refl

  -- all bytes of a segment but the last, and the last
  pub front_last : (x : List ℕ) → 0 < length x → (init : List ℕ) × (b : ℕ) × (x ≡ init ++ b ∷ [])
  front_last [] h = absurd (omega arith)
  front_last (b ∷ []) h = ([], b, refl)
  front_last (b ∷ c ∷ x) h = let i = front_last (c ∷ x) (omega arith) in (b ∷ i.0, i.1, ap (λ (l : List ℕ). b ∷ l) i.2)

  module _ (taken : ℕ) (pending s : List ℕ) where
    last_judged : (init : List ℕ) (b : ℕ) (stream : List ℕ) → (init ++ b ∷ []) ++ stream ≡ s → length (init ++ b ∷ []) ≡ judged_at z s
        → meaning_from z taken pending [] s ≡ by_beginning z (segment_in z s) pending (init ++ b ∷ []) (taken + judged_at z s) (λ pending' s'. meaning_from z (taken + judged_at z s) pending' s' stream)
    last_judged init b stream q n =
        let x : List ℕ = init ++ b ∷ [] in
        let l : length x ≡ length init + 1 = length-append init (b ∷ []) in
        let t : suc (taken + length init) ≡ taken + judged_at z s = omega arith in
        ap (meaning_from z taken pending []) (sym q ∙ append_assoc init (b ∷ []) stream)
        ∙ at_hand init [] taken pending (b ∷ stream)
        (λ y y' e h. unfinished z s y (y' ++ (b ∷ stream)) (sym (append_assoc y y' (b ∷ stream)) ∙ ap (λ (i : List ℕ). i ++ (b ∷ stream)) e ∙ sym (append_assoc init (b ∷ []) stream) ∙ q)
        (omega (arith, length-append y y', ap length e)))
        ∙ last_byte (taken + length init) pending init b stream
        ∙ ap₂ (λ (f : Front Refusal Segment) (k : ℕ). by_beginning z f pending x k (λ pending' s'. meaning_from z k pending' s' stream)) (judged_same z s x stream q n) t

    -- a segment that is there is refused or whole
    ends : (x : List ℕ) → judged_at z s ≤ length s → (f : Front Refusal Segment) → segment_in z s ≡ f
        → by_beginning z (segment_in z s) pending x (taken + judged_at z s) (λ pending' s'. meaning_from z (taken + judged_at z s) pending' s' (drop (judged_at z s) s)) ≡ by_first z f taken pending s (judged_at z s)
    ends x h incomplete e = absurd (finished z s h e)
    ends x h (refuses why) e = ap (λ (g : Front Refusal Segment). by_beginning z g pending x (taken + judged_at z s) (λ pending' s'. meaning_from z (taken + judged_at z s) pending' s' (drop (judged_at z s) s))) e
    ends x h (whole g) e = ap (λ (g : Front Refusal Segment). by_beginning z g pending x (taken + judged_at z s) (λ pending' s'. meaning_from z (taken + judged_at z s) pending' s' (drop (judged_at z s) s))) e

    there : judged_at z s ≤ length s → (f : Front Refusal Segment) → segment_in z s ≡ f → meaning_from z taken pending [] s ≡ by_first z f taken pending s (judged_at z s)
    there h f e =
        let k : ℕ = judged_at z s in
        let l : length (take k s) ≡ k = length-take-le k s h in
        let i = front_last (take k s) (omega (arith, judged_least z s, head_least z.form)) in
        let x : List ℕ = i.0 ++ i.1 ∷ [] in
        last_judged i.0 i.1 (drop k s) (ap (λ (y : List ℕ). y ++ drop k s) (sym i.2) ∙ take-append-drop k s) (ap length (sym i.2) ∙ l)
        ∙ ends x h f e

    cut : length s < judged_at z s → (f : Front Refusal Segment) → segment_in z s ≡ f → meaning_from z taken pending [] s ≡ by_first z f taken pending s (judged_at z s)
    unfolding meaning_from
    cut k f e =
        ap (meaning_from z taken pending []) (sym (append-nil s))
        ∙ at_hand s [] taken pending [] (λ y y' q h. unfinished z s y y' q (omega (arith, length-append y y', ap length q)))
        ∙ ap (λ (g : Front Refusal Segment). by_first z g taken pending s (judged_at z s)) (sym (unfinished z s s [] (append-nil s) k) ∙ e)

    -- Up to its end or its refusal, the bytes of a stream are those of its first segment; what comes behind it is read in the same way.
    pub segment_by_segment : meaning_from z taken pending [] s ≡ segmentwise z taken pending s
    unfolding segmentwise
    segment_by_segment =
        elim (dec_le (judged_at z s) (length s)) [
          | yes h ↦ there h (segment_in z s) refl
          | no few ↦ cut (lt_of_not-le few) (segment_in z s) refl
        ]
