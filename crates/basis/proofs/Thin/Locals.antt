-- For the walk of a thin function (`Thin.antt`): its locals, a row at a time, and the slices that it is lent and lends on. Each rule is one induction, so the walk is one for any number of slices.
--     Blocks, Held, values, locals, placed        of a row of types: a block for each; a value that fits each; those values; the locals; the environment.        Rooms, Cells     the rooms, and the cells with the values, each with what lets its block be freed
--     behind, Spots        the number of a local behind a row, and that a row is the locals i, suc i …        at_front, at_rear       a row at the front of an environment, and one behind it
--     alloc_all, pass_all, free_all, look_all     `alloc1`, `pass1`, `free1` and `look` for a row: each local of it.        gone     a local is freed, whatever it holds.        at      the place of a local whose number is not written out
--     ms : List Mutability         the slices lent: `mut` is `&mut [u8]`, and `imm` is `&[u8]`
--     slices, onward       the locals of the parameters, and those of what is made of each `&mut` to lend it on.        lends, lent        the statements that do, and the operands that are passed
--     Pieces, taken, made      a pointer and a length for each; what the one row of locals holds, and the other.        lend_all, passes_on       the walk of the statements, and what the operands are: what was taken
--     spare, stores        the local through which a part of a local is stored behind the parameter 1, and the statements that store it. A whole local needs none.        spared, store_all     what it holds then, and the walk of the statements
--     rows, pieces         the slices' types, and that what they own says what their machine values are
-- The rules take `Logic`. The rest assumes nothing.
use mathlib.Core.Path.{◌≡◌, refl, sym, subst}
use Prim.Native.Nat.{ℕ, zero, suc, ◌<◌, ◌^◌}
use mathlib.Core.List.{List, [], ◌∷◌, ◌++◌}
use lib.Dec.{T as Holds}
use lib.ListN.{length}
use seplogic.Ra.Ura.{Ura}
use base.Fraction.{full_share}
use mir.Syntax.{Mutability, imm, mut, Lifetime, named, erased, Ty, ty_int, ty_ref, w8, Step as Along, deref, field, place, Opd as Operand, copy, rv_opd, addr_of, aggregate, Body, seq, assign, Local, local, value_local}
use mir.Raw.{raw as raw_ty}
use mir.Val.{Val, vptr, has_ty, WT}
use base.Logic.{ent, via}
use base.Fml.{Lft, Fml, ftrue, fsep, fat, froom, fdies}
use prog.Wp.{Heap, Env, Spot, spot_of, Calls, Loops}
use types.Logic.{Logic}
use types.Kit.{Goal, Post, Item, ‵, ⋆, nth, del, pull, unpull, push, pop, Seq, Step, step, ◌$◌, ◌∵◌, !, qed, move, drop, fsplit, fjoin, done, runs, allocs, passes, frees}
use types.Run.{Reads, Walks, Finds, Opd, Opds, look, init, store_raw, stop, hop, fld, from, load, addr, of_opd, and_then, no_more, assigns, alloc1, pass1, forget, free1}
use types.Part.{agg, whole, sub, look_in}
use contract.Lifetimes.{Lfts}
use denote.Builtin.{u8}
use denote.RattleType.{RattleType, Denots, Valss, flat}
use denote.Laws.{Are, Ises}
use denote.Slice.{slice_ty, slice_val, MutSlice, ShrSlice}
use denote.Steps.{nothing}

-- ---- a row of locals
abbrev pub Fits : Ty → Val → Type 0
Fits τ v = Holds (has_ty τ v) × WT v

abbrev pub Blocks : List Ty → Type 0
Blocks [] = Unit {0}
Blocks (τ ∷ τs) = ℕ × Blocks τs

abbrev pub Held : List Ty → Type 0
Held [] = Unit {0}
Held (τ ∷ τs) = (v : Val) × Fits τ v × Held τs

abbrev pub values : (τs : List Ty) → Held τs → List Val
values [] vs = []
values (τ ∷ τs) vs = vs.0 ∷ values τs vs.2

abbrev pub locals : List Ty → List Local → List Local
locals [] ls = ls
locals (τ ∷ τs) ls = local τ value_local ∷ locals τs ls

abbrev pub placed : (τs : List Ty) → Blocks τs → List (Ty × ℕ) → List (Ty × ℕ)
placed [] bs E = E
placed (τ ∷ τs) bs E = (τ, bs.0) ∷ placed τs bs.1 E

abbrev pub Rooms : (τs : List Ty) → Blocks τs → Fml
Rooms [] bs = ftrue
Rooms (τ ∷ τs) bs = fsep (fsep (froom τ bs.0 zero) (fdies τ bs.0)) (Rooms τs bs.1)

abbrev pub Cells : (τs : List Ty) → Blocks τs → Held τs → Fml
Cells [] bs vs = ftrue
Cells (τ ∷ τs) bs vs = fsep (fsep (fat full_share τ bs.0 zero vs.0) (fdies τ bs.0)) (Cells τs bs.1 vs.2)

abbrev pub behind : List Ty → ℕ → ℕ
behind [] i = i
behind (τ ∷ τs) i = suc (behind τs i)

module _ {M : Type 1} (𝓤 : Ura M) (H : Heap 𝓤) where
  abbrev pub Spots : Env 𝓤 H → ℕ → (τs : List Ty) → Blocks τs → Type 0
  Spots E i [] bs = Unit {0}
  Spots E i (τ ∷ τs) bs = (spot_of 𝓤 H E i ≡ (τ, bs.0, zero)) × Spots E (suc i) τs bs.1

  one_on : (e : Ty × ℕ) (E : Env 𝓤 H) (i : ℕ) (τs : List Ty) (bs : Blocks τs) → Spots E i τs bs → Spots (e ∷ E) (suc i) τs bs
  one_on e E i [] bs s = tt
  one_on e E i (τ ∷ τs) bs s = (s.0, one_on e E (suc i) τs bs.1 s.1)

  pub at_front : (τs : List Ty) (bs : Blocks τs) (E : Env 𝓤 H) → Spots (placed τs bs E) 0 τs bs
  at_front [] bs E = tt
  at_front (τ ∷ τs) bs E = (refl, one_on (τ, bs.0) (placed τs bs.1 E) 0 τs bs.1 (at_front τs bs.1 E))

  pub at_rear : (τs : List Ty) (bs : Blocks τs) (E : Env 𝓤 H) (i : ℕ) (σs : List Ty) (cs : Blocks σs) → Spots E i σs cs → Spots (placed τs bs E) (behind τs i) σs cs
  at_rear [] bs E i σs cs s = s
  at_rear (τ ∷ τs) bs E i σs cs s = one_on (τ, bs.0) (placed τs bs.1 E) (behind τs i) σs cs (at_rear τs bs.1 E i σs cs s)

module _ {M : Type 1} {𝓤 : Ura M} {𝓛 : Logic 𝓤} {K : Type 0} where
  open 𝓛 use {H}

  pub at : K → {Γ : List (Item 𝓤)} {E : Env 𝓤 H} {i : ℕ} {st : List Along} {sp sp' : Spot 𝓤 H} → spot_of 𝓤 H E i ≡ sp → Walks K 𝓛 Γ E sp st sp' → Finds K 𝓛 Γ E (place i st) sp'
  at t {Γ} {E} {i} {st} {sp} {sp'} e w = from t (subst (λ (s : Spot 𝓤 H). Walks K 𝓛 Γ E s st sp') (sym e) w)

  pub gone : K → {Γ : List (Item 𝓤)} {τ : Ty} {b : ℕ} {v : Val} {E : Env 𝓤 H} {g : Goal 𝓤 H} → Step K 𝓛 Γ (frees E g) (‵ (fat full_share τ b zero v) ∷ ‵ (fdies τ b) ∷ Γ) (frees ((τ, b) ∷ E) g)
  gone t = step (λ s. forget t 0 refl $ free1 t $ s)

  pub alloc_all : K → (τs : List Ty) {Γ : List (Item 𝓤)} {ls : List Local} {Kt : Env 𝓤 H → Goal 𝓤 H} → ((bs : Blocks τs) → Seq K 𝓛 (‵ (Rooms τs bs) ∷ Γ) (allocs ls (λ E. Kt (placed τs bs E)))) → Seq K 𝓛 Γ (allocs (locals τs ls) Kt)
  alloc_all t [] k = nothing t $ k tt
  alloc_all t (τ ∷ τs) k = alloc1 t (λ b. alloc_all t τs (λ bs. move t (1 ∷ 2 ∷ []) $ fjoin t $ fjoin t $ k (b, bs)))

  pub pass_all : K → (τs : List Ty) (bs : Blocks τs) (vs : Held τs) {Γ : List (Item 𝓤)} {E : Env 𝓤 H} {g : Goal 𝓤 H} → Step K 𝓛 (‵ (Cells τs bs vs) ∷ Γ) (passes E [] g) (‵ (Rooms τs bs) ∷ Γ) (passes (placed τs bs E) (values τs vs) g)
  pass_all t [] bs vs = step (λ s. s)
  pass_all t (τ ∷ τs) bs vs = step (λ s. fsplit t $ fsplit t $ pass1 t (init t 0 refl vs.1) $ move t (2 ∷ []) $ pass_all t τs bs.1 vs.2 $ move t (1 ∷ 2 ∷ []) $ fjoin t $ fjoin t $ s)

  pub free_all : K → (τs : List Ty) (bs : Blocks τs) (vs : Held τs) {Γ : List (Item 𝓤)} {E : Env 𝓤 H} {g : Goal 𝓤 H} → Step K 𝓛 Γ (frees E g) (‵ (Cells τs bs vs) ∷ Γ) (frees (placed τs bs E) g)
  free_all t [] bs vs = step (λ s. drop t $ s)
  free_all t (τ ∷ τs) bs vs = step (λ s. fsplit t $ fsplit t $ gone t $ free_all t τs bs.1 vs.2 $ s)

-- each cell of a row can be read, with the row an entry of the context
module _ {M : Type 1} {𝓤 : Ura M} (K : Type 0) (𝓛 : Logic 𝓤) (Γ : List (Item 𝓤)) where
  abbrev pub ReadsAll : (τs : List Ty) → Blocks τs → Held τs → Type 2
  ReadsAll [] bs vs = Unit {2}
  ReadsAll (τ ∷ τs) bs vs = Reads K 𝓛 Γ τ bs.0 zero vs.0 × ReadsAll τs bs.1 vs.2

  -- Γ is the row and the entries Δ
  look_beside : K → (τs : List Ty) (bs : Blocks τs) (vs : Held τs) (Δ : List (Item 𝓤)) → ent 𝓤 (⋆ 𝓛 Γ) (⋆ 𝓛 (‵ (Cells τs bs vs) ∷ Δ)) → ent 𝓤 (⋆ 𝓛 (‵ (Cells τs bs vs) ∷ Δ)) (⋆ 𝓛 Γ) → ReadsAll τs bs vs
  look_beside t [] bs vs Δ out back = tt
  look_beside t (τ ∷ τs) bs vs Δ out back =
      let row : Item 𝓤 = ‵ (Cells (τ ∷ τs) bs vs) in
      let more : Item 𝓤 = ‵ (Cells τs bs.1 vs.2) in
      let one : Fml = fsep (fat full_share τ bs.0 zero vs.0) (fdies τ bs.0) in
      let apart : List (Item 𝓤) = ‵ (fat full_share τ bs.0 zero vs.0) ∷ ‵ (fdies τ bs.0) ∷ more ∷ Δ in
      let cell : Reads K 𝓛 apart τ bs.0 zero vs.0 = look t 0 refl in (
        record { go = λ Kt h. via 𝓤 _ out (via 𝓤 _ (qed 𝓛 (row ∷ Δ) ∵ fsplit ! $ fsplit ! $ done !) (cell.go Kt (via 𝓤 _ (qed 𝓛 apart ∵ fjoin ! $ fjoin ! $ done !) (via 𝓤 _ back h)))) },
        look_beside t τs bs.1 vs.2 (‵ one ∷ Δ) (via 𝓤 _ out (qed 𝓛 (row ∷ Δ) ∵ fsplit ! $ move ! (1 ∷ []) $ done !)) (via 𝓤 _ (qed 𝓛 (more ∷ ‵ one ∷ Δ) ∵ move ! (1 ∷ []) $ fjoin ! $ done !) back),
      )

  pub look_all : K → (n : ℕ) (τs : List Ty) (bs : Blocks τs) (vs : Held τs) → nth 𝓛 n Γ ≡ ‵ (Cells τs bs vs) → ReadsAll τs bs vs
  look_all t n τs bs vs e =
      look_beside t τs bs vs (del 𝓛 n Γ) (subst (λ (i : Item 𝓤). ent 𝓤 (⋆ 𝓛 Γ) (⋆ 𝓛 (i ∷ del 𝓛 n Γ))) e (via 𝓤 _ (pull 𝓛 n Γ) (push 𝓛 (nth 𝓛 n Γ) (del 𝓛 n Γ))))
      (subst (λ (i : Item 𝓤). ent 𝓤 (⋆ 𝓛 (i ∷ del 𝓛 n Γ)) (⋆ 𝓛 Γ)) e (via 𝓤 _ (pop 𝓛 (nth 𝓛 n Γ) (del 𝓛 n Γ)) (unpull 𝓛 n Γ)))

-- ---- slices that are lent on
abbrev bytes : Lifetime → Mutability → Ty
bytes ℓ m = slice_ty (ty_ref ℓ m (ty_int w8))

-- the lifetimes are numbered from j on
abbrev pub slices : ℕ → List Mutability → List Ty
slices j [] = []
slices j (m ∷ ms) = bytes (named j) m ∷ slices (suc j) ms

-- of a `&mut` its pointer, and the slice that is made of it again
abbrev pub onward : List Mutability → List Ty
onward [] = []
onward (imm ∷ ms) = onward ms
onward (mut ∷ ms) = ty_ref erased mut (ty_int w8) ∷ bytes erased mut ∷ onward ms

-- the parameters are the locals i, suc i …, and those made of them j, suc j …
abbrev pub lends : ℕ → ℕ → List Mutability → Body → Body
lends i j [] rest = rest
lends i j (imm ∷ ms) rest = lends (suc i) j ms rest
lends i j (mut ∷ ms) rest =
    seq (assign (place j []) (addr_of (place i (field 0 ∷ deref (ty_int w8) ∷ []))))
    (seq (assign (place (suc j) []) (aggregate (copy (place j []) ∷ copy (place i (field 1 ∷ [])) ∷ [])))
    (lends (suc i) (suc (suc j)) ms rest))

abbrev pub lent : ℕ → ℕ → List Mutability → List Operand
lent i j [] = []
lent i j (imm ∷ ms) = copy (place i []) ∷ lent (suc i) j ms
lent i j (mut ∷ ms) = copy (place (suc j) []) ∷ lent (suc i) (suc (suc j)) ms

abbrev pub Pieces : List Mutability → Type 0
Pieces [] = Unit {0}
Pieces (m ∷ ms) = (p : ℕ × ℕ) × (n : ℕ) × n < 2 ^ 64 × Pieces ms

pub slice_fits : {n : ℕ} (p : ℕ × ℕ) (ℓ : Lifetime) (m : Mutability) → n < 2 ^ 64 → Fits (bytes ℓ m) (slice_val p n)
slice_fits p ℓ m lt = (tt, (tt, (record { fits = lt }, tt)))

abbrev pub taken : (j : ℕ) (ms : List Mutability) → Pieces ms → Held (slices j ms)
taken j [] x = tt
taken j (m ∷ ms) x = (slice_val x.0 x.1, slice_fits x.0 (named j) m x.2, taken (suc j) ms x.3)

abbrev pub made : (ms : List Mutability) → Pieces ms → Held (onward ms)
made [] x = tt
made (imm ∷ ms) x = made ms x.3
made (mut ∷ ms) x = (vptr x.0.0 x.0.1, (tt, tt), (slice_val x.0 x.1, slice_fits x.0 erased mut x.2, made ms x.3))

module _ {M : Type 1} {𝓤 : Ura M} {𝓛 : Logic 𝓤} {K : Type 0} where
  -- a parameter and what is made of it, out of the two rows, and back
  open 𝓛 use {H}

  apart : K → {a a' P b b' c c' Q : Fml} {Γ : List (Item 𝓤)} {G : Goal 𝓤 H} → Step K 𝓛 (‵ b ∷ ‵ c ∷ ‵ a ∷ ‵ P ∷ ‵ Q ∷ ‵ a' ∷ ‵ b' ∷ ‵ c' ∷ Γ) G (‵ (fsep (fsep a a') P) ∷ ‵ (fsep (fsep b b') (fsep (fsep c c') Q)) ∷ Γ) G
  apart t = step (λ s. fsplit t $ fsplit t $ move t (3 ∷ []) $ fsplit t $ fsplit t $ move t (2 ∷ []) $ fsplit t $ fsplit t $ move t (3 ∷ 0 ∷ 5 ∷ 7 ∷ 2 ∷ 6 ∷ 4 ∷ 1 ∷ []) $ s)

  together : K → {a a' P b b' c c' Q : Fml} {Γ : List (Item 𝓤)} {G : Goal 𝓤 H} → Step K 𝓛 (‵ (fsep (fsep a a') P) ∷ ‵ (fsep (fsep b b') (fsep (fsep c c') Q)) ∷ Γ) G (‵ P ∷ ‵ Q ∷ ‵ b ∷ ‵ c ∷ ‵ a ∷ ‵ a' ∷ ‵ b' ∷ ‵ c' ∷ Γ) G
  together t = step (λ s. move t (3 ∷ 7 ∷ 1 ∷ []) $ fjoin t $ fjoin t $ move t (2 ∷ 5 ∷ 0 ∷ []) $ fjoin t $ fjoin t $ move t (2 ∷ 3 ∷ 1 ∷ []) $ fjoin t $ fjoin t $ s)

module _ {M : Type 1} {𝓤 : Ura M} {𝓛 : Logic 𝓤} {K : Type 0} {E : Env 𝓤 𝓛.H} where
  open 𝓛 use {H}

  pub lend_all : {C : Calls 𝓤 H} {Λ : Loops 𝓤 H} {rest : Body} {q : Post 𝓤 H} → K
      → (ms : List Mutability) (x : Pieces ms) (n i j : ℕ) (bs : Blocks (slices n ms)) (cs : Blocks (onward ms)) → Spots 𝓤 H E i (slices n ms) bs → Spots 𝓤 H E j (onward ms) cs → {Γ : List (Item 𝓤)}
      → Step K 𝓛 (‵ (Cells (slices n ms) bs (taken n ms x)) ∷ ‵ (Cells (onward ms) cs (made ms x)) ∷ Γ) (runs C Λ E rest q) (‵ (Cells (slices n ms) bs (taken n ms x)) ∷ ‵ (Rooms (onward ms) cs) ∷ Γ) (runs C Λ E (lends i j ms rest) q)
  lend_all t [] x n i j bs cs sp sq = step (λ s. s)
  lend_all t (imm ∷ ms) x n i j bs cs sp sq = step (λ s. fsplit t $ move t (1 ∷ 2 ∷ []) $ lend_all t ms x.3 (suc n) (suc i) j bs.1 cs sp.1 sq $ move t (2 ∷ 0 ∷ []) $ fjoin t $ s)
  lend_all t (mut ∷ ms) x n i j bs cs sp sq = step (λ s.
      -- [room for the pointer; room for the slice; the parameter; the other parameters; room for more; …]
      apart t $ assigns t (addr t (at t sp.0 (fld t refl (hop t (look_in t 2 (sub t 0 refl (whole t))) (stop t))))) (at t sq.0 (stop t)) (init t 0 refl (tt, tt)) $
      assigns t (agg t (and_then t (load t (at t sq.0 (stop t)) (look t 0 refl)) (and_then t (load t (at t sp.0 (fld t refl (stop t))) (look_in t 2 (sub t 1 refl (whole t)))) (no_more t))))
      (at t sq.1.0 (stop t)) (init t 1 refl (slice_fits x.0 erased mut x.2)) $
      move t (3 ∷ 4 ∷ []) $ lend_all t ms x.3 (suc n) (suc i) (suc (suc j)) bs.1 cs.1.1 sp.1 sq.1.1 $ together t $ s)

  pub passes_on : {Γ : List (Item 𝓤)} → K → (ms : List Mutability) (x : Pieces ms) (n i j : ℕ) (bs : Blocks (slices n ms)) (cs : Blocks (onward ms)) → Spots 𝓤 H E i (slices n ms) bs → Spots 𝓤 H E j (onward ms) cs
      → ReadsAll K 𝓛 Γ (slices n ms) bs (taken n ms x) → ReadsAll K 𝓛 Γ (onward ms) cs (made ms x) → Opds K 𝓛 Γ E (lent i j ms) (values (slices n ms) (taken n ms x))
  passes_on t [] x n i j bs cs sp sq u w = no_more t
  passes_on t (imm ∷ ms) x n i j bs cs sp sq u w = and_then t (load t (at t sp.0 (stop t)) u.0) (passes_on t ms x.3 (suc n) (suc i) j bs.1 cs sp.1 sq u.1 w)
  passes_on t (mut ∷ ms) x n i j bs cs sp sq u w = and_then t (load t (at t sq.1.0 (stop t)) w.1.0) (passes_on t ms x.3 (suc n) (suc i) (suc (suc j)) bs.1 cs.1.1 sp.1 sq.1.1 u.1 w.1.1)

-- ---- what the local i holds at the path st is stored behind the parameter 1: at once, where it is all that i holds, and else by way of a local j of its own
abbrev pub spare : Ty → List Along → List Ty
spare τ [] = []
spare τ (s ∷ st) = τ ∷ []

abbrev pub stores : Ty → ℕ → List Along → ℕ → Body → Body
stores τ i [] j rest = seq (assign (place 1 (deref τ ∷ [])) (rv_opd (copy (place i [])))) rest
stores τ i (s ∷ st) j rest = seq (assign (place j []) (rv_opd (copy (place i (s ∷ st))))) (seq (assign (place 1 (deref τ ∷ [])) (rv_opd (copy (place j [])))) rest)

abbrev pub spared : (τ : Ty) (st : List Along) (v : Val) → Fits τ v → Held (spare τ st)
spared τ [] v ok = tt
spared τ (s ∷ st) v ok = (v, ok, tt)

module _ {M : Type 1} {𝓤 : Ura M} {𝓛 : Logic 𝓤} {K : Type 0} {E : Env 𝓤 𝓛.H} where
  open 𝓛 use {H}

  pub store_all : {C : Calls 𝓤 H} {Λ : Loops 𝓤 H} {rest : Body} {q : Post 𝓤 H} → K
      → (τ : Ty) (st : List Along) (v : Val) (ok : Fits τ v) (i j : ℕ) (ds : Blocks (spare τ st)) → Spots 𝓤 H E j (spare τ st) ds → {ρ : Ty} {l b o : ℕ} → spot_of 𝓤 H E 1 ≡ (ρ, l, zero) → {σ : Ty} {c : ℕ} {u w : Val}
      → ((Δ : List (Item 𝓤)) (n : ℕ) → nth 𝓛 n Δ ≡ ‵ (fat full_share σ c zero w) → Opd K 𝓛 Δ E (copy (place i st)) v) → {Γ : List (Item 𝓤)}
      → Step K 𝓛 (‵ (Cells (spare τ st) ds (spared τ st v ok)) ∷ ‵ (fat full_share (raw_ty τ) b o v) ∷ ‵ (fat full_share ρ l zero (vptr b o)) ∷ ‵ (fat full_share σ c zero w) ∷ Γ) (runs C Λ E rest q)
      (‵ (Rooms (spare τ st) ds) ∷ ‵ (fat full_share (raw_ty τ) b o u) ∷ ‵ (fat full_share ρ l zero (vptr b o)) ∷ ‵ (fat full_share σ c zero w) ∷ Γ) (runs C Λ E (stores τ i st j rest) q)
  store_all t τ [] v ok i j ds sp self reads = step (λ s. assigns t (of_opd t (reads _ 3 refl)) (at t self (hop t (look t 2 refl) (stop t))) (store_raw t 1 refl ok) $ s)
  store_all t τ (x ∷ st) v ok i j ds sp self reads = step (λ s.
      -- [the local of its own; its end; nothing; the place; self; what holds the value; …]
      fsplit t $ fsplit t $ assigns t (of_opd t (reads _ 5 refl)) (at t sp.0 (stop t)) (init t 0 refl ok) $
      assigns t (of_opd t (load t (at t sp.0 (stop t)) (look t 0 refl))) (at t self (hop t (look t 4 refl) (stop t))) (store_raw t 3 refl ok) $ fjoin t $ fjoin t $ s)

-- at the caller's lifetimes. What a type owns names no lifetime as MIR does
abbrev slice : Mutability → Lft → RattleType
slice imm κ = ShrSlice erased κ u8
slice mut κ = MutSlice erased κ u8

abbrev pub rows : (ms : List Mutability) → Lfts (length ms) → List RattleType
rows [] κs = []
rows (m ∷ ms) κs = slice m κs.0 ∷ rows ms κs.1

pub pieces : (n : ℕ) (ms : List Mutability) (κs : Lfts (length ms)) (a : Denots (rows ms κs)) (vss : Valss (rows ms κs)) → Are (rows ms κs) (Ises (rows ms κs)) a vss → (x : Pieces ms) × flat (rows ms κs) vss ≡ values (slices n ms) (taken n ms x)
pieces n [] κs a vss are = (tt, refl)
pieces n (imm ∷ ms) κs a vss are = let more = pieces (suc n) ms κs.1 a.1 vss.1 are.1 in ((a.0.ref_ptr, length a.0.now, are.0.0.1.0, more.0), λ i. are.0.0.0 i ++ more.1 i)
pieces n (mut ∷ ms) κs a vss are = let more = pieces (suc n) ms κs.1 a.1 vss.1 are.1 in ((a.0.ref_ptr, length a.0.now, are.0.0.1.0, more.0), λ i. are.0.0.0 i ++ more.1 i)
