-- What the table of RFC 3629, section 4, admits is exactly scalar values encoded by its section 3, one after the other.
-- Assumes nothing.
use Prim.Native.Nat.{ℕ, ◌+◌, ◌*◌, ◌-◌, ◌/◌, ◌%◌, ◌≤◌, ◌<◌}
use mathlib.Core.Path.{◌≡◌, refl, sym, ap, ◌∙◌, subst}
use mathlib.Core.Bool.{Bool, true, false, cond, false≢true}
use mathlib.Core.Logic.{◌⊎◌, inl, inr, ⊎_elim}
use mathlib.Core.List.{List, [], ◌∷◌, ◌++◌}
use native.Mathlib.Omega.{arith}
use native.Mathlib.Nat.{lt_of_not-le}
use native.Mathlib.Decide.{dec_le}
use Rattle.utf8.specs.Utf8.{Range, range, tail, within, Row, rows, Want, wants, never, begin, step, after, whole, utf8}
use Rattle.utf8.specs.Scalar.{Encodes, one, two, three, four, Text, none, more}
use Rattle.utf8.proofs.Table.{Lies, lies_within, above_within, below_within, Among, here, there, rising, begins}

-- ---- by cases

-- one number is at most the other, or not
split : {X : Type 0} (a b : ℕ) → (a ≤ b → X) → (b < a → X) → X
split a b f g = elim (dec_le a b) [ yes h ↦ f h | no h ↦ g (lt_of_not-le h) ]

-- what holds of the test: the case that it passes, and the case that it fails
tested : (r : Range) (b : ℕ) (P : Bool → Type 0) → (Lies r b → P true) → P false → P (within r b)
tested r b P f g =
    split r.low b
    (λ p. split b r.high (λ q. subst P (sym (lies_within r b (p, q))) (f (p, q))) (λ q. subst P (sym (above_within r b p q)) g))
    (λ p. subst P (sym (below_within r b p)) g)

-- ---- scalar values are admitted

-- each byte lies in its range
abbrev Fits : List Range → List ℕ → Type 0
Fits [] [] = Unit {0}
Fits [] (b ∷ bs) = ⊥
Fits (r ∷ rs) [] = ⊥
Fits (r ∷ rs) (b ∷ bs) = Lies r b × Fits rs bs

-- bytes that fit what is wanted are passed over
fits_after : (rs : List Range) (bs : List ℕ) → Fits rs bs → (s : List ℕ) → after (wants rs) (bs ++ s) ≡ after (wants []) s
unfolding after step
fits_after [] [] f s = refl
fits_after [] (b ∷ bs) f s = absurd f
fits_after (r ∷ rs) [] f s = absurd f
fits_after (r ∷ rs) (b ∷ bs) f s =
    ap (λ (t : Bool). after (cond t (wants rs) never) (bs ++ s)) (lies_within r b f.0) ∙ fits_after rs bs f.1 s

-- and so are bytes that fit a row
row_after : {r : Row} → Among r rows → (bs : List ℕ) → Fits (r.first ∷ r.others) bs
    → (s : List ℕ) → after (wants []) (bs ++ s) ≡ after (wants []) s
unfolding after step
row_after i [] f s = absurd f
row_after {r} i (b ∷ bs) f s =
    ap (λ (w : Want). after w (bs ++ s)) (begins 0 rising i b f.0) ∙ fits_after r.others bs f.1 s

-- and so is a scalar value: its bytes fit a row
encodes_after : {c : ℕ} {bs : List ℕ} → Encodes c bs → (s : List ℕ) → after (wants []) (bs ++ s) ≡ after (wants []) s
encodes_after {bs = bs} (one h) = row_after here bs (omega arith)
encodes_after {bs = bs} (two p q) = row_after (there here) bs (omega arith)
encodes_after {c} {bs} (three p q k) =
    ⊎_elim
    (λ j. split 0x1000 c
    (λ h. split 0xd000 c
    (λ h'. row_after (there (there (there (there here)))) bs (omega arith))
    (λ h'. row_after (there (there (there here))) bs (omega arith)))
    (λ h. row_after (there (there here)) bs (omega arith)))
    (λ j. row_after (there (there (there (there (there here))))) bs (omega arith))
    k
encodes_after {c} {bs} (four p q) =
    split 0x40000 c
    (λ h. split 0x100000 c
    (λ h'. row_after (there (there (there (there (there (there (there (there here)))))))) bs (omega arith))
    (λ h'. row_after (there (there (there (there (there (there (there here))))))) bs (omega arith)))
    (λ h. row_after (there (there (there (there (there (there here)))))) bs (omega arith))

-- encoded scalar values are UTF-8
pub text_utf8 : {s : List ℕ} → Text s → utf8 s ≡ true
unfolding utf8 after
text_utf8 none = refl
text_utf8 (more {s = s} e t) = ap whole (encodes_after e s) ∙ text_utf8 t

-- ---- what is admitted is scalar values

-- these bytes before any text are a text
abbrev Joins : List ℕ → Type 0
Joins bs = (s : List ℕ) → Text s → Text (bs ++ s)

-- the value that two, three and four bytes carry
abbrev value2 : ℕ → ℕ → ℕ
value2 x y = (x - 0xc0) * 64 + (y - 0x80)

abbrev value3 : ℕ → ℕ → ℕ → ℕ
value3 x y z = (x - 0xe0) * 4096 + (y - 0x80) * 64 + (z - 0x80)

abbrev value4 : ℕ → ℕ → ℕ → ℕ → ℕ
value4 x y z v = (x - 0xf0) * 262144 + (y - 0x80) * 4096 + (z - 0x80) * 64 + (v - 0x80)

-- where it is a scalar value of their size, they are its encoding
two_joins : (x y : ℕ) → Lies (range 0xc2 0xdf) x → Lies tail y → Joins (x ∷ y ∷ [])
two_joins x y hx hy s t =
    let ex : 0xc0 + value2 x y / 64 ≡ x = omega arith in
    let ey : 0x80 + value2 x y % 64 ≡ y = omega arith in
    rw (ex, ey) at (more (two {c = value2 x y} (omega arith) (omega arith)) t)

three_joins : (x y z : ℕ) → Lies (range 0xe0 0xef) x → Lies tail y → Lies tail z
    → 0x800 ≤ value3 x y z → (value3 x y z < 0xd800) ⊎ (0xe000 ≤ value3 x y z) → Joins (x ∷ y ∷ z ∷ [])
three_joins x y z hx hy hz l k s t =
    let ex : 0xe0 + value3 x y z / 4096 ≡ x = omega arith in
    let ey : 0x80 + value3 x y z / 64 % 64 ≡ y = omega arith in
    let ez : 0x80 + value3 x y z % 64 ≡ z = omega arith in
    rw (ex, ey, ez) at (more (three {c = value3 x y z} l (omega arith) k) t)

four_joins : (x y z v : ℕ) → Lies (range 0xf0 0xf4) x → Lies tail y → Lies tail z → Lies tail v
    → 0x10000 ≤ value4 x y z v → value4 x y z v < 0x110000 → Joins (x ∷ y ∷ z ∷ v ∷ [])
four_joins x y z v hx hy hz hv l u s t =
    let ex : 0xf0 + value4 x y z v / 262144 ≡ x = omega arith in
    let ey : 0x80 + value4 x y z v / 4096 % 64 ≡ y = omega arith in
    let ez : 0x80 + value4 x y z v / 64 % 64 ≡ z = omega arith in
    let ev : 0x80 + value4 x y z v % 64 ≡ v = omega arith in
    rw (ex, ey, ez, ev) at (more (four {c = value4 x y z v} l u) t)

-- P holds of any bytes each of which lies in its range
abbrev Whenever : List Range → (List ℕ → Type 0) → Type 0
Whenever [] P = P []
Whenever (r ∷ rs) P = (b : ℕ) → Lies r b → Whenever rs (λ bs. P (b ∷ bs))

-- P holds of each row
abbrev Each : (Row → Type 0) → List Row → Type 0
Each P [] = Unit {0}
Each P (r ∷ rs) = P r × Each P rs

-- a pair, for the table of them below
infixr 20 ◌▸◌
abbrev ◌▸◌ : {A B : Type 0} → A → B → A × B
a ▸ b = (a, b)

-- what holds of every row holds of the one that b begins
begun : (P : Row → Type 0) (rs : List Row) → Each P rs → (b : ℕ) (Q : Want → Type 0) → Q never
    → ((r : Row) → P r → Lies r.first b → Q (wants r.others)) → Q (begin rs b)
unfolding begin
begun P [] ps b Q n f = n
begun P (r ∷ rs) ps b Q n f =
    tested r.first b (λ t. Q (cond t (wants r.others) (begin rs b))) (f r ps.0) (begun P rs ps.1 b Q n f)

-- the bytes that a row admits are those of a scalar value
rows_join : Each (λ r. Whenever (r.first ∷ r.others) Joins) rows
rows_join =
    (λ x hx s t. more (one (omega arith)) t)
    ▸ (λ x hx y hy. two_joins x y hx hy)
    ▸ (λ x hx y hy z hz. three_joins x y z (omega arith) (omega arith) hz (omega arith) (inl (omega arith)))
    ▸ (λ x hx y hy z hz. three_joins x y z (omega arith) hy hz (omega arith) (inl (omega arith)))
    ▸ (λ x hx y hy z hz. three_joins x y z (omega arith) (omega arith) hz (omega arith) (inl (omega arith)))
    ▸ (λ x hx y hy z hz. three_joins x y z (omega arith) hy hz (omega arith) (inr (omega arith)))
    ▸ (λ x hx y hy z hz v hv. four_joins x y z v (omega arith) (omega arith) hz hv (omega arith) (omega arith))
    ▸ (λ x hx y hy z hz v hv. four_joins x y z v (omega arith) hy hz hv (omega arith) (omega arith))
    ▸ (λ x hx y hy z hz v hv. four_joins x y z v (omega arith) (omega arith) hz hv (omega arith) (omega arith))
    ▸ tt

-- nothing makes up for a byte that is not admitted
lost : (s : List ℕ) → whole (after never s) ≡ true → ⊥
unfolding after step
lost [] h = false≢true h
lost (b ∷ s) h = lost s h

-- s takes what is wanted to a whole: then what holds of any fitting bytes before any text holds of s
reads : (rs : List Range) (s : List ℕ) (P : List ℕ → Type 0) → Whenever rs (λ bs. (t : List ℕ) → Text t → P (bs ++ t))
    → whole (after (wants rs) s) ≡ true → P s
unfolding after step
reads [] [] P f h = f [] none
reads [] (b ∷ s) P f h =
    f (b ∷ s)
    (begun (λ r. Whenever (r.first ∷ r.others) Joins) rows rows_join b (λ w. whole (after w s) ≡ true → Text (b ∷ s))
    (λ k. absurd (lost s k)) (λ r j l k. reads r.others s (λ t. Text (b ∷ t)) (j b l) k) h)
reads (r ∷ rs) [] P f h = absurd (false≢true h)
reads (r ∷ rs) (b ∷ s) P f h =
    tested r b (λ t. whole (after (cond t (wants rs) never) s) ≡ true → P (b ∷ s))
    (λ l k. reads rs s (λ t. P (b ∷ t)) (f b l) k) (λ k. absurd (lost s k)) h

-- UTF-8 is encoded scalar values
pub utf8_text : (s : List ℕ) → utf8 s ≡ true → Text s
unfolding utf8
utf8_text s h = reads [] s Text (λ bs t. t) h
