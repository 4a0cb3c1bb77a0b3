-- Laws of the table of RFC 3629, section 4: which row a byte begins.
-- Assumes nothing.
use Prim.Native.Nat.{ℕ, suc, ◌≤◌, ◌<◌}
use mathlib.Core.Path.{◌≡◌, ap, ◌∙◌}
use mathlib.Core.Bool.{Bool, true, false, cond}
use mathlib.Core.List.{List, [], ◌∷◌}
use native.Mathlib.Omega.{arith}
use borrow.Author.Tests.{le-leb, lt-leb}
use Rattle.utf8.specs.Utf8.{Range, within, Row, rows, wants, begin}

-- ---- a range

-- a byte lies in a range
abbrev pub Lies : Range → ℕ → Type 0
Lies r b = (r.low ≤ b) × (b ≤ r.high)

-- the test by where the byte lies: in the range, above it, below it
pub lies_within : (r : Range) (b : ℕ) → Lies r b → within r b ≡ true
lies_within r b h = rw (le-leb r.low b h.0, le-leb b r.high h.1)

pub above_within : (r : Range) (b : ℕ) → r.low ≤ b → r.high < b → within r b ≡ false
above_within r b p q = rw (le-leb r.low b p, lt-leb b r.high q)

pub below_within : (r : Range) (b : ℕ) → b < r.low → within r b ≡ false
below_within r b p = rw (lt-leb r.low b p)

-- ---- the rows

-- a row of these
pub data Among : Row → List Row → Type 0 where
  here : {r : Row} {rs : List Row} → Among r (r ∷ rs)
  there : {r q : Row} {rs : List Row} → Among r rs → Among r (q ∷ rs)

-- the first bytes rise from row to row, from `least` on
abbrev pub Rising : ℕ → List Row → Type 0
Rising least [] = Unit {0}
Rising least (r ∷ rs) = (least ≤ r.first.low) × (r.first.low ≤ r.first.high) × Rising (suc r.first.high) rs

-- those of the table do, one range after the other
pub rising : Rising 0 rows
rising = omega arith

-- then no row begins below `least`
rising_low : {r : Row} {rs : List Row} (least : ℕ) → Rising least rs → Among r rs → least ≤ r.first.low
rising_low least h here = h.0
rising_low least h (there {r = r} {q = q} i) =
    let k : q.first.high < r.first.low = rising_low (suc q.first.high) h.2 i in
    omega (arith, h.0, h.1)

-- so a byte that begins a row begins no other, and asks for what that row does
pub begins : {r : Row} {rs : List Row} (least : ℕ) → Rising least rs → Among r rs → (b : ℕ) → Lies r.first b → begin rs b ≡ wants r.others
unfolding begin
begins least h (here {r = r} {rs = rs}) b l = ap (λ (t : Bool). cond t (wants r.others) (begin rs b)) (lies_within r.first b l)
begins least h (there {r = r} {q = q} {rs = rs} i) b l =
    let k : q.first.high < r.first.low = rising_low (suc q.first.high) h.2 i in
    ap (λ (t : Bool). cond t (wants q.others) (begin rs b)) (above_within q.first b (omega (arith, h.1)) (omega arith))
    ∙ begins (suc q.first.high) h.2 i b l
