-- UTF-8: RFC 3629, section 4. A text is characters, each of them a sequence that a row of the table admits.
-- Assumes nothing.
use Rattle.std.specs.Prelude.{ℕ, List, [], ◌∷◌, Bool, true, false, cond, ◌&&◌, leb}

-- the bytes from `low` to `high`
pub record Range : Type 0 where
  pub low : ℕ
  pub high : ℕ

abbrev pub range : ℕ → ℕ → Range
range low high = record { low = low; high = high }

abbrev pub tail : Range
tail = range 0x80 0xbf

abbrev pub within : Range → ℕ → Bool
within r b = leb r.low b && leb b r.high

-- a row of the table: where the first byte lies, and where each byte behind it
pub record Row : Type 0 where
  pub first : Range
  pub others : List Range

abbrev pub row : Range → List Range → Row
row first others = record { first = first; others = others }

abbrev pub rows : List Row
rows =
    row (range 0x00 0x7f) []
    ∷ row (range 0xc2 0xdf) (tail ∷ [])
    ∷ row (range 0xe0 0xe0) (range 0xa0 0xbf ∷ tail ∷ [])
    ∷ row (range 0xe1 0xec) (tail ∷ tail ∷ [])
    ∷ row (range 0xed 0xed) (range 0x80 0x9f ∷ tail ∷ [])
    ∷ row (range 0xee 0xef) (tail ∷ tail ∷ [])
    ∷ row (range 0xf0 0xf0) (range 0x90 0xbf ∷ tail ∷ tail ∷ [])
    ∷ row (range 0xf1 0xf3) (tail ∷ tail ∷ tail ∷ [])
    ∷ row (range 0xf4 0xf4) (range 0x80 0x8f ∷ tail ∷ tail ∷ [])
    ∷ []

-- what is still to come of a character: bytes in these ranges (none of them: it is whole), or nothing can make it one
pub data Want : Type 0 where
  wants : List Range → Want
  never : Want

-- what the first byte of a character asks for
unfoldable pub begin : List Row → ℕ → Want
begin [] b = never
begin (r ∷ more) b = cond (within r.first b) (wants r.others) (begin more b)

-- one byte further
unfoldable pub step : Want → ℕ → Want
unfolding begin
step (wants []) b = begin rows b
step (wants (r ∷ others)) b = cond (within r b) (wants others) never
step never b = never

-- what is wanted after the bytes s
unfoldable pub after : Want → List ℕ → Want
unfolding step
after w [] = w
after w (b ∷ s) = after (step w b) s

abbrev pub whole : Want → Bool
whole (wants []) = true
whole (wants (r ∷ others)) = false
whole never = false

-- s is whole characters
unfoldable pub utf8 : List ℕ → Bool
unfolding after
utf8 s = whole (after (wants []) s)
