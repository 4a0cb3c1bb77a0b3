-- Scalar values and their bytes: RFC 3629, section 3. Assumes nothing.
use Rattle.std.specs.Prelude.{ℕ, ◌+◌, ◌/◌, ◌%◌, ◌≤◌, ◌<◌, ◌⊎◌, List, [], ◌∷◌, ◌++◌}

-- a scalar value and its bytes, by its size
pub data Encodes : ℕ → List ℕ → Type 0 where
  one : {c : ℕ} → c < 0x80 → Encodes c (c ∷ [])
  two : {c : ℕ} → 0x80 ≤ c → c < 0x800 → Encodes c ((0xc0 + c / 64) ∷ (0x80 + c % 64) ∷ [])
  three : {c : ℕ} → 0x800 ≤ c → c < 0x10000 → (c < 0xd800) ⊎ (0xe000 ≤ c)
      → Encodes c ((0xe0 + c / 4096) ∷ (0x80 + c / 64 % 64) ∷ (0x80 + c % 64) ∷ [])
  four : {c : ℕ} → 0x10000 ≤ c → c < 0x110000
      → Encodes c ((0xf0 + c / 262144) ∷ (0x80 + c / 4096 % 64) ∷ (0x80 + c / 64 % 64) ∷ (0x80 + c % 64) ∷ [])

-- scalar values, encoded one after the other
pub data Text : List ℕ → Type 0 where
  none : Text []
  more : {c : ℕ} {bs s : List ℕ} → Encodes c bs → Text s → Text (bs ++ s)
