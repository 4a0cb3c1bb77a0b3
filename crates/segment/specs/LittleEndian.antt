-- Numbers of some bytes, the first of least weight, and the bytes of a number. Assumes nothing.
use Rattle.std.specs.Prelude.{ℕ, zero, suc, ◌+◌, ◌*◌, ◌/◌, ◌%◌, List, [], ◌∷◌}

-- the number of the bytes s
unfoldable pub le : List ℕ → ℕ
le [] = 0
le (b ∷ s) = le s * 256 + b

-- the lowest n bytes of x, the one of least weight first
unfoldable pub le_digits : ℕ → ℕ → List ℕ
le_digits zero x = []
le_digits (suc n) x = x % 256 ∷ le_digits n (x / 256)
