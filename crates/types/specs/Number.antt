-- Numbers of some bytes, the first of most weight, and the bytes of a number. Assumes nothing.
use Rattle.std.specs.Prelude.{ℕ, zero, suc, ◌+◌, ◌*◌, ◌/◌, ◌%◌, List, [], ◌∷◌, ◌++◌, take, drop}

-- the n elements from index `at` on, or as many as there are
abbrev pub part : List ℕ → ℕ → ℕ → List ℕ
part s at n = take n (drop at s)

-- the number whose bytes so far make `value`, and whose further bytes are s
unfoldable pub be_from : ℕ → List ℕ → ℕ
be_from value [] = value
be_from value (b ∷ s) = be_from (value * 256 + b) s

-- the number of the bytes s
unfoldable pub be : List ℕ → ℕ
unfolding be_from
be s = be_from 0 s

-- the lowest n bytes of x, the one of most weight first
unfoldable pub digits : ℕ → ℕ → List ℕ
digits zero x = []
digits (suc n) x = digits n (x / 256) ++ (x % 256 ∷ [])
