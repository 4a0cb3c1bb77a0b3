-- What only the contracts of functions inside this crate cite, and proofs. No public promise speaks of it: a reader of the promises need not believe it.
-- What the state of the test means. Assumes nothing.
use Rattle.std.specs.Prelude.{ℕ, zero, suc, List, [], ◌∷◌}
use Rattle.utf8.specs.Utf8.{Range, range, tail, Want, wants, never}
use Rattle.utf8.specs.declared.Waiting.{Waiting}

unfoldable pub tails : ℕ → List Range
tails zero = []
tails (suc n) = tail ∷ tails n

abbrev pub want_of : Waiting → Want
want_of Waiting.First = wants []
want_of (Waiting.Tail low high more) = wants (range low high ∷ tails more)
want_of Waiting.Never = never
