-- `types::inner::lengths_fit` meets its contract: the lengths to come fit what is left as all fit the sum. Assumes nothing.
use mathlib.Core.Path.{◌≡◌}
use lib.ListN.{drop}
use Rattle.types.specs.Write.{lengths_fit}
use Rattle.types.proofs.inner.lengths_fit.Given as goal

abbrev pub invariant-loop-n : goal.invariant-loop-n
invariant-loop-n l = lengths_fit l.sum l.lens ≡ lengths_fit l.left (drop l.n-index l.lens)
