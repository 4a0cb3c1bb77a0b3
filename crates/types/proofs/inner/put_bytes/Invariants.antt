-- `types::inner::put_bytes` meets its contract: what was passed is copied, and the rest stands. Assumes nothing.
use mathlib.Core.Path.{◌≡◌}
use lib.Seq.{paste}
use Rattle.types.proofs.inner.put_bytes.Given as goal

abbrev pub invariant-loop-i : goal.invariant-loop-i
invariant-loop-i l = l.out ≡ paste l.initial.out l.at l.src l.i
