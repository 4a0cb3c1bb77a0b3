-- `types::inner::texts_fit` meets its contract: the texts to come are UTF-8 exactly if all are. Assumes nothing.
use Prim.Native.Nat.{◌≤◌, ◌-◌}
use mathlib.Core.Path.{◌≡◌}
use mathlib.Core.Bool.{true}
use lib.ListN.{length, drop}
use Rattle.types.specs.Write.{lengths_fit, all_utf8, cut_by}
use Rattle.types.proofs.inner.texts_fit.Given as goal

abbrev pub invariant-loop-n : goal.invariant-loop-n
invariant-loop-n l =
    (l.at ≤ length l.text)
    × (lengths_fit (length l.text - l.at) (drop l.n-index l.lens) ≡ true)
    × (all_utf8 (cut_by l.text l.lens) ≡ all_utf8 (cut_by (drop l.at l.text) (drop l.n-index l.lens)))
