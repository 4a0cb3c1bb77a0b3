-- `types::inner::read_number` meets its contract: the value is the number of the bytes passed, which so many bytes hold. Assumes nothing.
use Prim.Native.Nat.{◌<◌, ◌^◌}
use mathlib.Core.Path.{◌≡◌}
use lib.ListN.{take}
use Rattle.types.specs.Number.{be}
use Rattle.types.proofs.inner.read_number.Given as goal

abbrev pub invariant-loop-b : goal.invariant-loop-b
invariant-loop-b l = (l.value ≡ be (take l.b-index l.b-items)) × (l.value < 256 ^ l.b-index)
