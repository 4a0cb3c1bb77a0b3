-- `types::inner::read_number` meets its contract: the value is the number of the bytes passed, which so many bytes hold. Assumes nothing.
use native.Mathlib.Omega.{arith}
use lib.ListN.{drop}
use Rattle.types.proofs.BigEndian.{bytes_take, bytes_drop, be_take_suc, more_below}
use Rattle.types.proofs.inner.read_number.Goals as goal

pub loop-b-preserved : goal.loop-b-preserved
loop-b-preserved c = (
  rw (be_take_suc _ _ c.loop-b-test.true, c.loop-b.invariant.0),
  more_below c.loop-b.b-index c.loop-b.invariant.1 (bytes_take _ (drop c.args.at c.args.bytes.now) (bytes_drop c.args.at c.args.bytes.now (λ i. omega (arith, c.type_inv.bytes i))) c.loop-b.b-index),
)
