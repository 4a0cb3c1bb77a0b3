-- `types::inner::put_number` meets its contract: writing the bytes that are left gives what writing all of them would. Assumes nothing.
use mathlib.Core.Path.{◌∙◌}
use native.Mathlib.Omega.{arith}
use lib.ListN.{length-set}
use Rattle.types.proofs.Put.{put_digit}
use Rattle.types.proofs.inner.put_number.Goals as goal

pub loop-i-preserved : goal.loop-i-preserved
loop-i-preserved c = let l = c.loop-i in (
  omega arith,
  simp length-set l.invariant.1,
  put_digit l.out c.args.at l.i l.rest c.loop-i-test.true (omega arith) ∙ l.invariant.2,
)
