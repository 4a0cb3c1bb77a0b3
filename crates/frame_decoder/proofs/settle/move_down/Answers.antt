-- `frame_decoder::settle::move_down` meets its contract: each byte is read before it is written over, and those behind stand. Assumes nothing.
use native.Mathlib.Omega.{arith}
use Rattle.frame_decoder.proofs.Moved.{moved_next}
use Rattle.frame_decoder.proofs.settle.move_down.Goals as goal

pub loop-i-preserved : goal.loop-i-preserved
loop-i-preserved c = rw c.loop-i.invariant (moved_next c.args.buffer.now c.args.at c.loop-i.i (omega arith))
