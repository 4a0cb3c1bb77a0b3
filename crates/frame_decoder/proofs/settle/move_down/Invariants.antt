-- `frame_decoder::settle::move_down` meets its contract: each byte is read before it is written over, and those behind stand. Assumes nothing.
use mathlib.Core.Path.{◌≡◌}
use Rattle.frame_decoder.proofs.Moved.{moved}
use Rattle.frame_decoder.proofs.settle.move_down.Given as goal

abbrev pub invariant-loop-i : goal.invariant-loop-i
invariant-loop-i l = l.buffer ≡ moved l.initial.buffer l.at l.i
