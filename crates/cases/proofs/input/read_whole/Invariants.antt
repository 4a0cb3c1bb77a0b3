-- `cases::input::read_whole` is safe and ends: every turn brings a byte at least, and no more than there is room for. Assumes nothing.
use Rattle.std.proofs.Common.{◌-◌, ◌≤◌, length}
use Rattle.cases.proofs.input.read_whole.Given as goal

abbrev pub invariant-loop-n : goal.invariant-loop-n
invariant-loop-n l = l.done ≤ length l.buffer

abbrev pub decreases-loop-n : goal.decreases-loop-n
decreases-loop-n l = length l.buffer - l.done
