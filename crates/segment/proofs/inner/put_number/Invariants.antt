use Rattle.std.proofs.Common.{take, ◌++◌, ◌≡◌, ◌-◌}
use Rattle.segment.specs.LittleEndian.{le_digits}
use Rattle.segment.proofs.inner.put_number.Given as goal

abbrev pub invariant-loop-b : goal.invariant-loop-b
invariant-loop-b l = take l.b-index l.b-items ++ le_digits (l.n - l.b-index) l.rest ≡ le_digits l.n l.x
