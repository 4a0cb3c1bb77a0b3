use Rattle.std.proofs.Common.{◌≡◌, ◌+◌, ◌^◌, length, ◌*◌}
use Rattle.types.specs.Number.{part}
use Rattle.segment.specs.LittleEndian.{le}
use Rattle.segment.proofs.inner.read_number.Given as goal

abbrev pub invariant-loop-b : goal.invariant-loop-b
invariant-loop-b l = let rest = l.b-iterator.iter.rest.now in l.value * 256 ^ length rest + le rest ≡ le (part l.bytes l.at l.n)
