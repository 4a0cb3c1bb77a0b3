-- `crc::register::Register::byte` meets its contract: the shifts that are left take the register to where all eight would. Assumes nothing.
use mathlib.Core.Path.{◌≡◌}
use Prim.Native.Nat.{◌-◌}
use Rattle.crc.specs.Fold.{times}
use Rattle.crc.proofs.register.Register.byte.Given as goal

abbrev pub invariant-loop : goal.invariant-loop
invariant-loop g l =
    let r = g.Self.Register in
    times (8 - l.counter) r.shifted (r.number l.register) ≡ r.after_byte (r.number l.fn.self) l.b
