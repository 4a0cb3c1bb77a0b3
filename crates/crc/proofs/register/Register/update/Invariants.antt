-- `crc::register::Register::update` meets its contract: the bytes that are left take the register to where all of them would. Assumes nothing.
use mathlib.Core.Path.{◌≡◌}
use lib.ListN.{drop}
use Rattle.crc.specs.Fold.{run}
use Rattle.crc.proofs.register.Register.update.Given as goal

abbrev pub invariant-loop-b : goal.invariant-loop-b
invariant-loop-b g l =
    let r = g.Self.Register in
    run r.after_byte (r.number l.register) (drop l.b-index l.bytes) ≡ run r.after_byte (r.number l.fn.self) l.bytes
