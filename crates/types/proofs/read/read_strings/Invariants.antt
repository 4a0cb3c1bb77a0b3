-- `types::read::read_strings` meets its contract: what is left to read ends as the whole does. Assumes nothing.
use Prim.Native.Nat.{◌-◌}
use mathlib.Core.Path.{◌≡◌}
use Rattle.types.specs.Private.Inside.{end_of}
use Rattle.types.specs.Read.{strings_at}
use Rattle.types.proofs.read.read_strings.Given as goal

abbrev pub invariant-loop : goal.invariant-loop
invariant-loop l = end_of (strings_at l.bytes l.n l.at) ≡ end_of (strings_at l.bytes (l.n - l.counter) l.next)
