-- `stream::Listener::use_up` meets its contract: each turn leaves fewer answers to come before the piece is used up. Assumes nothing.
use Prim.Native.Nat.{◌≤◌}
use lib.ListN.{length}
use Rattle.stream.specs.Private.Inside.{left_to}
use Rattle.stream.specs.Private.Turn.{way_of}
use Rattle.stream.proofs.Turns.{Underway}
use Rattle.stream.proofs.Listener.use_up.Given as goal

abbrev pub invariant-loop : goal.invariant-loop
invariant-loop l = Underway l.initial.self l.self l.initial.notebook l.notebook × (l.self.taken ≤ l.end) × (l.end ≤ length l.self.stream.now)

abbrev pub decreases-loop : goal.decreases-loop
decreases-loop l = left_to l.end (way_of l.self l.notebook)
