-- `stream::Listener::give` meets its contract: piece after piece the same is still to be heard. Assumes nothing.
use Rattle.stream.proofs.Turns.{Underway}
use Rattle.stream.proofs.Listener.give.Given as goal

abbrev pub invariant-loop-cut : goal.invariant-loop-cut
invariant-loop-cut l = Underway l.initial.self l.self l.initial.notebook l.notebook
