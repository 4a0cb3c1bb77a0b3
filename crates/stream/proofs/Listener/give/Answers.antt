-- `stream::Listener::give` meets its contract: piece after piece the same is still to be heard. Assumes nothing.
use mathlib.Core.Path.{sym}
use Rattle.std.proofs.lemmas.Result.{MatchResult-weaker, err_from_is_err_and}
use Rattle.stream.proofs.Turns.{underway_then, underway_used, underway_over}
use Rattle.stream.proofs.Listener.give.Goals as goal

pub loop-cut-preserved : goal.loop-cut-preserved
loop-cut-preserved c =
    let e = c.in_ok-use_up.ensures in
    underway_then c.loop-cut.invariant e.same_lent e.used.going e.used.onward

pub returns-clause-used : goal.returns-clause-used
returns-clause-used c =
    let i = c.loop-cut.invariant in
    MatchResult-weaker c.use_up-2.result (rw (sym i.same.stream) c.use_up-2.ensures.used) (λ _ u. underway_used i u) (λ _ o. underway_over i o)

pub returns-in_err-use_up-clause-used : goal.returns-in_err-use_up-clause-used
returns-in_err-use_up-clause-used c =
    let p = err_from_is_err_and c.from_residual.result c.from_residual.ensures.1 in
    rw (p.1, p.2) (underway_over c.loop-cut.invariant c.in_err-use_up.ensures.used)
