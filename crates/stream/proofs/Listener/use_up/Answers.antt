-- `stream::Listener::use_up` meets its contract: each turn leaves fewer answers to come before the piece is used up. Assumes nothing.
use Rattle.std.proofs.lemmas.Bool.{MatchBool-at_true, MatchBool-at_false}
use Rattle.std.proofs.lemmas.Result.{err_from_is_err_and}
use Rattle.stream.proofs.Turns.{underway_then, underway_used, underway_over}
use Rattle.stream.proofs.Listener.use_up.Goals as goal

pub loop-preserved : goal.loop-preserved
loop-preserved c =
    let i = c.loop.invariant in
    let e = c.in_ok-hear.ensures in
    let m = MatchBool-at_true _ _ c.if-branch.true e.turn in
    (underway_then i.0 e.same_lent m.going m.onward, m.most, rw e.same_lent.stream i.2)

pub returns-clause-used : goal.returns-clause-used
returns-clause-used c = underway_used c.loop.invariant.0 (MatchBool-at_false _ _ c.if-branch.false c.in_ok-hear.ensures.turn)

pub returns-in_err-hear-clause-used : goal.returns-in_err-hear-clause-used
returns-in_err-hear-clause-used c =
    let p = err_from_is_err_and c.from_residual.result c.from_residual.ensures.1 in
    rw (p.1, p.2) (underway_over c.loop.invariant.0 c.in_err-hear.ensures.turn)
