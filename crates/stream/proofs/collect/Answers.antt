-- `stream::collect` meets its contract: it gives the whole stream to a fresh reader, or the lengths are out of range. Assumes nothing.
use mathlib.Core.Path.{sym, ◌∙◌}
use Rattle.std.proofs.Common.{rules}
use Rattle.std.proofs.lemmas.Result.{MatchResult-at_ok, MatchResult-at_err}
use Rattle.stream.proofs.Turns.{start_going, start_over, start_refused, over_used}
use Rattle.stream.proofs.collect.Goals as goal
use Rattle.stream.proofs.collect.Goals.{in-Ok, in-Err}

pub give-requires : goal.give-requires
give-requires c = start_going (sym c.in_range.ensures ∙ c.if-not-in_range.false) c.new.ensures

pub returns : goal.returns
returns c =
    let range = sym c.in_range.ensures ∙ c.if-not-in_range.false in
    elim c.match-give.branch [
      | in-Ok w ↦ start_over range c.new.ensures (over_used (MatchResult-at_ok _ _ _ w.in-Ok.is c.give.ensures.used)) (search rules) (search rules) (search rules) (search rules)
      | in-Err w ↦ start_over range c.new.ensures (MatchResult-at_err _ _ _ w.in-Err.is c.give.ensures.used) (search rules) (search rules) (search rules) (search rules)
    ]

pub returns-then-not-in_range : goal.returns-then-not-in_range
returns-then-not-in_range c = start_refused (sym c.in_range.ensures ∙ c.if-not-in_range.true)
