-- `types::read::read_strings` meets its contract: what is left to read ends as the whole does. Assumes nothing.
use mathlib.Core.Path.{sym, ◌∙◌}
use native.Mathlib.Omega.{arith}
use Rattle.std.proofs.lemmas.Result.{err_from_is_err_and}
use Rattle.types.proofs.Reading.{strings_stop}
use Rattle.types.proofs.read.read_strings.Goals as goal

pub returns-in_err-end : goal.returns-in_err-end
returns-in_err-end c = let p = err_from_is_err_and c.from_residual.result c.from_residual.ensures.1 in
    rw (p.1, p.2) (sym (c.loop.invariant ∙ strings_stop _ _ _ (omega arith) (sym c.in_err-end.ensures)))
