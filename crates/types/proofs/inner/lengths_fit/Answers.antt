-- `types::inner::lengths_fit` meets its contract: the lengths to come fit what is left as all fit the sum. Assumes nothing.
use mathlib.Core.Path.{sym, ap, ◌∙◌}
use Rattle.types.specs.Write.{lengths_fit}
use Rattle.types.proofs.Cut.{cut_lengths, fit_large, fit_over, fit_goes_on, fit_end}
use Rattle.types.proofs.inner.lengths_fit.Goals as goal
use Rattle.types.proofs.inner.lengths_fit.Goals.{then-n-gt-MAX_SHORT-via-then-n-gt-MAX_SHORT, then-n-gt-MAX_SHORT-via-else-n-gt-MAX_SHORT+then-left-n}

pub returns-then-n-gt-MAX_SHORT : goal.returns-then-n-gt-MAX_SHORT
returns-then-n-gt-MAX_SHORT c = sym (c.loop-n.invariant ∙ ap (lengths_fit _) (cut_lengths _ _ c.loop-n-test.true) ∙ elim c.then-n-gt-MAX_SHORT.branch [
  | then-n-gt-MAX_SHORT-via-then-n-gt-MAX_SHORT w ↦ fit_large _ _ _ w.if-n-gt-MAX_SHORT.true
  | then-n-gt-MAX_SHORT-via-else-n-gt-MAX_SHORT+then-left-n w ↦ fit_over _ _ _ w.if-left-n.true
])

pub loop-n-preserved : goal.loop-n-preserved
loop-n-preserved c = c.loop-n.invariant ∙ ap (lengths_fit _) (cut_lengths _ _ c.loop-n-test.true) ∙ fit_goes_on _ _ _ c.if-n-gt-MAX_SHORT.false c.if-left-n.false

pub returns : goal.returns
returns c = sym (c.loop-n.invariant ∙ fit_end _ _ _ c.loop-n-test.false)
