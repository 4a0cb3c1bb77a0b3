-- `types::inner::texts_fit` meets its contract: the texts to come are UTF-8 exactly if all are. Assumes nothing.
use mathlib.Core.List.{List}
use Prim.Native.Nat.{ℕ, ◌-◌, ◌+◌}
use mathlib.Core.Path.{◌≡◌, sym, ap, ◌∙◌}
use mathlib.Core.Bool.{Bool}
use native.Mathlib.Omega.{arith}
use native.Mathlib.Nat.{sub-add-eq}
use lib.ListN.{take, drop}
use Rattle.utf8.specs.Utf8.{utf8}
use Rattle.types.specs.Number.{part}
use Rattle.types.proofs.BigEndian.{part_of}
use Rattle.types.proofs.Cut.{fit_next, utf8_goes_on, utf8_stops, utf8_end}
use Rattle.types.proofs.inner.texts_fit.Goals as goal

-- what the test of a text says of the part that it is
tested : (text : List ℕ) (at n : ℕ) {r b : Bool} → r ≡ utf8 (take (at + n - at) (drop at text)) → r ≡ b → utf8 (part text at n) ≡ b
tested text at n said e = sym (ap utf8 (part_of text at n)) ∙ sym said ∙ e

pub overflow_add-end : goal.overflow_add-end
overflow_add-end c = omega (arith, (fit_next _ _ c.loop-n-test.true _ c.loop-n.invariant.1).within)

pub slice_bounds-is_utf8-end : goal.slice_bounds-is_utf8-end
slice_bounds-is_utf8-end c = omega (arith, (fit_next _ _ c.loop-n-test.true _ c.loop-n.invariant.1).within)

pub returns-then-not-is_utf8 : goal.returns-then-not-is_utf8
returns-then-not-is_utf8 c = sym (c.loop-n.invariant.2 ∙ utf8_stops _ _ c.loop-n-test.true c.args.text.now c.loop-n.at (tested c.args.text.now c.loop-n.at _ c.is_utf8.ensures c.if-not-is_utf8.true))

pub loop-n-preserved : goal.loop-n-preserved
loop-n-preserved c = let next = fit_next _ _ c.loop-n-test.true _ c.loop-n.invariant.1 in
    (omega (arith, next.within), rw sub-add-eq next.fits, c.loop-n.invariant.2 ∙ utf8_goes_on _ _ c.loop-n-test.true c.args.text.now c.loop-n.at (tested c.args.text.now c.loop-n.at _ c.is_utf8.ensures c.if-not-is_utf8.false))

pub returns : goal.returns
returns c = sym (c.loop-n.invariant.2 ∙ utf8_end _ _ _ c.loop-n-test.false)
