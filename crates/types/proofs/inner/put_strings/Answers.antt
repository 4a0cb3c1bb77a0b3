-- `types::inner::put_strings` meets its contract: writing the strings to come gives what writing all of them would. Assumes nothing.
use mathlib.Core.Path.{sym, ap, ◌∙◌}
use native.Mathlib.Omega.{arith}
use native.Mathlib.Nat.{sub-add-eq}
use Rattle.types.specs.Write.{put, counted}
use Rattle.types.proofs.BigEndian.{part_of}
use Rattle.types.proofs.Put.{put_none}
use Rattle.types.proofs.Cut.{fit_next, bytes_end, part_length, rest_length, put_turn}
use Rattle.types.proofs.inner.put_strings.Goals as goal

pub overflow_add-end : goal.overflow_add-end
overflow_add-end c = omega (arith, (fit_next _ _ c.loop-n-test.true _ c.loop-n.invariant.2).within)

pub slice_bounds-put_counted-end : goal.slice_bounds-put_counted-end
slice_bounds-put_counted-end c = omega (arith, (fit_next _ _ c.loop-n-test.true _ c.loop-n.invariant.2).within)

pub put_counted-requires : goal.put_counted-requires
put_counted-requires c = let within = (fit_next _ _ c.loop-n-test.true _ c.loop-n.invariant.2).within in
    rw part_of (omega (arith, rest_length _ _ c.loop-n-test.true c.args.text.now c.loop-n.from within, part_length _ _ c.loop-n-test.true c.args.text.now c.loop-n.from within))

pub overflow_add-to-in-loop-n : goal.overflow_add-to-in-loop-n
overflow_add-to-in-loop-n c = let within = (fit_next _ _ c.loop-n-test.true _ c.loop-n.invariant.2).within in
    omega (arith, rest_length _ _ c.loop-n-test.true c.args.text.now c.loop-n.from within)

pub loop-n-preserved : goal.loop-n-preserved
loop-n-preserved c = let next = fit_next _ _ c.loop-n-test.true _ c.loop-n.invariant.2 in
    let l = c.loop-n in
    let text = c.args.text.now in (
      omega (arith, next.within),
      omega arith,
      rw sub-add-eq next.fits,
      omega (arith, rest_length _ _ c.loop-n-test.true text l.from next.within),
      put_turn _ _ c.loop-n-test.true text l.from next.within l.out l.to l.invariant.3 (c.put_counted.ensures ∙ ap (λ x. put l.out l.to (counted 2 x)) (part_of text l.from _))
          ∙ l.invariant.4,
    )

pub returns : goal.returns
returns c = sym (put_none _ _) ∙ ap (put _ _) (sym (bytes_end _ _ _ c.loop-n-test.false)) ∙ c.loop-n.invariant.4
