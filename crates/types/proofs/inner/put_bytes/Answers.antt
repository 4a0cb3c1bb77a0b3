-- `types::inner::put_bytes` meets its contract: what was passed is copied, and the rest stands. Assumes nothing.
use mathlib.Core.Path.{◌≡◌, ◌∙◌}
use native.Mathlib.Omega.{arith}
use native.Mathlib.Numerals.{add-one}
use lib.ListN.{length}
use lib.Seq.{paste-zero, paste-suc}
use Rattle.types.proofs.Put.{paste_all}
use Rattle.types.proofs.inner.put_bytes.Goals as goal

pub loop-i-init : goal.loop-i-init
loop-i-init c = paste-zero c.args.out.now c.args.at c.args.src.now

pub loop-i-preserved : goal.loop-i-preserved
loop-i-preserved c = let a = c.args in
    let l = c.loop-i in
    rw (l.invariant, add-one) (paste-suc a.out.now a.at a.src.now l.i 0 (omega arith) (omega arith))

pub returns : goal.returns
returns c = let e : c.loop-i.i ≡ length c.args.src.now = omega arith in
    c.loop-i.invariant ∙ rw e (paste_all _ _ _)
