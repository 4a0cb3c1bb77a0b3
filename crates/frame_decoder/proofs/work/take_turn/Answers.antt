-- `frame_decoder::work::take_turn` meets its contract: what is due is answered; else a run of bytes is taken, and the call means the same. Assumes nothing.
use Prim.Native.Nat.{ℕ, ◌≤◌, min}
use mathlib.Core.Path.{◌≡◌, sym, ap, ◌∙◌, subst}
use mathlib.Core.List.{List}
use native.Mathlib.Nat.{min-le_left}
use native.Mathlib.Omega.{arith}
use lib.ListN.{length, take, drop}
use lib.Seq.{drop-length}
use Rattle.frame_decoder.specs.Reader.{counts_of}
use Rattle.frame_decoder.specs.Settle.{Settled, settled}
use Rattle.frame_decoder.specs.Call.{stored, work}
use Rattle.frame_decoder.specs.Paper.{paper_reader, paper_step}
use Rattle.frame_decoder.specs.Private.Inside.{paper_due, wanted}
use Rattle.frame_decoder.specs.declared.Step.{Step}
use Rattle.frame_decoder.specs.declared.settle.Due.{Due}
use Rattle.frame_decoder.proofs.Parts.{tail_part}
use Rattle.frame_decoder.proofs.Works.{work_due, work_more, waiting, onward}
use Rattle.frame_decoder.proofs.Steps.{roomy}
use Rattle.frame_decoder.proofs.work.take_turn.Goals as goal

-- what settling came to, by its case
settles : {d case : Due} {re : List ℕ} {s : Settled} → settled (paper_due d) re ≡ s → d ≡ case → s ≡ settled (paper_due case) re
settles {re = re} said e = sym said ∙ ap (λ (d : Due). settled (paper_due d) re) e

pub returns-in-Answered : goal.returns-in-Answered
returns-in-Answered c = let a = c.args in
    ap (λ (s : Step). paper_step s a.segment.now c.settle.new.reassembly) c.step.ensures
    ∙ sym (work_due a.taken a.segment.now (paper_reader a.m) a.reassembly.now (drop a.taken a.piece.now) (settles c.settle.ensures c.in-Answered.is))

pub returns-in-Refused : goal.returns-in-Refused
returns-in-Refused c = let a = c.args in
    ap (λ (s : Step). paper_step s a.segment.now c.settle.new.reassembly) c.step-in-Refused.ensures
    ∙ sym (work_due a.taken a.segment.now (paper_reader a.m) a.reassembly.now (drop a.taken a.piece.now) (settles c.settle.ensures c.in-Refused.is))

pub returns-in-Waits : goal.returns-in-Waits
returns-in-Waits c = let a = c.args in
    let piece = a.piece.now in
    ap (λ (s : Step). paper_step s a.segment.now c.settle.new.reassembly) c.step-in-Waits.ensures
    ∙ sym (ap (work a.taken (paper_reader a.m) a.segment.now a.reassembly.now) (ap (λ (i : ℕ). drop i piece) c.if-taken-piece.true ∙ drop-length piece)
    ∙ work_more a.taken a.segment.now (paper_reader a.m) a.reassembly.now (settles c.settle.ensures c.in-Waits.is))

pub fill-took-requires : goal.fill-took-requires
fill-took-requires c =
    let w = waiting (paper_reader c.args.m) c.args.segment.now c.args.reassembly.now c.requires.0 (settles c.settle.ensures c.in-Waits.is) in
    (roomy w.0, w.0.most)

pub pushed-requires : goal.pushed-requires
pushed-requires c =
    let w = waiting (paper_reader c.args.m) c.args.segment.now c.args.reassembly.now c.requires.0 (settles c.settle.ensures c.in-Waits.is) in
    let x = paper_reader c.in-Waits.reader in
    (subst (λ (k : ℕ). k ≤ wanted (counts_of x)) (sym c.fill-took.ensures.count) (min-le_left (wanted (counts_of x)) _), omega (arith, (roomy w.0).1, w.0.most))

pub returns-in-Waits-2 : goal.returns-in-Waits-2
returns-in-Waits-2 c = let a = c.args in
    let piece = a.piece.now in
    let x = paper_reader c.in-Waits.reader in
    let tail = tail_part piece a.taken in
    onward a.taken (paper_reader a.m) a.segment.now a.reassembly.now piece c.requires.0 (omega (arith, c.if-taken-piece.false, c.requires.1)) (settles c.settle.ensures c.in-Waits.is)
    (c.fill-took.ensures.count ∙ ap (λ (l : List ℕ). min (wanted (counts_of x)) (length l)) tail)
    c.pushed.ensures
    (c.fill-took.ensures.buffer ∙ ap (λ (l : List ℕ). stored x a.segment.now (take c.fill-took.result l)) tail)
