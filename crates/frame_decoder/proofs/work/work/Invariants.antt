-- `frame_decoder::work::work` meets its contract: turns that mean the same as the call did at its start; each takes a byte, so they end. Assumes nothing.
use Prim.Native.Nat.{◌-◌, ◌≤◌}
use mathlib.Core.Path.{◌≡◌}
use lib.ListN.{length, drop}
use Rattle.frame_decoder.specs.Call.{work}
use Rattle.frame_decoder.specs.Paper.{paper_reader}
use Rattle.frame_decoder.specs.Private.Inside.{Admitted}
use Rattle.frame_decoder.proofs.work.work.Given as goal

abbrev pub invariant-loop-step : goal.invariant-loop-step
invariant-loop-step l =
    (l.taken ≤ length l.piece)
    × (length l.segment ≡ length l.initial.segment)
    × (length l.reassembly ≡ length l.initial.reassembly)
    × Admitted (paper_reader l.m) (length l.segment) (length l.reassembly)
    × (work l.taken (paper_reader l.m) l.segment l.reassembly (drop l.taken l.piece) ≡ work 0 (paper_reader l.initial.m) l.initial.segment l.initial.reassembly l.piece)

abbrev pub decreases-loop-step : goal.decreases-loop-step
decreases-loop-step l = length l.piece - l.taken
