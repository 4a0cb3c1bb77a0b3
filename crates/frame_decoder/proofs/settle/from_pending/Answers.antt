-- `frame_decoder::settle::from_pending` meets its contract: an envelope ends within the pending bytes. Assumes nothing.
use Prim.Native.Nat.{◌-◌}
use native.Mathlib.Omega.{arith}
use Rattle.types.proofs.BigEndian.{length_part}
use Rattle.frame_decoder.proofs.Parts.{read_within}
use Rattle.frame_decoder.proofs.settle.from_pending.Goals as goal

pub overflow_add-at : goal.overflow_add-at
overflow_add-at c = record {
  fits = omega (
    arith,
    read_within _ c.in-Ok.ensures c.in-Some.is,
    length_part c.args.reassembly.now c.args.at (c.args.m.pending - c.args.at) (omega arith),
  );
}
