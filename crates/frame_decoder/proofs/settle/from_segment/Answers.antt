-- `frame_decoder::settle::from_segment` meets its contract: an envelope ends within the payload. Assumes nothing.
use Prim.Native.Nat.{◌+◌, ◌-◌}
use native.Mathlib.Omega.{arith}
use lib.ListN.{length-drop, drop}
use lib.Seq.{length-take-le}
use Rattle.frame_decoder.proofs.Parts.{read_within}
use Rattle.frame_decoder.proofs.settle.from_segment.Goals as goal

pub overflow_add-at : goal.overflow_add-at
overflow_add-at c = record {
  fits = omega (
    arith,
    read_within _ c.in-Ok.ensures c.in-Some.is,
    length-take-le (c.header_len-2.result + c.args.len - (c.header_len.result + c.args.at)) (drop (c.header_len.result + c.args.at) c.args.segment.now) (omega (arith, length-drop (c.header_len.result + c.args.at) c.args.segment.now, c.header_len.ensures, c.header_len-2.ensures, c.requires)),
    c.requires,
  );
}
