-- `frame_decoder::settle::append` meets its contract: the payload has room behind the pending bytes, or 7. Assumes nothing.
use Prim.Native.Nat.{ℕ, ◌+◌, ◌≤◌}
use mathlib.Core.Path.{◌≡◌, sym, ap, ap₂, ◌∙◌}
use mathlib.Core.Bool.{Bool, false, cond}
use mathlib.Core.List.{List}
use native.Mathlib.Omega.{arith}
use borrow.Author.Tests.{le-leb}
use lib.ListN.{length}
use Rattle.refusal.specs.Refusal.{reassembly_too_short}
use Rattle.types.specs.Write.{put}
use Rattle.frame_decoder.specs.Reader.{Reader, segment_finished}
use Rattle.frame_decoder.specs.Settle.{Settled, settled, refusing, read_pending, read_joined}
use Rattle.frame_decoder.specs.Paper.{paper_reader}
use Rattle.frame_decoder.proofs.Parts.{tail_put}
use Rattle.frame_decoder.proofs.settle.append.Goals as goal

-- there is room for it
module _ (r : Reader) (re p : List ℕ) where
  by_room : Bool → Settled
  by_room t = cond t (read_pending (segment_finished r (length p) false) (put re r.pending p) 0) (settled (refusing reassembly_too_short r) re)

  fits : r.pending + length p ≤ length re → read_pending (segment_finished r (length p) false) (put re r.pending p) 0 ≡ read_joined r re p
  unfolding read_joined by_room
  fits h = sym (ap by_room (le-leb (r.pending + length p) (length re) h))

pub returns : goal.returns
returns c = let a = c.args in
    c.from_pending.ensures
    ∙ ap₂ (λ (x : Reader) (l : List ℕ). read_pending x l 0) c.kept-joined.ensures (tail_put a.reassembly.now a.payload.now a.m.pending c.put_bytes.ensures)
    ∙ fits (paper_reader a.m) a.reassembly.now a.payload.now (omega (arith, c.if-reassembly-m.false, c.requires))
