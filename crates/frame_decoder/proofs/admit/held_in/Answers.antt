-- `frame_decoder::admit::held_in` meets its contract: the counts of a state that is admitted add up to no large number. Assumes nothing.
use Prim.Native.Nat.{◌+◌, ◌<◌, ◌^◌}
use mathlib.Core.Path.{◌≡◌}
use mathlib.Core.Bool.{true}
use mathlib.Core.Logic.{inl, inr}
use native.Mathlib.Omega.{arith}
use Rattle.frame_decoder.specs.Reader.{Counts, admissible, counts_of}
use Rattle.frame_decoder.specs.declared.FrameDecoder.{FrameDecoder}
use Rattle.frame_decoder.specs.Paper.{paper_reader}
use Rattle.frame_decoder.proofs.Steps.{admitted, roomy}
use Rattle.frame_decoder.proofs.Phases.{known_by}
use Rattle.frame_decoder.proofs.admit.held_in.Goals as goal

-- the count of a header or of a segment, behind the pending bytes
small : (m : FrameDecoder) → admissible (paper_reader m) m.segment_len m.reassembly_len ≡ true → (counts_of (paper_reader m)).there + m.pending < 2 ^ 64
small m e =
    let ad = admitted (paper_reader m) _ _ e in
    omega (arith, ad.held, ad.largest, ad.most, (roomy ad).0, (roomy ad).1)

pub overflow_add-result : goal.overflow_add-result
overflow_add-result c = let fits = small c.args.m c.requires in
    let below = λ (k : Counts). k.there + c.args.m.pending < 2 ^ 64 in
    elim c.in-Header.is [ inl e ↦ record { fits = known_by c.args.m e below fits } | inr e ↦ record { fits = known_by c.args.m e.2 below fits } ]
