-- A reader of the code whose phase is known: what the definitions say of it by its phase. Assumes nothing.
use mathlib.Core.Path.{◌≡◌, subst}
use Rattle.segment.specs.Paper.{paper_form}
use Rattle.frame_decoder.specs.Reader.{Counts, counts_in, counts_of}
use Rattle.frame_decoder.specs.Paper.{paper_phase, paper_reader}
use Rattle.frame_decoder.specs.declared.Phase.{Phase}
use Rattle.frame_decoder.specs.declared.FrameDecoder.{FrameDecoder}

abbrev pub counts_by : FrameDecoder → Phase → Counts
counts_by m q = counts_in (paper_form m.form) m.pending (paper_phase q)

module _ (m : FrameDecoder) {q : Phase} (is : m.phase ≡ q) where
  pub known_by : (P : Counts → Type 0) → P (counts_of (paper_reader m)) → P (counts_by m q)
  known_by P = subst (λ (p : Phase). P (counts_by m p)) is
