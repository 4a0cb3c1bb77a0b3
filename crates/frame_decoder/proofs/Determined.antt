-- Each public function's contract leaves nothing open: a line for each. Of a call, the answer, the reader and what both buffers then hold.
-- Assumes nothing.
use mathlib.Core.Path.{refl, sym, ◌∙◌}
use Rattle.basis.specs.Determined.{Determined, DeterminedAs, DeterminedLent}
use Rattle.basis.proofs.Determined.{by_equation, by_sight, by_meaning}
use Rattle.types.specs.Paper.{place_of}
use Rattle.segment.specs.Paper.{paper_form}
use Rattle.frame_decoder.specs.Reader.{fresh, counts_of, held, bytes_at, in_range}
use Rattle.frame_decoder.specs.Paper.{paper_reader, paper_buffer}
use Rattle.frame_decoder.proofs.Told.{reader_told, Lent, lent_apart, Seen, step_apart}
use Rattle.frame_decoder.proofs.in_range.Reads as ranges
use Rattle.frame_decoder.proofs.part.Reads as parts
use Rattle.frame_decoder.proofs.FrameDecoder.new.Reads as news
use Rattle.frame_decoder.proofs.FrameDecoder.filled.Reads as fills
use Rattle.frame_decoder.proofs.FrameDecoder.held.Reads as holds
use Rattle.frame_decoder.proofs.FrameDecoder.read.Reads as reads
use Rattle.frame_decoder.specs.contracts.FrameDecoder.consume as lents

pub in_range_determined : Determined ranges.Post
in_range_determined = by_equation (λ κs a. in_range a.0 a.1.0)

pub part_determined : DeterminedAs (λ κs r e. r.now) parts.Post
part_determined = by_sight (λ κs r e. r.now) (λ κs a. bytes_at (paper_buffer a.0) a.1.0.now a.1.1.0.now (place_of a.1.1.1.0))

pub new_determined : Determined news.Post
new_determined = by_meaning reader_told (λ κs a. fresh (paper_form a.0) a.1.0 a.1.1.0)

pub filled_determined : Determined fills.Post
filled_determined = by_equation (λ κs a. (counts_of (paper_reader a.0)).there)

pub held_determined : Determined holds.Post
held_determined = by_equation (λ κs a. held (paper_reader a.0))

pub read_determined : DeterminedAs {Seen = Seen} (λ κs r e. (r, (e.1.0.now, e.1.1.0.now))) reads.Post
read_determined = record { same = λ κs a r s e f p q. step_apart r s e.1.0.now e.1.1.0.now f.1.0.now f.1.1.0.now (p ∙ sym q) }

pub consume_determined : DeterminedLent lents.ended (λ M 𝓤. lents.clauses) {Seen = Lent} (λ κs r e. ((e.0.now, r), (e.1.0.now, e.1.1.0.now)))
consume_determined =
    record { Claim = _; own = λ M 𝓤 𝓛 at_mem run κs a g r e. refl; decides = record { same = λ κs a r s e f p q. lent_apart _ _ _ _ _ _ _ _ (p ∙ sym q) } }
