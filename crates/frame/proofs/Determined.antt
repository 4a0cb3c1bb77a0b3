-- Each public function's contract leaves nothing open: a line for each. Of the writer, the answer and what the output then holds.
-- Assumes nothing.
use Rattle.basis.specs.Determined.{Determined, DeterminedAs}
use Rattle.basis.proofs.Determined.{by_equation, by_sight, by_meaning}
use Rattle.types.proofs.Determined.{DeterminedWriter, by_wrote}
use Rattle.frame.specs.Envelope.{size_of, size_number, envelope, id_in, body_in}
use Rattle.frame.specs.Paper.{paper_header, paper_content, paper_envelope}
use Rattle.frame.specs.Write.{envelope_bytes, envelope_check}
use Rattle.frame.proofs.Told.{size_told, reading_told}
use Rattle.frame.proofs.read.envelope_size.Reads as sizes
use Rattle.frame.proofs.read.check_envelope_size.Reads as checks
use Rattle.frame.proofs.read.read_envelope.Reads as reads
use Rattle.frame.proofs.read.body.Reads as bodies
use Rattle.frame.proofs.read.tracing_id.Reads as ids
use Rattle.frame.proofs.write.write_envelope.Reads as writes

pub envelope_size_determined : Determined sizes.Post
envelope_size_determined = by_meaning size_told (λ κs a. size_of a.0.now)

pub check_envelope_size_determined : Determined checks.Post
check_envelope_size_determined = by_equation (λ κs a. size_number (size_of a.0.now))

pub read_envelope_determined : Determined reads.Post
read_envelope_determined = by_meaning reading_told (λ κs a. envelope a.0.now)

pub body_determined : DeterminedAs (λ κs r e. r.now) bodies.Post
body_determined = by_sight _ (λ κs a. body_in a.0.now (paper_envelope a.1.0))

pub tracing_id_determined : DeterminedAs (λ κs r e. r.now) ids.Post
tracing_id_determined = by_sight _ (λ κs a. id_in a.0.now (paper_envelope a.1.0))

pub write_envelope_determined : DeterminedWriter writes.Post
write_envelope_determined =
    by_wrote
    (λ κs v. envelope_check (paper_header v.0) (paper_content v.1.0))
    (λ κs v. 0)
    (λ κs v. envelope_bytes (paper_header v.0) (paper_content v.1.0))
