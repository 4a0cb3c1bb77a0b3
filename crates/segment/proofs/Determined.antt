-- Each public function's contract leaves nothing open: a line for each. Of the writers, what the output then holds.
-- Assumes nothing.
use mathlib.Core.Path.{sym, ◌∙◌}
use Rattle.basis.specs.Determined.{Determined, DeterminedAs}
use Rattle.basis.proofs.Determined.{by_equation, by_sight, by_meaning, told_apart}
use Rattle.types.specs.Write.{put}
use Rattle.segment.specs.LittleEndian.{le_digits}
use Rattle.segment.specs.Header.{number_length, header_length, fields_of, header_number, header_bytes}
use Rattle.segment.specs.Segment.{header_at, behind}
use Rattle.segment.specs.Paper.{paper_form, paper_header}
use Rattle.segment.proofs.Told.{header_told, read_header_told, read_payload_told}
use Rattle.segment.proofs.number_len.Reads as number-lengths
use Rattle.segment.proofs.header_len.Reads as header-lengths
use Rattle.segment.proofs.fields.Reads as fields
use Rattle.segment.proofs.header_number.Reads as header-numbers
use Rattle.segment.proofs.read_header.Reads as reads
use Rattle.segment.proofs.read_payload.Reads as reads-payload
use Rattle.segment.proofs.inner.read_number.Reads as reads-number
use Rattle.segment.proofs.inner.put_number.Reads as puts-number
use Rattle.segment.proofs.inner.put_header.Reads as puts-header

pub number_len_determined : Determined number-lengths.Post
number_len_determined = by_equation (λ κs a. number_length (paper_form a.0))

pub header_len_determined : Determined header-lengths.Post
header_len_determined = by_equation (λ κs a. header_length (paper_form a.0))

pub fields_determined : Determined fields.Post
fields_determined = by_meaning header_told (λ κs a. fields_of (paper_form a.0) a.1.0)

pub header_number_determined : Determined header-numbers.Post
header_number_determined = by_equation (λ κs a. header_number (paper_form a.0) (paper_header a.1.0))

pub read_header_determined : Determined reads.Post
read_header_determined = by_meaning read_header_told (λ κs a. header_at (paper_form a.0) a.1.0.now)

pub read_payload_determined : Determined reads-payload.Post
read_payload_determined =
    record { same = λ κs a r s e f p q. told_apart (read_payload_told (behind (paper_form a.0) a.1.0.now (paper_header a.1.1.0))) r s (p ∙ sym q) }

-- ---- the module `inner`

pub read_number_determined : Determined reads-number.Post
read_number_determined = record { same = λ κs a r s e f p q. p.0 ∙ sym q.0 }

pub put_number_determined : DeterminedAs (λ κs r e. e.0.now) puts-number.Post
put_number_determined = by_sight _ (λ κs a. put a.0.now a.1.0 (le_digits a.1.1.0 a.1.1.1.0))

pub put_header_determined : DeterminedAs (λ κs r e. e.0.now) puts-header.Post
put_header_determined = by_sight _ (λ κs a. put a.0.now 0 (header_bytes (paper_form a.1.0) (paper_header a.1.1.0)))
