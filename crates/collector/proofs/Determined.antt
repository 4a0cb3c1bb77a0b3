-- Each exported function's contract leaves nothing open: a line for each. Assumes nothing.
use Rattle.basis.specs.Determined.{Determined}
use Rattle.basis.proofs.Determined.{by_equation}
use Rattle.crc.specs.Check24.{crc24}
use Rattle.crc.specs.Check32.{crc32}
use Rattle.frame.specs.Envelope.{size_of, size_number}
use Rattle.collector.proofs.tanglegoose_crc24.Reads as exported24
use Rattle.collector.proofs.tanglegoose_crc32.Reads as exported32
use Rattle.collector.proofs.tanglegoose_check_envelope_size.Reads as exported-size

pub crc24_determined : Determined exported24.Post
crc24_determined = by_equation (λ κs a. crc24 a.0.now)

pub crc32_determined : Determined exported32.Post
crc32_determined = by_equation (λ κs a. crc32 a.0.now)

pub check_envelope_size_determined : Determined exported-size.Post
check_envelope_size_determined = by_equation (λ κs a. size_number (size_of a.0.now))
