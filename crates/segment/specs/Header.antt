-- A segment's header in its two forms: docs/RULES.md, 3.1 to 3.4 and 3.6. Assumes nothing.
use Rattle.std.specs.Prelude.{ℕ, ◌+◌, ◌*◌, ◌/◌, ◌%◌, ◌^◌, Bool, cond, List, ◌++◌, eqb}
use Rattle.crc.specs.Check24.{crc24}
use Rattle.segment.specs.LittleEndian.{le_digits}

pub data Form : Type 0 where
  short : Form
  long : Form

-- what a header says; the short form has no length before compression
pub record Header : Type 0 where
  pub payload : ℕ
  pub uncompressed : ℕ
  pub self : Bool

abbrev pub header : ℕ → ℕ → Bool → Header
header payload uncompressed self = record { payload = payload; uncompressed = uncompressed; self = self }

-- the first bytes are a number, and behind them stands the CRC24 of these bytes
abbrev pub number_length : Form → ℕ
number_length short = 3
number_length long = 5

abbrev pub check_length : ℕ
check_length = 3

abbrev pub header_length : Form → ℕ
header_length form = number_length form + check_length

-- lengths have 17 bits
abbrev pub lengths : ℕ
lengths = 131072

-- the weight of the bit that says self-contained: bit 17, or 34
abbrev pub self_weight : Form → ℕ
self_weight short = 2 ^ 17
self_weight long = 2 ^ 34

-- ---- read from the number

abbrev pub uncompressed_of : Form → ℕ → ℕ
uncompressed_of short x = 0
uncompressed_of long x = x / lengths % lengths

-- bits above are ignored
unfoldable pub fields_of : Form → ℕ → Header
fields_of form x = header (x % lengths) (uncompressed_of form x) (eqb (x / self_weight form % 2) 1)

-- ---- written as a number

abbrev pub uncompressed_part : Form → ℕ → ℕ
uncompressed_part short n = 0
uncompressed_part long n = n % lengths * lengths

unfoldable pub header_number : Form → Header → ℕ
header_number form h = h.payload % lengths + uncompressed_part form h.uncompressed + cond h.self (self_weight form) 0

unfoldable pub number_bytes : Form → Header → List ℕ
number_bytes form h = le_digits (number_length form) (header_number form h)

unfoldable pub header_bytes : Form → Header → List ℕ
header_bytes form h = number_bytes form h ++ le_digits check_length (crc24 (number_bytes form h))
