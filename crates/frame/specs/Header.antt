-- The fields of an envelope's header: docs/RULES.md, 4.1 to 4.7. Assumes nothing.
use Rattle.std.specs.Prelude.{ℕ, ◌/◌, ◌%◌, Bool, not, ◌&&◌, List, leb, eqb, ℤ, get_or}
use Rattle.std.specs.Int.{w16}
use Rattle.std.proofs.Common.{to_z}
use Rattle.types.specs.Number.{be, part}

-- what the header says, but for the body's length
pub record Header : Type 0 where
  pub version : ℕ
  pub response : Bool
  pub flags : ℕ
  pub stream : ℤ
  pub opcode : ℕ

-- how long the header is, and a tracing id
abbrev pub header_length : ℕ
header_length = 9

abbrev pub id_length : ℕ
id_length = 16

-- 4.1 to 4.3: the high bit of the first byte is the direction; flags above 1f are dropped
unfoldable pub header_of : List ℕ → Header
header_of s =
    record {
      version = get_or s 0 0 % 128;
      response = leb 128 (get_or s 0 0);
      flags = get_or s 1 0 % 32;
      stream = to_z w16 (be (part s 2 2));
      opcode = get_or s 4 0;
    }

-- 4.2: 3, 4 and 5
unfoldable pub known_version : ℕ → Bool
known_version v = leb 3 v && leb v 5

-- 4.5: 00 to 10 hex without 04
unfoldable pub known_opcode : ℕ → Bool
known_opcode o = leb o 0x10 && not (eqb o 0x04)

-- the flag of a weight is set
abbrev pub flag : ℕ → ℕ → Bool
flag weight flags = eqb (flags / weight % 2) 1

-- 4.6: a tracing id stands in a response with flag 02
unfoldable pub has_id : Header → Bool
has_id h = h.response && flag 2 h.flags

-- 4.7: warnings stand in an envelope with flag 08, request or response
unfoldable pub has_warnings : Header → Bool
has_warnings h = flag 8 h.flags
