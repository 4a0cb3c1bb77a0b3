-- The bytes of an envelope with given fields, and what speaks against writing them: docs/RULES.md, 7.5, 7.6 and refusal 15.
-- Assumes nothing.
use Rattle.std.specs.Prelude.{ℕ, ◌+◌, ◌*◌, ◌/◌, Bool, true, cond, ◌&&◌, List, [], ◌∷◌, ◌++◌, leb, eqb, length}
use Rattle.std.specs.Int.{w16}
use Rattle.std.proofs.Common.{of_z}
use Rattle.refusal.specs.Refusal.{not_writable}
use Rattle.types.specs.Number.{digits}
use Rattle.types.specs.Write.{Check, fine, demand, cut_by, list_bytes, list_check}
use Rattle.frame.specs.Header.{Header, id_length, known_version, known_opcode, flag, has_id, has_warnings}

-- what an envelope is to hold: a tracing id, warnings as one text and a list of lengths, and the rest of its body
pub record Content : Type 0 where
  pub id : List ℕ
  pub text : List ℕ
  pub lens : List ℕ
  pub body : List ℕ

abbrev pub content : List ℕ → List ℕ → List ℕ → List ℕ → Content
content id text lens body = record { id = id; text = text; lens = lens; body = body }

-- ---- the bytes

-- only what the header asks for is written
unfoldable pub id_part : Header → List ℕ → List ℕ
id_part h id = cond (has_id h) id []

unfoldable pub warnings_part : Header → List ℕ → List ℕ → List ℕ
warnings_part h text lens = cond (has_warnings h) (list_bytes (cut_by text lens)) []

-- all behind the header
unfoldable pub tail_bytes : Header → Content → List ℕ
tail_bytes h c = id_part h c.id ++ (warnings_part h c.text c.lens ++ c.body)

abbrev pub first_byte : Header → ℕ
first_byte h = h.version + cond h.response 128 0

-- flag 01 is cleared
abbrev pub cleared_flags : ℕ → ℕ
cleared_flags flags = flags / 2 * 2

-- with the declared length n
unfoldable pub header_bytes : Header → ℕ → List ℕ
header_bytes h n = first_byte h ∷ cleared_flags h.flags ∷ (digits 2 (of_z w16 h.stream) ++ (h.opcode ∷ digits 4 n))

unfoldable pub envelope_bytes : Header → Content → List ℕ
envelope_bytes h c = header_bytes h (length (tail_bytes h c)) ++ tail_bytes h c

-- ---- 15, 13

abbrev pub max_flags : ℕ
max_flags = 0x1f

-- the largest declared length that is written
abbrev pub max_body : ℕ
max_body = 268435456

-- an id of 16 bytes is there where it is to be written
abbrev pub id_fits : Header → ℕ → Bool
id_fits h n = cond (has_id h) (eqb n id_length) true

-- flag 08 is not set on a request
abbrev pub warning_fits : Header → Bool
warning_fits h = cond (flag 8 h.flags) h.response true

-- what 15 asks of the header, with an id of n bytes
unfoldable pub flags_fit : Header → ℕ → Bool
flags_fit h n = leb h.flags max_flags && (id_fits h n && warning_fits h)

unfoldable pub head_fits : Header → ℕ → Bool
head_fits h n = known_version h.version && (known_opcode h.opcode && flags_fit h n)

-- what the warnings have to be, where they are written
unfoldable pub warnings_check : Header → List ℕ → List ℕ → Check
warnings_check h text lens = cond (has_warnings h) (list_check text lens) fine

unfoldable pub envelope_check : Header → Content → Check
envelope_check h c =
    demand (head_fits h (length c.id)) not_writable
    (demand (leb (length (tail_bytes h c)) max_body) not_writable
    (warnings_check h c.text c.lens))

-- ---- 11.1: what is read of them again

-- flag 01 is not written
unfoldable pub cleared : Header → Header
cleared h = record { version = h.version; response = h.response; flags = cleared_flags h.flags; stream = h.stream; opcode = h.opcode }

-- the texts of the warnings, where they are written
unfoldable pub texts_part : Header → Content → List (List ℕ)
texts_part h c = cond (has_warnings h) (cut_by c.text c.lens) []
