-- A whole segment, written and read: docs/RULES.md, 3.5, and the checks of 6.5 and 6.6. Assumes nothing.
use Rattle.std.specs.Prelude.{ℕ, ◌+◌, ◌≡◌, Bool, false, cond, List, [], ◌∷◌, ◌++◌, ltb, eqb, length, take}
use Rattle.basis.specs.Front.{Front, incomplete, refuses, whole, if_whole}
use Rattle.crc.specs.Check24.{crc24}
use Rattle.crc.specs.Check32.{crc32}
use Rattle.refusal.specs.Refusal.{Refusal, header_check_differs, payload_compressed, payload_check_differs}
use Rattle.types.specs.Number.{part}
use Rattle.segment.specs.LittleEndian.{le, le_digits}
use Rattle.segment.specs.Header.{Form, Header, header, number_length, check_length, header_length, fields_of, header_bytes}

abbrev pub trailer_length : ℕ
trailer_length = 4

-- the longest payload
abbrev pub max_payload : ℕ
max_payload = 131071

-- ---- written

abbrev pub trailer_bytes : List ℕ → List ℕ
trailer_bytes payload = le_digits trailer_length (crc32 payload)

-- the payload as it is, between header and trailer
unfoldable pub segment_bytes : Form → Bool → List ℕ → List ℕ
segment_bytes form self payload = header_bytes form (header (length payload) 0 self) ++ (payload ++ trailer_bytes payload)

-- ---- read

-- the payload is sent as it is where its length before compression is 0
abbrev pub uncompressed_only : Header → Front Refusal Header
uncompressed_only h = cond (eqb h.uncompressed 0) (whole h) (refuses payload_compressed)

-- the check behind the number is that of its bytes
abbrev pub checked : Form → List ℕ → Bool
checked form s = eqb (le (part s (number_length form) check_length)) (crc24 (take (number_length form) s))

unfoldable pub header_at : Form → List ℕ → Front Refusal Header
header_at form s =
    cond (ltb (length s) (header_length form)) incomplete
    (cond (checked form s) (uncompressed_only (fields_of form (le (take (number_length form) s))))
    (refuses header_check_differs))

-- whether it stands alone, and its payload
pub record Segment : Type 0 where
  pub self : Bool
  pub payload : List ℕ

abbrev pub segment : Bool → List ℕ → Segment
segment self payload = record { self = self; payload = payload }

abbrev pub segment_length : Form → ℕ → ℕ
segment_length form payload = header_length form + payload + trailer_length

-- the segment that stands behind a header
abbrev pub behind : Form → List ℕ → Header → Segment
behind form s h = segment h.self (part s (header_length form) h.payload)

-- it is there, and its check is that of its payload
unfoldable pub payload_at : Form → List ℕ → Header → Front Refusal Segment
payload_at form s h =
    cond (ltb (length s) (segment_length form h.payload)) incomplete
    (cond (eqb (le (part s (header_length form + h.payload) trailer_length)) (crc32 (behind form s h).payload))
    (whole (behind form s h))
    (refuses payload_check_differs))

unfoldable pub segment_at : Form → List ℕ → Front Refusal Segment
segment_at form s = if_whole (header_at form s) (payload_at form s)

-- ---- segments of a line

-- a whole segment to which none of 2, 3 and 5 applies: its bytes, whether it is self-contained, and its payload
pub record WholeSegment (form : Form) (bytes : List ℕ) (self : Bool) (payload : List ℕ) : Type 0 where
  pub reads : segment_at form bytes ≡ whole (segment self payload)
  pub ends : length bytes ≡ segment_length form (length payload)

-- segments one after the other that are not self-contained, and their payloads joined
pub data Run (form : Form) : List (List ℕ) → List ℕ → Type 0 where
  no_segment : Run form [] []
  one_segment : {bytes payload payloads : List ℕ} {others : List (List ℕ)} → WholeSegment form bytes false payload → Run form others payloads → Run form (bytes ∷ others) (payload ++ payloads)
