-- What stands at the front of some bytes: docs/RULES.md, 4.8 to 4.13. Assumes nothing.
use Rattle.std.specs.Prelude.{ℕ, ◌+◌, ◌-◌, Bool, cond, List, ltb, ℤ, pos, neg_ℤ, length, take}
use Rattle.std.proofs.Math.Option.{Option, none, some}
use Rattle.std.specs.Int.{w32}
use Rattle.std.proofs.Common.{to_z}
use Rattle.basis.specs.Front.{Front, incomplete, refuses, whole, if_whole}
use Rattle.refusal.specs.Refusal.{Refusal, negative_length, unknown_version, unknown_opcode, tracing_id_cut_short, refusal_number}
use Rattle.types.specs.Answer.{Answer, got, refused}
use Rattle.types.specs.Number.{be, part}
use Rattle.types.specs.Read.{Place, place, Strings, strings, bytes_in, natural, strings_at, texts_of, string_list_at}
use Rattle.frame.specs.Header.{Header, header_length, id_length, header_of, known_version, known_opcode, has_id, has_warnings}

-- ---- how long it is: up to 9

-- the declared length of the body: none where it is negative
unfoldable pub declared : List ℕ → Option ℕ
declared s = natural (to_z w32 (be (part s 5 4)))

unfoldable pub sized : List ℕ → Option ℕ → Front Refusal ℕ
sized s none = refuses negative_length
sized s (some n) =
    cond (ltb (length s) (header_length + n)) incomplete
    (cond (known_version (header_of s).version) (whole (header_length + n))
    (refuses unknown_version))

unfoldable pub size_of : List ℕ → Front Refusal ℕ
size_of s = cond (ltb (length s) header_length) incomplete (sized s (declared s))

-- 4.13: the same as one number
abbrev pub size_number : Front Refusal ℕ → ℤ
size_number incomplete = pos 0
size_number (refuses why) = neg_ℤ (pos (refusal_number why))
size_number (whole size) = pos size

-- ---- what it says

-- 4.11: places are counted from the envelope's first byte
pub record Envelope : Type 0 where
  pub size : ℕ
  pub header : Header
  pub traced : Bool
  pub warnings : Strings
  pub body : Place

-- where the tracing id stands, and a place of no bytes where there is none
abbrev pub id_place : Bool → Place
id_place traced = place header_length (cond traced id_length 0)

-- where the body goes on behind the tracing id
unfoldable pub after_id : Header → ℕ
after_id h = header_length + cond (has_id h) id_length 0

-- the warnings from there on, where there are any
unfoldable pub warnings_at : List ℕ → Header → ℕ → Answer Strings
warnings_at s h at = cond (has_warnings h) (string_list_at s at) (got (strings 0 at) at)

-- what remains from there up to the envelope's end is the body
abbrev pub envelope_with : ℕ → Header → Strings → ℕ → Envelope
envelope_with size h warnings next = record { size = size; header = h; traced = has_id h; warnings = warnings; body = place next (size - next) }

abbrev pub read_as : ℕ → Header → Answer Strings → Front Refusal Envelope
read_as size h (got warnings next) = whole (envelope_with size h warnings next)
read_as size h (refused why) = refuses why

-- s are the bytes of one envelope, no more and no fewer: 10, 11, then 12 or 13
unfoldable pub within : List ℕ → Header → Front Refusal Envelope
within s h =
    cond (known_opcode h.opcode)
    (cond (ltb (length s) (after_id h)) (refuses tracing_id_cut_short)
    (read_as (length s) h (warnings_at s h (after_id h))))
    (refuses unknown_opcode)

unfoldable pub inside : List ℕ → Front Refusal Envelope
inside s = within s (header_of s)

-- 4.10
unfoldable pub envelope : List ℕ → Front Refusal Envelope
envelope s = if_whole (size_of s) (λ n. inside (take n s))

-- ---- what its places hold, in bytes that begin with it

unfoldable pub id_in : List ℕ → Envelope → List ℕ
id_in s e = bytes_in s (id_place e.traced)

unfoldable pub body_in : List ℕ → Envelope → List ℕ
body_in s e = bytes_in s e.body

-- the texts of its warnings
unfoldable pub warnings_in : List ℕ → Envelope → List (List ℕ)
warnings_in s e = texts_of s (strings_at s e.warnings.left e.warnings.at)
