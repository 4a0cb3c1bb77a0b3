-- What reading a notation at a position of some bytes says: the v5 document, section 3 (Notations); docs/RULES.md, section 5.
-- A count is read before what it counts, and of several refusals the first that is met is given.
-- Assumes nothing.
use Rattle.std.specs.Prelude.{ℕ, zero, suc, ◌+◌, cond, List, [], ◌∷◌, leb, ℤ, pos, negsuc, length}
use Rattle.std.proofs.Math.Option.{Option, none, some}
use Rattle.std.specs.Int.{Width, w32, w64}
use Rattle.std.proofs.Common.{to_z}
use Rattle.refusal.specs.Refusal.{negative_length, past_end, not_utf8}
use Rattle.types.specs.Answer.{Answer, got, refused, and_then}
use Rattle.types.specs.Number.{be, part}
use Rattle.utf8.specs.Utf8.{utf8}

-- where some bytes stand
pub record Place : Type 0 where
  pub start : ℕ
  pub len : ℕ

abbrev pub place : ℕ → ℕ → Place
place start len = record { start = start; len = len }

-- the bytes that stand there: none where the place runs past the end
unfoldable pub bytes_in : List ℕ → Place → List ℕ
bytes_in s p = cond (leb (p.start + p.len) (length s)) (part s p.start p.len) []

-- some strings, one behind the other: how many, and where the first begins
pub record Strings : Type 0 where
  pub left : ℕ
  pub at : ℕ

abbrev pub strings : ℕ → ℕ → Strings
strings left at = record { left = left; at = at }

-- ---- numbers

-- an unsigned number of n bytes
unfoldable pub number_at : ℕ → List ℕ → ℕ → Answer ℕ
number_at n s at = cond (leb (at + n) (length s)) (got (be (part s at n)) (at + n)) (refused past_end)

-- a signed number of n bytes, w wide: two's complement
unfoldable pub signed_at : Width → ℕ → List ℕ → ℕ → Answer ℤ
signed_at w n s at = and_then (number_at n s at) (λ x next. got (to_z w x) next)

-- [byte], [short], [int], [long]
abbrev pub byte_at : List ℕ → ℕ → Answer ℕ
byte_at = number_at 1

abbrev pub short_at : List ℕ → ℕ → Answer ℕ
short_at = number_at 2

abbrev pub int_at : List ℕ → ℕ → Answer ℤ
int_at = signed_at w32 4

abbrev pub long_at : List ℕ → ℕ → Answer ℤ
long_at = signed_at w64 8

-- ---- bytes and texts

-- n bytes, whatever they are
unfoldable pub run_at : List ℕ → ℕ → ℕ → Answer Place
run_at s n at = cond (leb (at + n) (length s)) (got (place at n) (at + n)) (refused past_end)

-- n bytes of UTF-8
unfoldable pub text_at : List ℕ → ℕ → ℕ → Answer Place
text_at s n at = and_then (run_at s n at) (λ p next. cond (utf8 (part s at n)) (got p next) (refused not_utf8))

-- [uuid]
abbrev pub uuid_at : List ℕ → ℕ → Answer Place
uuid_at s = run_at s 16

-- [short bytes]
unfoldable pub short_bytes_at : List ℕ → ℕ → Answer Place
short_bytes_at s at = and_then (short_at s at) (run_at s)

-- [string]
unfoldable pub string_at : List ℕ → ℕ → Answer Place
string_at s at = and_then (short_at s at) (text_at s)

-- an [int] that counts bytes: none where it is negative
abbrev pub natural : ℤ → Option ℕ
natural (pos n) = some n
natural (negsuc n) = none

unfoldable pub count_at : List ℕ → ℕ → Answer (Option ℕ)
count_at s at = and_then (int_at s at) (λ z next. got (natural z) next)

-- [long string]: a negative count is refused
abbrev pub long_text : List ℕ → Option ℕ → ℕ → Answer Place
long_text s (some n) at = text_at s n at
long_text s none at = refused negative_length

unfoldable pub long_string_at : List ℕ → ℕ → Answer Place
long_string_at s at = and_then (count_at s at) (long_text s)

-- [bytes]: a negative count is null
abbrev pub nullable_run : List ℕ → Option ℕ → ℕ → Answer (Option Place)
nullable_run s (some n) at = and_then (run_at s n at) (λ p next. got (some p) next)
nullable_run s none at = got none at

unfoldable pub bytes_at : List ℕ → ℕ → Answer (Option Place)
bytes_at s at = and_then (count_at s at) (nullable_run s)

-- ---- lists of strings

-- n strings: where the text of each stands
unfoldable pub strings_at : List ℕ → ℕ → ℕ → Answer (List Place)
strings_at s zero at = got [] at
strings_at s (suc n) at = and_then (string_at s at) (λ p next. and_then (strings_at s n next) (λ ps end. got (p ∷ ps) end))

-- the texts that stand at some places
unfoldable pub texts_in : List ℕ → List Place → List (List ℕ)
texts_in s [] = []
texts_in s (p ∷ ps) = bytes_in s p ∷ texts_in s ps

-- and those of strings as they were read: none where they were refused
abbrev pub texts_of : List ℕ → Answer (List Place) → List (List ℕ)
texts_of s (got ps next) = texts_in s ps
texts_of s (refused why) = []

-- [string list]
unfoldable pub listed : List ℕ → ℕ → ℕ → Answer Strings
listed s n start = and_then (strings_at s n start) (λ ps next. got (strings n start) next)

unfoldable pub string_list_at : List ℕ → ℕ → Answer Strings
string_list_at s at = and_then (short_at s at) (listed s)

-- one step along n strings: the text of the first of them and how many are left behind it, or none where n is 0
unfoldable pub step_at : List ℕ → ℕ → ℕ → Answer (Option (Place × ℕ))
step_at s zero at = got none at
step_at s (suc n) at = and_then (string_at s at) (λ p next. got (some (p, n)) next)
