-- The notations, each with its reader and its writer: docs/RULES.md, 5.1 and 7. Assumes nothing.
use Rattle.std.specs.Prelude.{ℕ, ◌^◌, ◌<◌, ◌≡◌, List, ℤ, negsuc, length, ◌≤ℤ◌}
use Rattle.std.proofs.Math.Option.{Option, none, some}
use Rattle.std.specs.Int.{Width, w32, w64}
use Rattle.std.proofs.Common.{of_z, SFits}
use Rattle.types.specs.Answer.{Answer, got}
use Rattle.types.specs.Number.{digits}
use Rattle.types.specs.Read.{Place, Strings, number_at, signed_at, int_at, uuid_at, short_bytes_at, string_at, long_string_at, bytes_at, strings_at, string_list_at, bytes_in, texts_of}
use Rattle.types.specs.Write.{Check, fine, counted, count_check, text_check, bytes_bytes, bytes_check, max_short, max_int, cut_by, joined, lengths_of, list_bytes, list_check}

-- a reader finds a value, which may be a place; what it shows is a content, and that is what a writer is given
pub record Notation (Value Content : Type 0) : Type 1 where
  -- what the reader says of a position
  pub read : List ℕ → ℕ → Answer Value
  -- what a value shows in the bytes that it was read from
  pub shows : List ℕ → Value → Content
  -- what the writer's parameters can hold
  pub Given : Content → Type 0
  -- the writer's promise: what speaks against it, and what is written
  pub check : Content → Check
  pub written : Content → List ℕ
  -- what is read at a position comes back when it is written: 11.2
  pub Returns : List ℕ → ℕ → Type 0

abbrev pub Always : {A : Type 0} → A → Type 0
Always a = Unit {0}

-- ---- kinds of them

-- numbers are contents themselves
abbrev pub unsigned : ℕ → Notation ℕ ℕ
unsigned n = record { read = number_at n; shows = λ s x. x; Given = λ x. x < 256 ^ n; check = λ x. fine; written = digits n; Returns = λ s. Always }

abbrev pub signed : Width → ℕ → Notation ℤ ℤ
signed w n = record { read = signed_at w n; shows = λ s z. z; Given = SFits w; check = λ z. fine; written = λ z. digits n (of_z w z); Returns = λ s. Always }

-- texts and byte strings are what stands at a place, behind a count of n bytes
abbrev pub behind_count : ℕ → (List ℕ → ℕ → Answer Place) → (List ℕ → Check) → Notation Place (List ℕ)
behind_count n read check = record { read = read; shows = bytes_in; Given = Always; check = check; written = counted n; Returns = λ s. Always }

-- null, or the bytes at a place
abbrev pub null_or_bytes : List ℕ → Option Place → Option (List ℕ)
null_or_bytes s none = none
null_or_bytes s (some p) = some (bytes_in s p)

-- a list is one text and the lengths that cut it: 7.4
abbrev pub text_and_lengths : List (List ℕ) → List ℕ × List ℕ
text_and_lengths ts = (joined ts, lengths_of ts)

-- ---- the table of 5.1

abbrev pub byte : Notation ℕ ℕ
byte = unsigned 1

abbrev pub short : Notation ℕ ℕ
short = unsigned 2

abbrev pub int : Notation ℤ ℤ
int = signed w32 4

abbrev pub long : Notation ℤ ℤ
long = signed w64 8

abbrev pub uuid : Notation Place (List ℕ)
uuid = record { read = uuid_at; shows = bytes_in; Given = λ t. length t ≡ 16; check = λ t. fine; written = λ t. t; Returns = λ s. Always }

abbrev pub string : Notation Place (List ℕ)
string = behind_count 2 string_at (text_check max_short)

abbrev pub long_string : Notation Place (List ℕ)
long_string = behind_count 4 long_string_at (text_check max_int)

abbrev pub string_list : Notation Strings (List ℕ × List ℕ)
string_list = record {
  read = string_list_at;
  shows = λ s l. text_and_lengths (texts_of s (strings_at s l.left l.at));
  Given = Always;
  check = λ g. list_check g.0 g.1;
  written = λ g. list_bytes (cut_by g.0 g.1);
  Returns = λ s. Always;
}

-- every negative count is null, and of these only -1 is written
abbrev pub bytes : Notation (Option Place) (Option (List ℕ))
bytes = record {
  read = bytes_at;
  shows = null_or_bytes;
  Given = Always;
  check = bytes_check;
  written = bytes_bytes;
  Returns = λ s at. (count : ℤ) (next : ℕ) → int_at s at ≡ got count next → negsuc 0 ≤ℤ count;
}

abbrev pub short_bytes : Notation Place (List ℕ)
short_bytes = behind_count 2 short_bytes_at (count_check max_short)
