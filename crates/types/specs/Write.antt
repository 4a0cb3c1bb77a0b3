-- What writing a notation at a position of an output leaves there and says: docs/RULES.md, section 7.
-- Assumes nothing.
use Rattle.std.specs.Prelude.{ℕ, ◌+◌, ◌≡◌, Bool, true, false, cond, ◌&&◌, List, [], ◌∷◌, ◌++◌, leb, eqb, length, take, drop}
use Rattle.std.proofs.Math.Option.{Option, none, some}
unfoldable pub use Rattle.basis.specs.Lists.{joined}
use Rattle.refusal.specs.Refusal.{Refusal, not_utf8, output_too_short, not_writable}
use Rattle.types.specs.Answer.{Answer, got, refused}
use Rattle.types.specs.Number.{digits}
use Rattle.utf8.specs.Utf8.{utf8}

-- out, with bs in the place of what stood from index `at` on
unfoldable pub put : List ℕ → ℕ → List ℕ → List ℕ
put out at bs = take at out ++ bs ++ drop (at + length bs) out

-- what speaks against writing something: nothing, or a refusal
pub data Check : Type 0 where
  fine : Check
  against : Refusal → Check

-- the refusal unless the test holds; then what else there is
abbrev pub demand : Bool → Refusal → Check → Check
demand true why rest = rest
demand false why rest = against why

-- what is answered where bs are to be written at a position of out: 14 comes after the check
abbrev pub written : Check → List ℕ → ℕ → List ℕ → Answer Unit
written fine out at bs = cond (leb (at + length bs) (length out)) (got tt (at + length bs)) (refused output_too_short)
written (against why) out at bs = refused why

-- what the output then holds
abbrev pub output : Check → List ℕ → ℕ → List ℕ → List ℕ
output fine out at bs = cond (leb (at + length bs) (length out)) (put out at bs) out
output (against why) out at bs = out

-- both, as a writer's promise has it: the answer, and what it leaves
pub record Wrote (check : Check) (out : List ℕ) (at : ℕ) (bs : List ℕ) (answer : Answer Unit) (left : List ℕ) : Type 0 where
  pub says : answer ≡ written check out at bs
  pub leaves : left ≡ output check out at bs

-- ---- the widths of counts

-- the largest [short] and the largest [int]
abbrev pub max_short : ℕ
max_short = 65535

abbrev pub max_int : ℕ
max_int = 2147483647

-- ---- bytes and texts

-- some bytes behind their count of n bytes
unfoldable pub counted : ℕ → List ℕ → List ℕ
counted n t = digits n (length t) ++ t

abbrev pub count_check : ℕ → List ℕ → Check
count_check limit t = demand (leb (length t) limit) not_writable fine

abbrev pub text_check : ℕ → List ℕ → Check
text_check limit t = demand (leb (length t) limit) not_writable (demand (utf8 t) not_utf8 fine)

-- [bytes]: null is the count -1, whose four bytes are ff
abbrev pub bytes_bytes : Option (List ℕ) → List ℕ
bytes_bytes none = digits 4 0xffff_ffff
bytes_bytes (some t) = counted 4 t

abbrev pub bytes_check : Option (List ℕ) → Check
bytes_check none = fine
bytes_check (some t) = count_check max_int t

-- ---- [string list]: one text, cut by a list of lengths

-- the texts, each of the length that it is given
unfoldable pub cut_by : List ℕ → List ℕ → List (List ℕ)
cut_by t [] = []
cut_by t (n ∷ ns) = take n t ∷ cut_by (drop n t) ns

-- some texts as one text, which is `joined` of `basis`, and a list of lengths
unfoldable pub lengths_of : List (List ℕ) → List ℕ
lengths_of [] = []
lengths_of (t ∷ ts) = length t ∷ lengths_of ts

unfoldable pub total : List ℕ → ℕ
total [] = 0
total (n ∷ ns) = n + total ns

unfoldable pub all_short : List ℕ → Bool
all_short [] = true
all_short (n ∷ ns) = leb n max_short && all_short ns

unfoldable pub all_utf8 : List (List ℕ) → Bool
all_utf8 [] = true
all_utf8 (t ∷ ts) = utf8 t && all_utf8 ts

unfoldable pub strings_bytes : List (List ℕ) → List ℕ
strings_bytes [] = []
strings_bytes (t ∷ ts) = counted 2 t ++ strings_bytes ts

unfoldable pub list_bytes : List (List ℕ) → List ℕ
list_bytes ts = digits 2 (length ts) ++ strings_bytes ts

-- each length fits a [short], and together they are `sum`
unfoldable pub lengths_fit : ℕ → List ℕ → Bool
lengths_fit sum ns = all_short ns && eqb sum (total ns)

unfoldable pub list_check : List ℕ → List ℕ → Check
list_check t ns =
    demand (leb (length ns) max_short) not_writable
    (demand (lengths_fit (length t) ns) not_writable
    (demand (all_utf8 (cut_by t ns)) not_utf8 fine))
