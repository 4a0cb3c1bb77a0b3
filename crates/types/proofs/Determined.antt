-- Each public function's contract leaves nothing open: a line for each. Of a writer, the answer and what the output then holds. The lines of
-- readers and writers are said in the words of specs/Notation.antt: so what is proved of a notation is about these contracts.
-- Assumes nothing.
use Prim.Native.Nat.{ℕ}
use mathlib.Core.Path.{◌≡◌, sym, ap₂, ◌∙◌}
use mathlib.Core.List.{List}
use mathlib.Core.Option.{none, some}
use mir.Syntax.{w16, w32, w64}
use mir.Val.{to_z, of_z}
use denote.Ref.{Bor, MutBor}
use Rattle.basis.specs.Determined.{Determined, DeterminedAs}
use Rattle.basis.proofs.Determined.{Tells, by_equation, by_sight, by_meaning, told_apart}
use Rattle.types.specs.Number.{digits}
use Rattle.types.specs.Read.{step_at, bytes_in}
use Rattle.types.specs.Write.{put, Check, Wrote, counted, cut_by, list_bytes, list_check}
use Rattle.types.specs.Answer.{Answer}
use Rattle.types.specs.Notation.{Notation, byte, short, int, long, uuid, string, long_string, string_list, bytes, short_bytes}
use Rattle.types.specs.Paper.{place_of, paper_written}
use Rattle.std.specs.Prelude as std
use Rattle.refusal.specs.declared.Refusal.{Refusal}
use Rattle.types.proofs.Told.{number_told, part_told, bytes_told, strings_told, walked_told, writable_told, written_told}
use Rattle.types.proofs.part.Reads as hands
use Rattle.types.proofs.inner.room.Reads as has_room
use Rattle.types.proofs.inner.read_number.Reads as reads-number
use Rattle.types.proofs.inner.put_number.Reads as puts-number
use Rattle.types.proofs.inner.put_bytes.Reads as puts-bytes
use Rattle.types.proofs.inner.put_counted.Reads as puts-counted
use Rattle.types.proofs.inner.check_list.Reads as checks-list
use Rattle.types.proofs.inner.put_list.Reads as puts-list
use Rattle.types.proofs.number.signed16.Reads as signs16
use Rattle.types.proofs.number.signed32.Reads as signs32
use Rattle.types.proofs.number.signed64.Reads as signs64
use Rattle.types.proofs.number.bits16.Reads as bits16
use Rattle.types.proofs.number.bits32.Reads as bits32
use Rattle.types.proofs.number.bits64.Reads as bits64
use Rattle.types.proofs.read.read_byte.Reads as reads_byte
use Rattle.types.proofs.read.read_short.Reads as reads_short
use Rattle.types.proofs.read.read_int.Reads as Reads-Int
use Rattle.types.proofs.read.read_long.Reads as reads-long
use Rattle.types.proofs.read.read_uuid.Reads as reads-uuid
use Rattle.types.proofs.read.read_short_bytes.Reads as reads-short-bytes
use Rattle.types.proofs.read.read_string.Reads as reads-string
use Rattle.types.proofs.read.read_long_string.Reads as reads-long-string
use Rattle.types.proofs.read.read_bytes.Reads as Reads-bytes
use Rattle.types.proofs.read.read_string_list.Reads as reads-list
use Rattle.types.proofs.read.next_string.Reads as steps
use Rattle.types.proofs.write.write_byte.Reads as writes_byte
use Rattle.types.proofs.write.write_short.Reads as writes_short
use Rattle.types.proofs.write.write_int.Reads as writes-int
use Rattle.types.proofs.write.write_long.Reads as writes-long
use Rattle.types.proofs.write.write_uuid.Reads as writes-uuid
use Rattle.types.proofs.write.write_short_bytes.Reads as writes-short-bytes
use Rattle.types.proofs.write.write_string.Reads as writes-string
use Rattle.types.proofs.write.write_long_string.Reads as writes-long-string
use Rattle.types.proofs.write.write_bytes.Reads as writes_bytes
use Rattle.types.proofs.write.write_null.Reads as writes-null
use Rattle.types.proofs.write.write_string_list.Reads as writes-list

-- ---- what a place holds, signs

pub part_determined : DeterminedAs (λ κs r e. r.now) hands.Post
part_determined = by_sight _ (λ κs a. bytes_in a.0.now (place_of a.1.0))

pub signed16_determined : Determined signs16.Post
signed16_determined = by_equation (λ κs a. to_z w16 a.0)

pub signed32_determined : Determined signs32.Post
signed32_determined = by_equation (λ κs a. to_z w32 a.0)

pub signed64_determined : Determined signs64.Post
signed64_determined = by_equation (λ κs a. to_z w64 a.0)

pub bits16_determined : Determined bits16.Post
bits16_determined = by_equation (λ κs a. of_z w16 a.0)

pub bits32_determined : Determined bits32.Post
bits32_determined = by_equation (λ κs a. of_z w32 a.0)

pub bits64_determined : Determined bits64.Post
bits64_determined = by_equation (λ κs a. of_z w64 a.0)

-- ---- readers

-- of a notation's reader: the bytes are lent first, then the position is told
by_reading {ℓ} :
    {Lifetimes : Type ℓ} {Others Exit : Lifetimes → Type 0} {Value Content Read : Type 0} {meaning : Read → Answer Value}
    (n : Notation Value Content) → Tells meaning
    → Determined {Arguments = λ κs. Bor (List ℕ) × (ℕ × Others κs)} {Exit = Exit} (λ κs a r e. meaning r ≡ n.read a.0.now a.1.0)
by_reading n tells = by_meaning tells (λ κs a. n.read a.0.now a.1.0)

pub read_byte_determined : Determined reads_byte.Post
read_byte_determined = by_reading byte number_told

pub read_short_determined : Determined reads_short.Post
read_short_determined = by_reading short number_told

pub read_int_determined : Determined Reads-Int.Post
read_int_determined = by_reading int number_told

pub read_long_determined : Determined reads-long.Post
read_long_determined = by_reading long number_told

pub read_uuid_determined : Determined reads-uuid.Post
read_uuid_determined = by_reading uuid part_told

pub read_short_bytes_determined : Determined reads-short-bytes.Post
read_short_bytes_determined = by_reading short_bytes part_told

pub read_string_determined : Determined reads-string.Post
read_string_determined = by_reading string part_told

pub read_long_string_determined : Determined reads-long-string.Post
read_long_string_determined = by_reading long_string part_told

pub read_bytes_determined : Determined Reads-bytes.Post
read_bytes_determined = by_reading bytes bytes_told

pub read_string_list_determined : Determined reads-list.Post
read_string_list_determined = by_reading string_list strings_told

pub next_string_determined : Determined steps.Post
next_string_determined = by_meaning walked_told (λ κs a. step_at a.0.now a.1.0.left a.1.0.at)

-- ---- writers

-- a writer's answer
abbrev Written : Type 0
Written = std.Result ℕ Refusal

-- the answer, and what the output, which is lent first, then holds
abbrev pub Outcome : Type 0
Outcome = Written × List ℕ

abbrev pub DeterminedWriter {ℓ} :
    {Lifetimes : Type ℓ} {Others OthersLeft : Lifetimes → Type 0}
    → ((κs : Lifetimes) → MutBor (List ℕ) × Others κs → Written → MutBor (List ℕ) × OthersLeft κs → Type 0) → Type ℓ
DeterminedWriter Ensures = DeterminedAs {Seen = Outcome} (λ κs r e. (r, e.0.now)) Ensures

pub by_wrote {ℓ} :
    {Lifetimes : Type ℓ} {Others OthersLeft : Lifetimes → Type 0}
    (check : (κs : Lifetimes) → Others κs → Check) (at : (κs : Lifetimes) → Others κs → ℕ) (bs : (κs : Lifetimes) → Others κs → List ℕ)
    → DeterminedWriter {OthersLeft = OthersLeft} (λ κs a r e. Wrote (check κs a.1) a.0.now (at κs a.1) (bs κs a.1) (paper_written r) e.0.now)
by_wrote check at bs =
    record {
      same = λ κs a r s e f p q.
          ap₂ pair (told_apart written_told r s (p.says ∙ sym q.says)) (p.leaves ∙ sym q.leaves);
    }
  where
    pair : Written → List ℕ → Outcome
    pair r left = (r, left)

-- of a notation's writer: behind the output stands the position, and behind that what is written
by_writing {ℓ} :
    {Lifetimes : Type ℓ} {Given OthersLeft : Lifetimes → Type 0} {Value Content : Type 0}
    (n : Notation Value Content) (content : (κs : Lifetimes) → Given κs → Content)
    → DeterminedWriter {Others = λ κs. ℕ × Given κs} {OthersLeft = OthersLeft}
    (λ κs a r e. Wrote (n.check (content κs a.1.1)) a.0.now a.1.0 (n.written (content κs a.1.1)) (paper_written r) e.0.now)
by_writing n content = by_wrote (λ κs v. n.check (content κs v.1)) (λ κs v. v.0) (λ κs v. n.written (content κs v.1))

pub write_byte_determined : DeterminedWriter writes_byte.Post
write_byte_determined = by_writing byte (λ κs v. v.0)

pub write_short_determined : DeterminedWriter writes_short.Post
write_short_determined = by_writing short (λ κs v. v.0)

pub write_int_determined : DeterminedWriter writes-int.Post
write_int_determined = by_writing int (λ κs v. v.0)

pub write_long_determined : DeterminedWriter writes-long.Post
write_long_determined = by_writing long (λ κs v. v.0)

pub write_uuid_determined : DeterminedWriter writes-uuid.Post
write_uuid_determined = by_writing uuid (λ κs v. v.0)

pub write_short_bytes_determined : DeterminedWriter writes-short-bytes.Post
write_short_bytes_determined = by_writing short_bytes (λ κs v. v.0.now)

pub write_string_determined : DeterminedWriter writes-string.Post
write_string_determined = by_writing string (λ κs v. v.0.now)

pub write_long_string_determined : DeterminedWriter writes-long-string.Post
write_long_string_determined = by_writing long_string (λ κs v. v.0.now)

pub write_bytes_determined : DeterminedWriter writes_bytes.Post
write_bytes_determined = by_writing bytes (λ κs v. some v.0.now)

pub write_null_determined : DeterminedWriter writes-null.Post
write_null_determined = by_writing bytes (λ κs v. none)

pub write_string_list_determined : DeterminedWriter writes-list.Post
write_string_list_determined = by_writing string_list (λ κs v. (v.0.now, v.1.0.now))

-- ---- what the crates share: of `room` and `read_number` the first half says all

pub room_determined : Determined has_room.Post
room_determined = record { same = λ κs a r s e f p q. p.0 ∙ sym q.0 }

pub read_number_determined : Determined reads-number.Post
read_number_determined = record { same = λ κs a r s e f p q. p.0 ∙ sym q.0 }

pub put_number_determined : DeterminedAs (λ κs r e. e.0.now) puts-number.Post
put_number_determined = by_sight _ (λ κs a. put a.0.now a.1.0 (digits a.1.1.0 a.1.1.1.0))

pub put_bytes_determined : DeterminedAs (λ κs r e. e.0.now) puts-bytes.Post
put_bytes_determined = by_sight _ (λ κs a. put a.0.now a.1.0 a.1.1.0.now)

pub put_counted_determined : DeterminedAs (λ κs r e. e.0.now) puts-counted.Post
put_counted_determined = by_sight _ (λ κs a. put a.0.now a.1.0 (counted a.1.1.0 a.1.1.1.0.now))

pub check_list_determined : Determined checks-list.Post
check_list_determined = by_meaning writable_told (λ κs a. list_check a.0.now a.1.0.now)

pub put_list_determined : DeterminedAs (λ κs r e. e.0.now) puts-list.Post
put_list_determined = by_sight _ (λ κs a. put a.0.now a.1.0 (list_bytes (cut_by a.1.1.0.now a.1.1.1.0.now)))
