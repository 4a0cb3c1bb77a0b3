-- What was written is read back, and what was read is written again: docs/RULES.md, section 11. Assumes nothing.
use Rattle.std.specs.Prelude.{ℕ, ◌+◌, ◌-◌, ◌≤◌, ◌≡◌, List, length}
use Rattle.basis.specs.Bytes.{Bytes}
use Rattle.types.specs.Answer.{Answer, got}
use Rattle.types.specs.Number.{part}
use Rattle.types.specs.Write.{put, Check, fine, Wrote}
use Rattle.types.specs.Notation.{Notation}

-- bs stand in s from `at` on
pub record Holds (s : List ℕ) (at : ℕ) (bs : List ℕ) : Type 0 where
  pub room : at + length bs ≤ length s
  pub is : part s at (length bs) ≡ bs

-- bs may be written, they stand in `left` from `at` on, and `next` is the position behind them
pub record Stands (check : Check) (at : ℕ) (bs : List ℕ) (left : List ℕ) (next : ℕ) : Type 0 where
  pub nothing : check ≡ fine
  pub holds : Holds left at bs
  pub end : next ≡ at + length bs

-- ---- 11.1, of any notation

-- a content is read at a position, and `next` is behind it
pub record ReadAs {Value Content : Type 0} (n : Notation Value Content) (s : List ℕ) (at : ℕ) (c : Content) (next : ℕ) : Type 0 where
  pub value : Value
  pub reads : n.read s at ≡ got value next
  pub shown : n.shows s value ≡ c

-- what the writer accepted is read as it was given, from the output that it left and with the position that it answered
pub record WrittenRead {Value Content : Type 0} (n : Notation Value Content) : Type 0 where
  pub back : (c : Content) → n.Given c → {out left : List ℕ} {at next : ℕ} → Wrote (n.check c) out at (n.written c) (got tt next) left → ReadAs n left at c next

-- ---- 11.2, of any notation

-- a content that was read from the bytes from `at` up to `next` is given to the writer
pub record WrittenAgain {Value Content : Type 0} (n : Notation Value Content) (s : List ℕ) (at : ℕ) (c : Content) (next : ℕ) : Type 0 where
  pub given : n.Given c
  -- wherever there is room it is accepted, the position behind it is answered, and what is written is those bytes
  pub anywhere : {out left : List ℕ} {to : ℕ} {answer : Answer Unit} → Wrote (n.check c) out to (n.written c) answer left
      → to + (next - at) ≤ length out → (answer ≡ got (tt {0}) (to + (next - at))) × (left ≡ put out to (part s at (next - at)))
  -- where it stands that changes nothing
  pub again : {left : List ℕ} {answer : Answer Unit} → Wrote (n.check c) s at (n.written c) answer left → (answer ≡ got (tt {0}) next) × (left ≡ s)

-- what was read, where it comes back, is written again
pub record ReadWritten {Value Content : Type 0} (n : Notation Value Content) : Type 0 where
  pub forth : (s : List ℕ) → Bytes s → (at : ℕ) → n.Returns s at → {value : Value} {next : ℕ} → n.read s at ≡ got value next → WrittenAgain n s at (n.shows s value) next
