-- A caller who gives a stream in pieces, and what it hears: docs/RULES.md, 6.3 and 6.11. Assumes nothing.
use Rattle.std.specs.Prelude.{ℕ, ◌+◌, ◌-◌, Bool, true, false, cond, List, [], ◌∷◌, length, take}
use Rattle.basis.specs.Machine.{Reply, hands_on, asks_more, refuses_with, Step, step, Dated, refused_after, Close, Uses, Hears}
use Rattle.refusal.specs.Refusal.{Refusal, inadmissible}
use Rattle.types.specs.Number.{part}
use Rattle.segment.specs.Header.{Form}
use Rattle.frame_decoder.specs.Reader.{Reader, fresh, bytes_at, Answer, envelope_at, leftover, more, refused, Counts, counts_of, in_range, held_in}
use Rattle.frame_decoder.specs.Call.{Outcome, call}
use Rattle.stream.specs.Meaning.{lent, Said, envelope_of, leftover_of, Held, held, Meaning, meaning}

-- ---- the reader as a machine

-- a reader, and what its two buffers hold
pub record State : Type 0 where
  pub reader : Reader
  pub segment : List ℕ
  pub reassembly : List ℕ

abbrev pub state : Reader → List ℕ → List ℕ → State
state r segment reassembly = record { reader = r; segment = segment; reassembly = reassembly }

-- what is heard of an answer, the buffers then holding this; an envelope with its place and its bytes
abbrev pub reply_of : Answer → List ℕ → List ℕ → Reply Said Refusal
reply_of (envelope_at buffer at e) segment reassembly = hands_on (envelope_of buffer at (bytes_at buffer segment reassembly at) e)
reply_of (leftover n) segment reassembly = hands_on (leftover_of n)
reply_of more segment reassembly = asks_more
reply_of (refused why) segment reassembly = refuses_with why

abbrev pub step_of : Outcome → Step State Said Refusal
step_of o = step (reply_of o.answer o.segment o.reassembly) o.taken (state o.reader o.segment o.reassembly)

-- one call of the reader
abbrev pub reads : State → List ℕ → Step State Said Refusal
reads s piece = step_of (call s.reader s.segment s.reassembly piece)

-- ---- 6.11: the bytes held

abbrev pub holds_by : Counts → List ℕ → List ℕ → Held
holds_by c segment reassembly = held (take c.there segment) (part reassembly c.from (c.pending - c.from))

abbrev pub holds : State → Held
holds s = holds_by (counts_of s.reader) s.segment s.reassembly

-- bytes that a reader holds or has still to deliver
abbrev pub undelivered : Counts → ℕ
undelivered c = held_in c + (c.all - c.read)

-- ---- a fresh reader

-- a fresh reader over two buffers, whatever they hold
abbrev pub start : Form → List ℕ → List ℕ → State
start form segment reassembly = state (fresh form (length segment) (length reassembly)) segment reassembly

-- what a caller hears of it that gives these pieces, *more* left out
abbrev pub HearsOf : Form → List ℕ → List ℕ → List (List ℕ) → Meaning → Type 0
HearsOf form segment reassembly pieces m = Hears reads holds (start form segment reassembly) 0 pieces m

-- what the stream means to it: 1 where a lent length is out of range
unfoldable pub heard_of : Form → ℕ → ℕ → List ℕ → Meaning
heard_of form segment reassembly stream = cond (in_range segment reassembly) (meaning (lent form segment reassembly) stream) (refused_after inadmissible 0)

-- without a call 1 is not heard: a piece is given, empty or not, or the lengths are in range
abbrev pub Asked : Bool → List (List ℕ) → Type 0
Asked true pieces = Unit {0}
Asked false [] = ⊥
Asked false (piece ∷ pieces) = Unit {0}

-- ---- what is left behind

-- what the two buffers hold once a piece is used up
pub record Leaves (s : State) (piece segment reassembly : List ℕ) : Type 0 where
  pub handed : List (Dated Said)
  pub close : Close Refusal
  pub taken : ℕ
  pub reader : Reader
  pub uses : Uses reads s 0 piece handed close taken (state reader segment reassembly)
