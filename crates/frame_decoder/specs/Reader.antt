-- A reader's state, its steps, and what a call answers: docs/RULES.md, 6.1, 6.2 and 6.11. Assumes nothing.
use Rattle.std.specs.Prelude.{ℕ, ◌+◌, ◌-◌, Bool, true, false, cond, ◌&&◌, List, leb, eqb}
use Rattle.refusal.specs.Refusal.{Refusal}
use Rattle.types.specs.Read.{Place, bytes_in}
use Rattle.segment.specs.Header.{Form, Header, header_length}
use Rattle.segment.specs.Segment.{max_payload, segment_length}
use Rattle.frame.specs.Envelope.{Envelope}

-- what a reader is about
pub data Phase : Type 0 where
  -- so many bytes of a header are there
  in_header : ℕ → Phase
  -- its header has passed: so many bytes of the segment are there; the payload's length, and whether it is self-contained
  in_rest : ℕ → ℕ → Bool → Phase
  -- envelopes of a self-contained payload are handed on: its length, and how many of its bytes are read
  in_segment : ℕ → ℕ → Phase
  -- envelopes of the pending bytes are handed on: how many of them are read
  in_reassembly : ℕ → Phase
  -- refused
  stopped : Refusal → Phase

-- the form, the lengths of the two buffers that it was made for, how many bytes are pending, and the phase
pub record Reader : Type 0 where
  pub form : Form
  pub segment : ℕ
  pub reassembly : ℕ
  pub pending : ℕ
  pub phase : Phase

abbrev pub keeping : Reader → ℕ → Phase → Reader
keeping r pending phase = record { form = r.form; segment = r.segment; reassembly = r.reassembly; pending = pending; phase = phase }

abbrev pub in_phase : Reader → Phase → Reader
in_phase r phase = keeping r r.pending phase

abbrev pub fresh : Form → ℕ → ℕ → Reader
fresh form segment reassembly = record { form = form; segment = segment; reassembly = reassembly; pending = 0; phase = in_header 0 }

-- ---- its steps

-- the count of a phase goes on by k: bytes that are there, or that are read
abbrev pub advanced : ℕ → Phase → Phase
advanced k (in_header n) = in_header (n + k)
advanced k (in_rest n len self) = in_rest (n + k) len self
advanced k (in_segment len at) = in_segment len (at + k)
advanced k (in_reassembly at) = in_reassembly (at + k)
advanced k (stopped why) = stopped why

-- so many more bytes are taken; nothing is judged
abbrev pub pushed : ℕ → Reader → Reader
pushed k r = in_phase r (advanced k r.phase)

-- a header has passed, of whose segment n bytes are there
abbrev pub header_passed : Reader → ℕ → Header → Reader
header_passed r n h = in_phase r (in_rest n h.payload h.self)

-- a segment is finished: its payload, so long, stands alone, or has joined the pending bytes
abbrev pub segment_finished : Reader → ℕ → Bool → Reader
segment_finished r len true = in_phase r (in_segment len 0)
segment_finished r len false = keeping r (r.pending + len) (in_reassembly 0)

-- in this phase an envelope of so many bytes is handed on
abbrev pub handed_on : Reader → Phase → ℕ → Reader
handed_on r phase size = in_phase r (advanced size phase)

-- all whole envelopes are handed on, so many bytes are pending, and a segment is to come
abbrev pub payload_read : Reader → ℕ → Reader
payload_read r pending = keeping r pending (in_header 0)

-- 6.13: a refusal stops it
abbrev pub stopped_by : Reader → Refusal → Reader
stopped_by r why = in_phase r (stopped why)

-- ---- answers

pub data Buffer : Type 0 where
  segment_buffer : Buffer
  reassembly_buffer : Buffer

pub data Answer : Type 0 where
  -- in which buffer, where and how long, and its reading
  envelope_at : Buffer → Place → Envelope → Answer
  leftover : ℕ → Answer
  more : Answer
  refused : Refusal → Answer

-- the bytes of a place: none where it runs past the end of its buffer
abbrev pub bytes_at : Buffer → List ℕ → List ℕ → Place → List ℕ
bytes_at segment_buffer segment reassembly p = bytes_in segment p
bytes_at reassembly_buffer segment reassembly p = bytes_in reassembly p

-- ---- a state in numbers

-- of the segment that is taken, how many bytes are there, and with how many it is judged next; how long a payload its header told of; of a self-contained payload that is read, how many bytes
-- are read, and of how many; and the same of the pending bytes
pub record Counts : Type 0 where
  pub there : ℕ
  pub goal : ℕ
  pub payload : ℕ
  pub read : ℕ
  pub all : ℕ
  pub from : ℕ
  pub pending : ℕ

abbrev pub counts : ℕ → ℕ → ℕ → ℕ → ℕ → ℕ → ℕ → Counts
counts there goal payload read all from pending = record { there = there; goal = goal; payload = payload; read = read; all = all; from = from; pending = pending }

-- a stopped reader has none
abbrev pub counts_in : Form → ℕ → Phase → Counts
counts_in form pending (in_header n) = counts n (header_length form) 0 0 0 0 pending
counts_in form pending (in_rest n len self) = counts n (segment_length form len) len 0 0 0 pending
counts_in form pending (in_segment len at) = counts 0 0 len at len 0 pending
counts_in form pending (in_reassembly at) = counts 0 0 0 0 0 at pending
counts_in form pending (stopped why) = counts 0 0 0 0 0 0 0

abbrev pub counts_of : Reader → Counts
counts_of r = counts_in r.form r.pending r.phase

-- ---- refusal 1: lengths and counts (9.1)

abbrev pub min_segment : ℕ
min_segment = 12

abbrev pub max_segment : ℕ
max_segment = 131083

abbrev pub min_reassembly : ℕ
min_reassembly = 9

abbrev pub max_reassembly : ℕ
max_reassembly = 1048576

abbrev pub between : ℕ → ℕ → ℕ → Bool
between least most n = leb least n && leb n most

-- 6.2: both lent lengths are in range
unfoldable pub in_range : ℕ → ℕ → Bool
in_range a b = between min_segment max_segment a && between min_reassembly max_reassembly b

-- they are, and they are those that the reader was made for
unfoldable pub lent_fits : Reader → ℕ → ℕ → Bool
lent_fits r a b = in_range a b && (eqb a r.segment && eqb b r.reassembly)

-- a payload of this length may be in a segment buffer of so many bytes
unfoldable pub payload_fits : Form → ℕ → ℕ → Bool
payload_fits form room len = leb len max_payload && leb (segment_length form len) room

-- each count lies in what it counts
abbrev pub counts_lie : Counts → Bool
counts_lie c = leb c.there c.goal && (leb c.read c.all && leb c.from c.pending)

unfoldable pub admissible : Reader → ℕ → ℕ → Bool
admissible r a b = lent_fits r a b && (leb r.pending b && (payload_fits r.form a (counts_of r).payload && counts_lie (counts_of r)))

-- ---- 6.11: bytes of an unfinished segment, and pending ones that are not yet handed on

abbrev pub held_in : Counts → ℕ
held_in c = c.there + (c.pending - c.from)

-- of a state that every call refuses with 1, none
unfoldable pub held : Reader → ℕ
held r = cond (admissible r r.segment r.reassembly) (held_in (counts_of r)) 0
