-- What only the contracts of functions inside this crate cite, and proofs. No public promise speaks of it: a reader of the promises need not believe it.
-- What is known inside the crate of a reader on its way through a stream. Assumes nothing.
use Rattle.std.specs.Prelude.{ℕ, ◌+◌, ◌-◌, ◌≤◌, ◌<◌, ◌≡◌, List, [], ◌∷◌, ◌++◌, length, take, drop}
use Rattle.basis.specs.Front.{whole}
use Rattle.basis.specs.Machine.{Dated, refused_after, holding, Close, used_up, refused_with, Uses}
use Rattle.refusal.specs.Refusal.{Refusal}
use Rattle.types.specs.Number.{part}
use Rattle.segment.specs.Header.{Form, header, header_length}
use Rattle.segment.specs.Segment.{header_at}
use Rattle.frame_decoder.specs.Reader.{Phase, in_header, in_rest, in_segment, in_reassembly, stopped, Reader, segment_buffer, reassembly_buffer, counts_of, min_reassembly}
use Rattle.frame_decoder.specs.Private.Inside.{Admitted, wanted}
use Rattle.stream.specs.Meaning.{Lent, lent, Said, Meaning, segment_in, envelopes_in, dropping, by_beginning, meaning_from}
use Rattle.stream.specs.Caller.{State, state, reads, holds, undelivered}
use Rattle.stream.specs.Collect.{bytes_of, mark_of, Tape, noted, Ending, refused_end, end_of}

abbrev pub lent_of : Reader → Lent
lent_of r = lent r.form r.segment r.reassembly

-- ---- what is still to come

-- bytes of a segment are at hand, and are still to be judged
abbrev pub judging : Lent → List ℕ → List ℕ → ℕ → List ℕ → Meaning
judging z pending s taken stream = by_beginning z (segment_in z s) pending s taken (λ pending' s'. meaning_from z taken pending' s' stream)

-- with so many bytes taken and these bytes of the stream to come
abbrev pub rest_at : Lent → ℕ → Phase → List ℕ → List ℕ → ℕ → List ℕ → Meaning
rest_at z pending (in_header n) seg re taken stream = judging z (take pending re) (take n seg) taken stream
rest_at z pending (in_rest n len self) seg re taken stream = judging z (take pending re) (take n seg) taken stream
rest_at z pending (in_segment len at) seg re taken stream =
    envelopes_in taken segment_buffer (header_length z.form + at) 0 (part seg (header_length z.form + at) (len - at))
    (λ unread. dropping taken unread (meaning_from z taken (take pending re) [] stream))
rest_at z pending (in_reassembly at) seg re taken stream = envelopes_in taken reassembly_buffer at 0 (part re at (pending - at)) (λ unread. meaning_from z taken unread [] stream)
rest_at z pending (stopped why) seg re taken stream = refused_after why taken

abbrev pub rest : State → ℕ → List ℕ → Meaning
rest s taken stream = rest_at (lent_of s.reader) s.reader.pending s.reader.phase s.segment s.reassembly taken stream

-- ---- readers that a caller has left untouched

-- a header that has passed still stands in the segment buffer, and says what the reader knows of it
abbrev pub Agrees : Form → Phase → List ℕ → Type 0
Agrees form (in_header n) seg = Unit
Agrees form (in_rest n len self) seg = (header_length form ≤ n) × (header_at form (take n seg) ≡ whole (header len 0 self))
Agrees form (in_segment len at) seg = Unit
Agrees form (in_reassembly at) seg = Unit
Agrees form (stopped why) seg = Unit

abbrev pub Untouched : State → Type 0
Untouched s = Agrees s.reader.form s.reader.phase s.segment

-- over these buffers it is not refused with 1
pub record Ready (s : State) : Type 0 where
  pub segment : length s.segment ≡ s.reader.segment
  pub reassembly : length s.reassembly ≡ s.reader.reassembly
  pub least : min_reassembly ≤ length s.reassembly
  pub ok : Admitted s.reader (length s.segment) (length s.reassembly)

-- bytes are wanting
abbrev pub Wants : State → Type 0
Wants s = 0 < wanted (counts_of s.reader)

abbrev pub ahead : State → ℕ
ahead s = undelivered (counts_of s.reader)

-- ---- a caller on its way through a stream

-- a reader and what its buffers hold, how many bytes were taken, and what was written down
pub record Way : Type 0 where
  pub at : State
  pub taken : ℕ
  pub tape : Tape

pub record Going (stream : List ℕ) (w : Way) : Type 0 where
  pub ready : Ready w.at
  pub untouched : Untouched w.at
  pub within : w.taken ≤ length stream

-- all of it is given as one piece
abbrev pub Gives : List ℕ → Way → List (Dated Said) → Close Refusal → ℕ → State → Type 0
Gives stream w = Uses reads w.at w.taken (drop w.taken stream)

-- answers are written down one after the other
abbrev pub noted_all : List (Dated Said) → Tape → Tape
noted_all [] t = t
noted_all (x ∷ xs) t = noted_all xs (noted (bytes_of x.what) (mark_of x.what) t)

-- from there to here these were handed on and written down; so what is to come there is these, and then what is to come here
pub record Onward (stream : List ℕ) (w v : Way) : Type 0 where
  pub handed : List (Dated Said)
  pub notes : v.tape ≡ noted_all handed w.tape
  pub gives : (xs : List (Dated Said)) (c : Close Refusal) (end : ℕ) (t : State) → Gives stream v xs c end t → Gives stream w (handed ++ xs) c end t

abbrev pub ending_of : Close Refusal → ℕ → State → Ending
ending_of used_up end s = end_of (holding (holds s))
ending_of (refused_with why) end s = refused_end why end

-- it has come to its end with this written down, this end, and this in the buffers
pub record Over (stream : List ℕ) (w : Way) (t : Tape) (e : Ending) (S R : List ℕ) : Type 0 where
  pub handed : List (Dated Said)
  pub close : Close Refusal
  pub taken : ℕ
  pub reader : Reader
  pub gives : Gives stream w handed close taken (state reader S R)
  pub notes : t ≡ noted_all handed w.tape
  pub ends : e ≡ ending_of close taken (state reader S R)

-- at most so many answers come before the piece that ends there is used up
abbrev pub left_to : ℕ → Way → ℕ
left_to end w = ahead w.at + (end - w.taken)
