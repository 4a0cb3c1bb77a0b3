-- What a caller writes down of a stream: docs/RULES.md, 10.4. Assumes nothing.
use Rattle.std.specs.Prelude.{ℕ, ◌+◌, ◌*◌, ◌≤◌, ◌≡◌, Bool, true, false, cond, ◌&&◌, List, [], ◌∷◌, map, leb, ltb, length, take, set}
use Rattle.basis.specs.Machine.{Dated, says, refused_after, holding}
use Rattle.refusal.specs.Refusal.{Refusal}
use Rattle.types.specs.Write.{put, joined}
use Rattle.segment.specs.Header.{Form}
use Rattle.stream.specs.Meaning.{Said, envelope_of, leftover_of, Meaning}
use Rattle.stream.specs.Caller.{start, heard_of, Leaves}

-- ---- of one answer

-- how many bytes it speaks of
abbrev pub said_length : Said → ℕ
said_length (envelope_of buffer at bytes e) = length bytes
said_length (leftover_of n) = n

-- an envelope's bytes, and twice their number; of a leftover no bytes, and twice its number and one
abbrev pub bytes_of : Said → List ℕ
bytes_of (envelope_of buffer at bytes e) = bytes
bytes_of (leftover_of n) = []

abbrev pub mark_of : Said → ℕ
mark_of (envelope_of buffer at bytes e) = length bytes * 2
mark_of (leftover_of n) = n * 2 + 1

-- ---- of all

-- how many answers and how many bytes were noted, and whether that is all; the bytes one after the other, and a mark for each answer
pub record Tape : Type 0 where
  pub answers : ℕ
  pub bytes : ℕ
  pub complete : Bool
  pub envelopes : List ℕ
  pub marks : List ℕ

abbrev pub tape : ℕ → ℕ → Bool → List ℕ → List ℕ → Tape
tape answers bytes complete envelopes marks = record { answers = answers; bytes = bytes; complete = complete; envelopes = envelopes; marks = marks }

abbrev pub blank : List ℕ → List ℕ → Tape
blank envelopes marks = tape 0 0 true envelopes marks

-- n more bytes and a mark have room, in outputs of so many elements
abbrev pub room_on : ℕ → ℕ → Bool → ℕ → ℕ → ℕ → Bool
room_on answers bytes complete room marks n = complete && (ltb answers marks && leb (bytes + n) room)

-- what has no room is not noted, and neither is what comes later
unfoldable pub noted : List ℕ → ℕ → Tape → Tape
noted bytes mark t =
    cond (room_on t.answers t.bytes t.complete (length t.envelopes) (length t.marks) (length bytes))
    (tape (t.answers + 1) (t.bytes + length bytes) true (put t.envelopes t.bytes bytes) (set t.marks t.answers mark))
    (tape t.answers t.bytes false t.envelopes t.marks)

abbrev pub collected : Meaning → Tape → Tape
collected (says x m) t = collected m (noted (bytes_of x.what) (mark_of x.what) t)
collected (refused_after why taken) t = t
collected (holding h) t = t

-- how it ends: a refusal and how many bytes were taken; or how many bytes of an unfinished segment are held, and which, and how many pending ones, and which
pub data Ending : Type 0 where
  refused_end : Refusal → ℕ → Ending
  held_end : ℕ → List ℕ → ℕ → List ℕ → Ending

abbrev pub end_of : Meaning → Ending
end_of (says x m) = end_of m
end_of (refused_after why taken) = refused_end why taken
end_of (holding h) = held_end (length h.segment) h.segment (length h.pending) h.pending

-- ---- of a stream

-- what a caller wrote down of a stream given to a fresh reader, how it ended, and what it left in the two buffers
pub record HeardAs (form : Form) (segment reassembly stream envelopes marks : List ℕ) (t : Tape) (end : Ending) (last-segment last-reassembly : List ℕ) : Type 0 where
  pub tells : t ≡ collected (heard_of form (length segment) (length reassembly) stream) (blank envelopes marks)
  pub ends : end ≡ end_of (heard_of form (length segment) (length reassembly) stream)
  pub leaves : Leaves (start form segment reassembly) stream last-segment last-reassembly

-- ---- what stands written

-- the answers of a meaning, without its end
abbrev pub answers_of : Meaning → List (Dated Said)
answers_of (says x m) = x ∷ answers_of m
answers_of (refused_after why taken) = []
answers_of (holding h) = []

-- these answers are written down: a mark for each, and the bytes of the envelopes one after the other
pub record WrittenDown (t : Tape) (answers : List (Dated Said)) : Type 0 where
  pub marks : take t.answers t.marks ≡ map (λ x. mark_of x.what) answers
  pub bytes : take t.bytes t.envelopes ≡ joined (map (λ x. bytes_of x.what) answers)
  pub marks_room : t.answers ≤ length t.marks
  pub bytes_room : t.bytes ≤ length t.envelopes
