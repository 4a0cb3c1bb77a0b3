-- Readers that the promise of a call shuts out, by name. Assumes nothing.
use Rattle.std.specs.Prelude.{ℕ, ◌≡◌, Bool, true, false, List, [], ◌∷◌, ℤ, pos, negsuc, drop}
use Rattle.basis.specs.Machine.{Step, says, refused_after, holding}
use Rattle.refusal.specs.Refusal.{Refusal}
use Rattle.types.specs.Read.{Place, place, strings}
use Rattle.frame.specs.Envelope.{Envelope}
use Rattle.frame_decoder.specs.Reader.{Reader, Buffer, envelope_at, more, refused}
use Rattle.frame_decoder.specs.Call.{Outcome, call}
use Rattle.stream.specs.Meaning.{Said, Meaning}
use Rattle.stream.specs.Caller.{State, step_of}

-- a reader, as what its calls come to; and one that keeps the promise
abbrev pub Reads : Type 0
Reads = Reader → List ℕ → List ℕ → List ℕ → Outcome

abbrev pub Keeps : Reads → Type 0
Keeps R = (r : Reader) (segment reassembly piece : List ℕ) → R r segment reassembly piece ≡ call r segment reassembly piece

-- as a machine, whose caller adds up the bytes that it says it took
abbrev pub machine_of : Reads → State → List ℕ → Step State Said Refusal
machine_of R s piece = step_of (R s.reader s.segment s.reassembly piece)

-- after how many bytes the answers come, and a refusal
abbrev pub dates_of : Meaning → List ℕ
dates_of (says x m) = x.after ∷ dates_of m
dates_of (refused_after why taken) = taken ∷ []
dates_of (holding h) = []

-- ---- wrong ones

abbrev pub RefusesEverything : Reads → Type 0
RefusesEverything R = (r : Reader) (segment reassembly piece : List ℕ) → (why : Refusal) × ((R r segment reassembly piece).answer ≡ refused why)

abbrev pub NamesOneEnvelope : Reads → Type 0
NamesOneEnvelope R = (e : Envelope) × ((r : Reader) (segment reassembly piece : List ℕ) → (buffer : Buffer) × (at : Place) × ((R r segment reassembly piece).answer ≡ envelope_at buffer at e))

abbrev pub AsksForever : Reads → Type 0
AsksForever R = (r : Reader) (segment reassembly piece : List ℕ) → (R r segment reassembly piece).answer ≡ more

-- what its next call answers with the rest of the piece
abbrev pub next : Reads → Reader → List ℕ → List ℕ → List ℕ → Outcome
next R r segment reassembly piece =
    let o : Outcome = R r segment reassembly piece in
    R o.reader o.segment o.reassembly (drop o.taken piece)

abbrev pub OnlyNods : Reads → Type 0
OnlyNods R = (r : Reader) (segment reassembly piece : List ℕ) → (next R r segment reassembly piece).answer ≡ more

-- ---- what they are caught with: docs/RULES.md, section 13, P5 and P6

-- nine bytes that are a header alone, with this direction, stream number and opcode
abbrev header_alone : Bool → ℤ → ℕ → Envelope
header_alone response stream opcode =
    record {
      size = 9;
      header = record { version = 5; response = response; flags = 0; stream = stream; opcode = opcode };
      traced = false;
      warnings = strings 0 9;
      body = place 9 0;
    }

abbrev pub P5 : List ℕ
P5 = 0x05 ∷ 0x00 ∷ 0x00 ∷ 0x01 ∷ 0x05 ∷ 0x00 ∷ 0x00 ∷ 0x00 ∷ 0x00 ∷ []

abbrev pub reading_of_p5 : Envelope
reading_of_p5 = header_alone false (pos 1) 0x05

abbrev pub P6 : List ℕ
P6 = 0x85 ∷ 0x00 ∷ 0xff ∷ 0xff ∷ 0x0c ∷ 0x00 ∷ 0x00 ∷ 0x00 ∷ 0x00 ∷ []

abbrev pub reading_of_p6 : Envelope
reading_of_p6 = header_alone true (negsuc 0) 0x0c
