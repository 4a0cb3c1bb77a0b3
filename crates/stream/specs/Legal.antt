-- Legal streams, and lent sizes that suffice: docs/RULES.md, section 10. Assumes nothing.
use Rattle.std.specs.Prelude.{ℕ, ◌+◌, ◌-◌, ◌≤◌, ◌≡◌, ◌≢◌, true, cond, List, [], ◌∷◌, ◌++◌, leb, length}
use Rattle.basis.specs.Front.{whole}
use Rattle.basis.specs.Lists.{joined, AllWithin}
use Rattle.basis.specs.Machine.{Dated, dated, says, refused_after, holding, saying}
use Rattle.refusal.specs.Refusal.{segment_too_long, reassembly_too_short}
use Rattle.types.specs.Read.{place}
use Rattle.segment.specs.Header.{Form, header_length}
use Rattle.segment.specs.Segment.{WholeSegment, Run, no_segment, one_segment}
use Rattle.frame.specs.Envelope.{Envelope, envelope}
use Rattle.frame_decoder.specs.Reader.{Buffer, segment_buffer, reassembly_buffer, in_range}
use Rattle.stream.specs.Meaning.{Lent, lent, Said, envelope_of, held, Meaning, meaning}

-- ---- whole envelopes

-- the bytes of an envelope, and its reading
pub record Message : Type 0 where
  pub bytes : List ℕ
  pub reading : Envelope

abbrev pub message : List ℕ → Envelope → Message
message bytes reading = record { bytes = bytes; reading = reading }

-- whole envelopes one after the other, to none of which 8 to 13 applies
pub data Envelopes : List ℕ → List Message → Type 0 where
  no_envelope : Envelopes [] []
  one_envelope : {bytes others : List ℕ} {v : Envelope} {es : List Message} → envelope bytes ≡ whole v → v.size ≡ length bytes → Envelopes others es
      → Envelopes (bytes ++ others) (message bytes v ∷ es)

-- as they are answered: due after so many bytes of the stream, one behind the other in this buffer from `at` on
unfoldable pub answered : ℕ → Buffer → ℕ → List Message → List (Dated Said)
answered due buffer at [] = []
answered due buffer at (e ∷ es) = dated due (envelope_of buffer (place at (length e.bytes)) e.bytes e.reading) ∷ answered due buffer (at + length e.bytes) es

-- ---- a run of segments

-- Of envelopes one after the other, of which n bytes are there: those that are whole, the others, and how many of the bytes are left for these.
pub record Parted : Type 0 where
  pub complete : List Message
  pub others : List Message
  pub unread : ℕ

abbrev pub parts : List Message → List Message → ℕ → Parted
parts complete others unread = record { complete = complete; others = others; unread = unread }

unfoldable pub parted : ℕ → List Message → Parted
parted n [] = parts [] [] n
parted n (e ∷ es) =
    let p : Parted = parted (n - length e.bytes) es in
    cond (leb (length e.bytes) n) (parts (e ∷ p.complete) p.others p.unread) (parts [] (e ∷ es) n)

-- 6.7, 6.9: envelopes of a run are answered with the segment that makes them whole, the first of each from the front of the reassembly buffer; so many bytes are pending before it
abbrev pub run_answered : {form : Form} {segments : List (List ℕ)} {payloads : List ℕ} → Run form segments payloads → ℕ → ℕ → List Message → List (Dated Said)
run_answered no_segment taken pending es = []
run_answered (one_segment {bytes = bytes} {payload = payload} g run) taken pending es =
    let p : Parted = parted (pending + length payload) es in
    answered (taken + length bytes) reassembly_buffer 0 p.complete ++ run_answered run (taken + length bytes) p.unread p.others

-- ---- 10.1

-- a legal stream, with so many bytes before it, and the answers that are to come of it
pub data Legal (form : Form) : ℕ → List ℕ → List (Dated Said) → Type 0 where
  legal_end : {taken : ℕ} → Legal form taken [] []
  legal_alone : {taken : ℕ} {bytes payload stream : List ℕ} {es : List Message} {later : List (Dated Said)} → WholeSegment form bytes true payload → Envelopes payload es
      → Legal form (taken + length bytes) stream later
      → Legal form taken (bytes ++ stream) (answered (taken + length bytes) segment_buffer (header_length form) es ++ later)
  legal_run : {taken : ℕ} {segments : List (List ℕ)} {payloads stream : List ℕ} {es : List Message} {later : List (Dated Said)} (run : Run form segments payloads) → Envelopes payloads es
      → Legal form (taken + length (joined segments)) stream later → Legal form taken (joined segments ++ stream) (run_answered run taken 0 es ++ later)

-- exactly these, and nothing is held
abbrev pub exactly : List (Dated Said) → Meaning
exactly answers = saying answers (holding (held [] []))

-- ---- 10.2

-- 4 and 7 never apply
abbrev pub NeverShort : Meaning → Type 0
NeverShort (says x m) = NeverShort m
NeverShort (refused_after why taken) = (why ≢ segment_too_long) × (why ≢ reassembly_too_short)
NeverShort (holding h) = Unit {0}

-- both lent lengths are in range, and so it is of this stream
pub record Suffices (form : Form) (segment reassembly : ℕ) (stream : List ℕ) : Type 0 where
  pub range : in_range segment reassembly ≡ true
  pub never : NeverShort (meaning (lent form segment reassembly) stream)

-- the same in numbers: each segment fits the segment buffer, and the payloads of each run together the other
abbrev pub Fits : (z : Lent) {taken : ℕ} {stream : List ℕ} {answers : List (Dated Said)} → Legal z.form taken stream answers → Type 0
Fits z legal_end = Unit {0}
Fits z (legal_alone {bytes = bytes} g v later) = (length bytes ≤ z.segment) × Fits z later
Fits z (legal_run {segments = segments} {payloads = payloads} run v later) = AllWithin z.segment segments × (length payloads ≤ z.reassembly) × Fits z later
