-- Streams that the writers of this library wrote, call by call: docs/RULES.md, 7.5, section 8 and 11.1. Assumes nothing.
use Rattle.std.specs.Prelude.{ℕ, ◌≤◌, ◌≡◌, List, [], ◌∷◌, ◌++◌, length, take}
use Rattle.std.specs.Int.{w16}
use Rattle.std.proofs.Common.{SFits}
use Rattle.basis.specs.Lists.{joined, AllWithin}
use Rattle.basis.specs.Machine.{Dated}
use Rattle.types.specs.Answer.{got}
use Rattle.types.specs.Write.{Wrote}
use Rattle.segment.specs.Header.{Form}
use Rattle.frame.specs.Header.{Header}
use Rattle.frame.specs.Envelope.{Envelope, id_in, body_in, warnings_in}
use Rattle.frame.specs.Write.{Content, id_part, envelope_bytes, envelope_check, cleared, texts_part}
use Rattle.frame_encoder.specs.Writer.{Writer, fresh, wrote, done, finish}
use Rattle.frame_encoder.specs.Runs.{Added, Split}
use Rattle.stream.specs.Meaning.{Lent, Said, envelope_of, leftover_of}

-- the fields of an envelope that were given to the envelope writer
pub record Given : Type 0 where
  pub header : Header
  pub content : Content

-- the writer accepted them, and what it wrote are these bytes; the stream number has the 16 bits of its type
pub record Written (g : Given) (bytes : List ℕ) : Type 0 where
  pub out : List ℕ
  pub left : List ℕ
  pub size : ℕ
  pub number : SFits w16 g.header.stream
  pub accepted : Wrote (envelope_check g.header g.content) out 0 (envelope_bytes g.header g.content) (got tt size) left
  pub is : bytes ≡ take size left

pub data WrittenAll : List Given → List (List ℕ) → Type 0 where
  none_written : WrittenAll [] []
  one_written : {g : Given} {bytes : List ℕ} {gs : List Given} {others : List (List ℕ)} → Written g bytes → WrittenAll gs others → WrittenAll (g ∷ gs) (bytes ∷ others)

-- what went out, and the fields of the envelopes given for it, in order
pub data Sends (form : Form) : List ℕ → List Given → Type 0 where
  nothing_sent : Sends form [] []
  -- envelopes added one after the other to a fresh writer, which is then finished
  sends_packed : {w v : Writer} {gs later : List Given} {envelopes : List (List ℕ)} {out mid end others : List ℕ} {size taken : ℕ} → WrittenAll gs envelopes → Added (fresh form) out envelopes w mid
      → finish w mid ≡ done v (wrote size taken) end → Sends form others later → Sends form (take size end ++ others) (gs ++ later)
  -- one envelope in pieces
  sends_pieces : {g : Given} {later : List Given} {envelope others : List ℕ} {segments : List (List ℕ)} → Written g envelope → Split form envelope segments → Sends form others later
      → Sends form (joined segments ++ others) (g ∷ later)

-- ---- sizes that are enough for it

-- the segment buffer for each segment, and the reassembly buffer for each envelope that goes out in pieces
abbrev pub SendsFit : (z : Lent) {bytes : List ℕ} {gs : List Given} → Sends z.form bytes gs → Type 0
SendsFit z nothing_sent = Unit {0}
SendsFit z (sends_packed {size = size} ws added finished later) = (size ≤ z.segment) × SendsFit z later
SendsFit z (sends_pieces {envelope = envelope} {segments = segments} w ps later) = AllWithin z.segment segments × (length envelope ≤ z.reassembly) × SendsFit z later

-- ---- what comes back

-- an envelope's bytes and its reading, and the fields that were given for it
pub record Back (bytes : List ℕ) (v : Envelope) (g : Given) : Type 0 where
  pub bytes_are : bytes ≡ envelope_bytes g.header g.content
  pub header : v.header ≡ cleared g.header
  pub id : id_in bytes v ≡ id_part g.header g.content.id
  pub warnings : warnings_in bytes v ≡ texts_part g.header g.content
  pub body : body_in bytes v ≡ g.content.body

abbrev pub SaidBack : Said → Given → Type 0
SaidBack (envelope_of buffer at bytes v) g = Back bytes v g
SaidBack (leftover_of n) g = ⊥

-- each of the given, in order, and nothing else
abbrev pub AllBack : List (Dated Said) → List Given → Type 0
AllBack [] [] = Unit {0}
AllBack [] (g ∷ gs) = ⊥
AllBack (x ∷ answers) [] = ⊥
AllBack (x ∷ answers) (g ∷ gs) = SaidBack x.what g × AllBack answers gs
