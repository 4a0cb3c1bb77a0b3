-- What an example is about, and what the definitions say of it. Assumes nothing.
use Rattle.std.specs.Prelude.{ℕ, Bool, List, take}
use Rattle.basis.specs.Front.{Front, incomplete, refuses, whole, if_whole}
use Rattle.crc.specs.Check24.{crc24}
use Rattle.refusal.specs.Refusal.{Refusal, refusal_number}
use Rattle.segment.specs.Header.{Form, header, header_bytes}
use Rattle.frame.specs.Envelope.{Envelope, envelope, id_in, body_in, warnings_in}

-- an envelope, its tracing id, its warnings and its body
pub record Seen : Type 0 where
  pub envelope : Envelope
  pub id : List ℕ
  pub warnings : List (List ℕ)
  pub body : List ℕ

-- a refusal is shown by its number
abbrev pub numbered : {A : Type 0} → Front Refusal A → Front ℕ A
numbered incomplete = incomplete
numbered (refuses why) = refuses (refusal_number why)
numbered (whole value) = whole value

unfoldable pub seen : List ℕ → Front ℕ Seen
seen s = if_whole (numbered (envelope s)) (λ e. whole (record { envelope = e; id = id_in s e; warnings = warnings_in s e; body = body_in s e }))

pub data Example : Type 0 where
  -- the first bytes, so many, of a header with this payload length
  header_bytes_of : ℕ → Form → ℕ → Bool → Example
  crc24_of : List ℕ → Example
  front_of : List ℕ → Example

pub data Shown : Type 0 where
  begins : List ℕ → Shown
  check : ℕ → Shown
  reads : Front ℕ Seen → Shown

unfoldable pub shown : Example → Shown
shown (header_bytes_of n form payload self) = begins (take n (header_bytes form (header payload 0 self)))
shown (crc24_of s) = check (crc24 s)
shown (front_of s) = reads (seen s)
