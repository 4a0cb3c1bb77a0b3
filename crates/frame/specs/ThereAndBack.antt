-- What was written is read back, and what was read is written again: docs/RULES.md, section 11. Assumes nothing.
use Rattle.std.specs.Prelude.{ℕ, ◌+◌, ◌%◌, ◌≤◌, ◌<◌, ◌≡◌, true, List, length, take, get_or}
use Rattle.basis.specs.Front.{whole}
use Rattle.types.specs.Write.{fine, joined, lengths_of}
use Rattle.frame.specs.Header.{Header, header_length, flag}
use Rattle.frame.specs.Envelope.{Envelope, envelope, id_in, body_in, warnings_in}
use Rattle.frame.specs.Write.{Content, content, id_part, envelope_bytes, max_body, envelope_check, cleared, texts_part}

-- ---- 11.1

-- what bytes that begin with the envelope are read as
pub record ReadBack (s : List ℕ) (h : Header) (c : Content) : Type 0 where
  pub e : Envelope
  pub reads : envelope s ≡ whole e
  pub size : e.size ≡ length (envelope_bytes h c)
  pub header : e.header ≡ cleared h
  pub id : id_in s e ≡ id_part h c.id
  pub warnings : warnings_in s e ≡ texts_part h c
  pub body : body_in s e ≡ c.body

-- ---- 11.2

-- the flag byte has none of 01, 20, 40 and 80; it is no request with 08; and its declared length is not over the largest that is written
pub record Premises (s : List ℕ) (e : Envelope) : Type 0 where
  pub even : get_or s 1 0 % 2 ≡ 0
  pub low : get_or s 1 0 < 32
  pub response : flag 8 (get_or s 1 0) ≡ true → e.header.response ≡ true
  pub small : e.size ≤ header_length + max_body

-- what was read, as it is given to the writer
unfoldable pub content_of : List ℕ → Envelope → Content
content_of s e = content (id_in s e) (joined (warnings_in s e)) (lengths_of (warnings_in s e)) (body_in s e)

-- what the writer is given says that nothing speaks against it, and its bytes are those of the envelope
pub record WrittenAgain (s : List ℕ) (e : Envelope) : Type 0 where
  pub check : envelope_check e.header (content_of s e) ≡ fine
  pub bytes : envelope_bytes e.header (content_of s e) ≡ take e.size s
