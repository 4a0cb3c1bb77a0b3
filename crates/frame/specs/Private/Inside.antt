-- What only the contracts of functions inside this crate cite, and proofs. No public promise speaks of it: a reader of the promises need not believe it.
-- What the types inside the crate mean. Assumes nothing.
use Rattle.std.specs.Prelude.{ℕ, ◌+◌, cond, ◌≡◌, leb, length}
use Rattle.std.specs.Prelude as std
use Rattle.basis.specs.Front.{Front, refuses, whole}
use Rattle.refusal.specs.Refusal.{Refusal, paper_refusal}
use Rattle.refusal.specs.declared.Refusal as why
use Rattle.types.specs.Write.{fine}
use Rattle.frame.specs.Header.{Header, has_id, has_warnings}
use Rattle.frame.specs.Write.{Content, tail_bytes, max_body, envelope_check}
use Rattle.frame.specs.declared.Envelope.{Envelope}
use Rattle.frame.specs.Envelope as paper
use Rattle.frame.specs.Paper.{paper_envelope}

-- an envelope whose bytes are there
abbrev pub paper_whole : std.Result Envelope why.Refusal → Front Refusal paper.Envelope
paper_whole (std.Ok e) = whole (paper_envelope e)
paper_whole (std.Err e) = refuses (paper_refusal e)

-- a length, or one more than the largest that is declared where it is over that: sums of it never get large
unfoldable pub capped : ℕ → ℕ
capped n = cond (leb n max_body) n (max_body + 1)

-- how long the bytes behind a header are, by the lengths of what is given
abbrev pub id_size : Header → ℕ → ℕ
id_size h id = cond (has_id h) id 0

abbrev pub warnings_size : Header → ℕ → ℕ → ℕ
warnings_size h text count = cond (has_warnings h) (2 + count + count + text) 0

abbrev pub tail_size : Header → ℕ → ℕ → ℕ → ℕ → ℕ
tail_size h id text count body = warnings_size h text count + id_size h id + body

-- what is known of fields that nothing speaks against, with so many bytes behind the header
pub record Planned (h : Header) (c : Content) (tail : ℕ) : Type 0 where
  pub check : envelope_check h c ≡ fine
  pub is : tail ≡ length (tail_bytes h c)
