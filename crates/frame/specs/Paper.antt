-- What each case of an answer means, and each value that is handed in. Assumes nothing.
use Rattle.std.specs.Prelude.{ℕ, Bool, true, false}
use Rattle.std.specs.Prelude as std
use Rattle.refusal.specs.Refusal.{Refusal, paper_refusal}
use Rattle.refusal.specs.declared.Refusal as why
use Rattle.types.specs.Paper.{place_of, strings_of}
use Rattle.frame.specs.Header.{Header}
use Rattle.basis.specs.Front.{Front, incomplete, refuses, whole}
use Rattle.frame.specs.Envelope.{Envelope}
use Rattle.frame.specs.Write.{Content, content}
use Rattle.frame.specs.declared.Direction.{Direction}
use Rattle.frame.specs.declared.Header as code-header
use Rattle.frame.specs.declared.Content as code-content
use Rattle.frame.specs.declared.Envelope as code-envelope

abbrev pub is_response : Direction → Bool
is_response Direction.Request = false
is_response Direction.Response = true

abbrev pub paper_header : code-header.Header → Header
paper_header h = record { version = h.version; response = is_response h.direction; flags = h.flags; stream = h.stream; opcode = h.opcode }

abbrev pub paper_content : code-content.Content → Content
paper_content c = content c.id.now c.text.now c.lens.now c.body.now

abbrev pub paper_envelope : code-envelope.Envelope → Envelope
paper_envelope e =
    record {
      size = e.size;
      header = paper_header e.header;
      traced = e.traced;
      warnings = strings_of e.warnings;
      body = place_of e.body;
    }

-- what stands at the front of some bytes, by what it means: none where it is not complete
abbrev pub paper_front : {A B : Type 0} → (A → B) → std.Result (std.Option A) why.Refusal → Front Refusal B
paper_front meaning (std.Ok std.None) = incomplete
paper_front meaning (std.Ok (std.Some x)) = whole (meaning x)
paper_front meaning (std.Err e) = refuses (paper_refusal e)

abbrev pub paper_size : std.Result (std.Option ℕ) why.Refusal → Front Refusal ℕ
paper_size = paper_front (λ n. n)

abbrev pub paper_reading : std.Result (std.Option code-envelope.Envelope) why.Refusal → Front Refusal Envelope
paper_reading = paper_front paper_envelope
