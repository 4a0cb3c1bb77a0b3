-- What the values and answers of the code mean. Assumes nothing.
use Rattle.std.specs.Prelude.{Bool, true, false, Option, Some, None, Result, Ok, Err}
use Rattle.basis.specs.Front.{Front, incomplete, refuses, whole}
use Rattle.refusal.specs.Refusal.{Refusal, paper_refusal}
use Rattle.refusal.specs.declared.Refusal as code-refusal
use Rattle.segment.specs.Header.{Form, short, long, Header, header}
use Rattle.segment.specs.declared.Form as code-form
use Rattle.segment.specs.declared.Header as code-header
use Rattle.segment.specs.Segment.{Segment}

abbrev pub paper_form : code-form.Form → Form
paper_form code-form.Form.Short = short
paper_form code-form.Form.Long = long

abbrev pub paper_header : code-header.Header → Header
paper_header h = header h.payload h.uncompressed h.self_contained

abbrev pub paper_read_header : Result (Option code-header.Header) code-refusal.Refusal → Front Refusal Header
paper_read_header (Ok None) = incomplete
paper_read_header (Ok (Some h)) = whole (paper_header h)
paper_read_header (Err e) = refuses (paper_refusal e)

-- together with the segment that stands there
abbrev pub paper_read_payload : Result Bool code-refusal.Refusal → Segment → Front Refusal Segment
paper_read_payload (Ok false) s = incomplete
paper_read_payload (Ok true) s = whole s
paper_read_payload (Err e) s = refuses (paper_refusal e)
