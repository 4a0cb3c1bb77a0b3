-- What an answer means says the answer. Assumes nothing.
use Rattle.std.proofs.Common.{true, false, Some, None, Ok, Err, refl, ap}
use Rattle.basis.specs.Front.{incomplete, refuses, whole}
use Rattle.basis.proofs.Determined.{Tells}
use Rattle.refusal.proofs.Numbers.{case_of, case_of_paper}
use Rattle.segment.specs.Header.{short, long}
use Rattle.segment.specs.Segment.{Segment}
use Rattle.segment.specs.Paper.{paper_form, paper_header, paper_read_header, paper_read_payload}
use Rattle.segment.specs.declared.Form as code-form

pub form_told : Tells paper_form
form_told = record {
  back = elim [ short ↦ code-form.Form.Short | long ↦ code-form.Form.Long ];
  is = elim [ code-form.Form.Short ↦ refl | code-form.Form.Long ↦ refl ];
}

pub header_told : Tells paper_header
header_told = record { back = λ h. record { payload = h.payload; uncompressed = h.uncompressed; self_contained = h.self }; is = λ h. refl }

pub read_header_told : Tells paper_read_header
unfolding header_told
read_header_told = record {
  back = elim [ incomplete ↦ Ok None | refuses why ↦ Err (case_of why) | whole h ↦ Ok (Some (header_told.back h)) ];
  is = elim [ Ok None ↦ refl | Ok (Some h) ↦ refl | Err e ↦ ap Err (case_of_paper e) ];
}

pub read_payload_told : (s : Segment) → Tells (λ r. paper_read_payload r s)
read_payload_told s = record {
  back = elim [ incomplete ↦ Ok false | refuses why ↦ Err (case_of why) | whole g ↦ Ok true ];
  is = elim [ Ok false ↦ refl | Ok true ↦ refl | Err e ↦ ap Err (case_of_paper e) ];
}
