-- The refusals, and the number of each: docs/RULES.md, section 9. Assumes nothing.
use Rattle.std.specs.Prelude.{ℕ, cond, List, [], ◌∷◌, eqb}
use Rattle.std.specs.Prelude as std
use Rattle.std.proofs.Math.Option.{Option, none, some}
use Rattle.refusal.specs.declared.Refusal as code

-- Definitions hand a refusal on as a value; only where it is shown does it become a number.
pub data Refusal : Type 0 where
  inadmissible : Refusal
  header_check_differs : Refusal
  payload_compressed : Refusal
  segment_too_long : Refusal
  payload_check_differs : Refusal
  unexpected_self_contained : Refusal
  reassembly_too_short : Refusal
  negative_length : Refusal
  unknown_version : Refusal
  unknown_opcode : Refusal
  tracing_id_cut_short : Refusal
  past_end : Refusal
  not_utf8 : Refusal
  output_too_short : Refusal
  not_writable : Refusal
  envelope_does_not_fit : Refusal
  segment_not_empty : Refusal

abbrev pub refusal_number : Refusal → ℕ
refusal_number inadmissible = 1
refusal_number header_check_differs = 2
refusal_number payload_compressed = 3
refusal_number segment_too_long = 4
refusal_number payload_check_differs = 5
refusal_number unexpected_self_contained = 6
refusal_number reassembly_too_short = 7
refusal_number negative_length = 8
refusal_number unknown_version = 9
refusal_number unknown_opcode = 10
refusal_number tracing_id_cut_short = 11
refusal_number past_end = 12
refusal_number not_utf8 = 13
refusal_number output_too_short = 14
refusal_number not_writable = 15
refusal_number envelope_does_not_fit = 16
refusal_number segment_not_empty = 17

-- ---- which refusal a number stands for, if any

abbrev pub refusals : List Refusal
refusals =
    inadmissible ∷ header_check_differs ∷ payload_compressed ∷ segment_too_long ∷ payload_check_differs ∷ unexpected_self_contained
    ∷ reassembly_too_short ∷ negative_length ∷ unknown_version ∷ unknown_opcode ∷ tracing_id_cut_short ∷ past_end
    ∷ not_utf8 ∷ output_too_short ∷ not_writable ∷ envelope_does_not_fit ∷ segment_not_empty ∷ []

abbrev pub among_of : ℕ → List Refusal → Option Refusal
among_of n [] = none
among_of n (e ∷ es) = cond (eqb n (refusal_number e)) (some e) (among_of n es)

unfoldable pub refusal_of : ℕ → Option Refusal
refusal_of n = among_of n refusals

-- ---- what the values of the code mean

abbrev pub paper_refusal : code.Refusal → Refusal
paper_refusal code.Refusal.Inadmissible = inadmissible
paper_refusal code.Refusal.HeaderCheckDiffers = header_check_differs
paper_refusal code.Refusal.PayloadCompressed = payload_compressed
paper_refusal code.Refusal.SegmentTooLong = segment_too_long
paper_refusal code.Refusal.PayloadCheckDiffers = payload_check_differs
paper_refusal code.Refusal.UnexpectedSelfContained = unexpected_self_contained
paper_refusal code.Refusal.ReassemblyTooShort = reassembly_too_short
paper_refusal code.Refusal.NegativeLength = negative_length
paper_refusal code.Refusal.UnknownVersion = unknown_version
paper_refusal code.Refusal.UnknownOpcode = unknown_opcode
paper_refusal code.Refusal.TracingIdCutShort = tracing_id_cut_short
paper_refusal code.Refusal.PastEnd = past_end
paper_refusal code.Refusal.NotUtf8 = not_utf8
paper_refusal code.Refusal.OutputTooShort = output_too_short
paper_refusal code.Refusal.NotWritable = not_writable
paper_refusal code.Refusal.EnvelopeDoesNotFit = envelope_does_not_fit
paper_refusal code.Refusal.SegmentNotEmpty = segment_not_empty

abbrev pub number_of : code.Refusal → ℕ
number_of e = refusal_number (paper_refusal e)

abbrev pub paper_numbered : std.Option code.Refusal → Option Refusal
paper_numbered (std.Some e) = some (paper_refusal e)
paper_numbered std.None = none
