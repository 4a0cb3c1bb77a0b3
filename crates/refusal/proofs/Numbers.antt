-- A number and the refusal that it stands for are turned into each other; a refusal of the code and what it means fix each other. Assumes nothing.
use mathlib.Core.Path.{◌≡◌, refl, sym, ap, ◌∙◌}
use mathlib.Core.Bool.{Bool, true, false, cond}
use mathlib.Core.List.{List, [], ◌∷◌}
use mathlib.Core.Option.{none, some, none-ne-some, some-injective}
use Prim.Native.Nat.{ℕ}
use lib.Dec.{eqb}
use borrow.Author.Tests.{eqb-true, ne_eqb}
use Rattle.basis.proofs.Determined.{Tells}
use Rattle.refusal.specs.declared.Refusal as code
use Rattle.refusal.specs.Refusal.{Refusal, inadmissible, header_check_differs, payload_compressed, segment_too_long, payload_check_differs, unexpected_self_contained, reassembly_too_short, negative_length, unknown_version, unknown_opcode, tracing_id_cut_short, past_end, not_utf8, output_too_short, not_writable, envelope_does_not_fit, segment_not_empty, refusal_number, refusals, among_of, refusal_of, paper_refusal}

pub refusal_of_number : (e : Refusal) → refusal_of (refusal_number e) ≡ some e
unfolding refusal_of
refusal_of_number inadmissible = refl
refusal_of_number header_check_differs = refl
refusal_of_number payload_compressed = refl
refusal_of_number segment_too_long = refl
refusal_of_number payload_check_differs = refl
refusal_of_number unexpected_self_contained = refl
refusal_of_number reassembly_too_short = refl
refusal_of_number negative_length = refl
refusal_of_number unknown_version = refl
refusal_of_number unknown_opcode = refl
refusal_of_number tracing_id_cut_short = refl
refusal_of_number past_end = refl
refusal_of_number not_utf8 = refl
refusal_of_number output_too_short = refl
refusal_of_number not_writable = refl
refusal_of_number envelope_does_not_fit = refl
refusal_of_number segment_not_empty = refl

-- the code's case for each
pub case_of : Refusal → code.Refusal
case_of inadmissible = code.Refusal.Inadmissible
case_of header_check_differs = code.Refusal.HeaderCheckDiffers
case_of payload_compressed = code.Refusal.PayloadCompressed
case_of segment_too_long = code.Refusal.SegmentTooLong
case_of payload_check_differs = code.Refusal.PayloadCheckDiffers
case_of unexpected_self_contained = code.Refusal.UnexpectedSelfContained
case_of reassembly_too_short = code.Refusal.ReassemblyTooShort
case_of negative_length = code.Refusal.NegativeLength
case_of unknown_version = code.Refusal.UnknownVersion
case_of unknown_opcode = code.Refusal.UnknownOpcode
case_of tracing_id_cut_short = code.Refusal.TracingIdCutShort
case_of past_end = code.Refusal.PastEnd
case_of not_utf8 = code.Refusal.NotUtf8
case_of output_too_short = code.Refusal.OutputTooShort
case_of not_writable = code.Refusal.NotWritable
case_of envelope_does_not_fit = code.Refusal.EnvelopeDoesNotFit
case_of segment_not_empty = code.Refusal.SegmentNotEmpty

pub case_of_paper : (e : code.Refusal) → case_of (paper_refusal e) ≡ e
unfolding case_of
case_of_paper code.Refusal.Inadmissible = refl
case_of_paper code.Refusal.HeaderCheckDiffers = refl
case_of_paper code.Refusal.PayloadCompressed = refl
case_of_paper code.Refusal.SegmentTooLong = refl
case_of_paper code.Refusal.PayloadCheckDiffers = refl
case_of_paper code.Refusal.UnexpectedSelfContained = refl
case_of_paper code.Refusal.ReassemblyTooShort = refl
case_of_paper code.Refusal.NegativeLength = refl
case_of_paper code.Refusal.UnknownVersion = refl
case_of_paper code.Refusal.UnknownOpcode = refl
case_of_paper code.Refusal.TracingIdCutShort = refl
case_of_paper code.Refusal.PastEnd = refl
case_of_paper code.Refusal.NotUtf8 = refl
case_of_paper code.Refusal.OutputTooShort = refl
case_of_paper code.Refusal.NotWritable = refl
case_of_paper code.Refusal.EnvelopeDoesNotFit = refl
case_of_paper code.Refusal.SegmentNotEmpty = refl

pub refusal_told : Tells paper_refusal
refusal_told = record { back = case_of; is = case_of_paper }

-- ---- a number that stands for none

-- n is the number of none of them; kept in the order in which a `match` passes its arms
abbrev pub Apart : ℕ → Type 0 → List Refusal → Type 0
Apart n P [] = P
Apart n P (e ∷ es) = Apart n (P × (n ≡ refusal_number e → ⊥)) es

pub apart_none : (n : ℕ) (P : Type 0) (es : List Refusal) → Apart n P es → P × (among_of n es ≡ none)
apart_none n P [] p = (p, refl)
apart_none n P (e ∷ es) p = let i = apart_none n (P × (n ≡ refusal_number e → ⊥)) es p in (i.0.0, ap (λ b. cond b (some e) (among_of n es)) (ne_eqb n (refusal_number e) i.0.1) ∙ i.1)

-- one that stands for a refusal is that one's
pub among_number : (n : ℕ) (es : List Refusal) (e : Refusal) → among_of n es ≡ some e → refusal_number e ≡ n
among_number n [] e p = absurd (none-ne-some e p)
among_number n (f ∷ es) e p = by (eqb n (refusal_number f)) refl p (among_number n es e)
  where
    by : (b : Bool) → eqb n (refusal_number f) ≡ b → cond b (some f) (among_of n es) ≡ some e → (among_of n es ≡ some e → refusal_number e ≡ n) → refusal_number e ≡ n
    by true t p behind = sym (eqb-true n (refusal_number f) t ∙ ap refusal_number (some-injective f e p))
    by false t p behind = behind p

pub number_refusal_of : (n : ℕ) (e : Refusal) → refusal_of n ≡ some e → refusal_number e ≡ n
unfolding refusal_of
number_refusal_of n e p = among_number n refusals e p
