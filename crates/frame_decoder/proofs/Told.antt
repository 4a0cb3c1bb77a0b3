-- What a state or an answer means says the state or the answer. Assumes nothing.
use Prim.Native.Nat.{ℕ}
use mathlib.Core.Path.{◌≡◌, refl, sym, ap, ap₂, ◌∙◌}
use mathlib.Core.List.{List}
use Rattle.basis.proofs.Determined.{Tells}
use Rattle.refusal.proofs.Numbers.{case_of, case_of_paper}
use Rattle.types.proofs.Told.{code_place}
use Rattle.segment.proofs.Told.{form_told}
use Rattle.frame.proofs.Told.{envelope_told}
use Rattle.frame_decoder.specs.Reader.{in_header, in_rest, in_segment, in_reassembly, stopped, segment_buffer, reassembly_buffer, envelope_at, leftover, more, refused}
use Rattle.std.specs.Prelude as std
use Rattle.refusal.specs.declared.Refusal as why
use Rattle.frame_decoder.specs.Reader as paper
use Rattle.frame_decoder.specs.Call.{Outcome}
use Rattle.frame_decoder.specs.Paper.{paper_phase, paper_reader, paper_buffer, paper_answer, paper_heard, paper_step}
use Rattle.frame_decoder.specs.declared.Phase.{Phase}
use Rattle.frame_decoder.specs.declared.FrameDecoder.{FrameDecoder}
use Rattle.frame_decoder.specs.declared.Buffer.{Buffer}
use Rattle.frame_decoder.specs.declared.Answer.{Answer}
use Rattle.frame_decoder.specs.declared.Heard.{Heard}
use Rattle.frame_decoder.specs.declared.Step.{Step}

phase_told : Tells paper_phase
phase_told = record {
  back = elim [
    | in_header n ↦ Phase.Header n
    | in_rest n len self ↦ Phase.Rest n len self
    | in_segment len at ↦ Phase.InSegment len at
    | in_reassembly at ↦ Phase.InReassembly at
    | stopped why ↦ Phase.Stopped (case_of why)
  ];
  is = elim [
    | Phase.Header n ↦ refl
    | Phase.Rest n len self ↦ refl
    | Phase.InSegment len at ↦ refl
    | Phase.InReassembly at ↦ refl
    | Phase.Stopped e ↦ ap Phase.Stopped (case_of_paper e)
  ];
}

pub reader_told : Tells paper_reader
reader_told = record {
  back = λ r. record { form = form_told.back r.form; segment_len = r.segment; reassembly_len = r.reassembly; pending = r.pending; phase = phase_told.back r.phase };
  is = λ r.
      ap₂ (λ f q. record { form = f; segment_len = r.segment_len; reassembly_len = r.reassembly_len; pending = r.pending; phase = q }) (form_told.is r.form) (phase_told.is r.phase);
}

buffer_told : Tells paper_buffer
buffer_told = record {
  back = elim [ segment_buffer ↦ Buffer.Segment | reassembly_buffer ↦ Buffer.Reassembly ];
  is = elim [ Buffer.Segment ↦ refl | Buffer.Reassembly ↦ refl ];
}

answer_back : paper.Answer → std.Result Answer why.Refusal
answer_back (envelope_at b p e) = std.Ok (Answer.Envelope (buffer_told.back b) (code_place p) (envelope_told.back e))
answer_back (leftover n) = std.Ok (Answer.Leftover n)
answer_back more = std.Ok Answer.More
answer_back (refused why) = std.Err (case_of why)

answer_is : (a : std.Result Answer why.Refusal) → answer_back (paper_answer a) ≡ a
unfolding answer_back
answer_is (std.Ok (Answer.Envelope b p e)) = ap₂ (λ x y. std.Ok (Answer.Envelope x p y)) (buffer_told.is b) (envelope_told.is e)
answer_is (std.Ok (Answer.Leftover n)) = refl
answer_is (std.Ok Answer.More) = refl
answer_is (std.Err e) = ap std.Err (case_of_paper e)

answer_told : Tells paper_answer
answer_told = record { back = answer_back; is = answer_is }

-- ---- an answer with the reader and what the buffers then hold

abbrev pub Lent : Type 0
Lent = (FrameDecoder × Heard) × (List ℕ × List ℕ)

lent_from : Outcome → Lent
lent_from o = ((reader_told.back o.reader, record { answer = answer_told.back o.answer; taken = o.taken }), (o.segment, o.reassembly))

lent_is : (h : Heard) (r : FrameDecoder) (seg re : List ℕ) → ◌≡◌ {A = Lent} (lent_from (paper_heard h r seg re)) ((r, h), (seg, re))
unfolding lent_from
lent_is h r seg re = ap₂ (λ (x : FrameDecoder) (a : std.Result Answer why.Refusal). ((x, record { answer = a; taken = h.taken }), (seg, re))) (reader_told.is r) (answer_told.is h.answer)

pub lent_apart : (g h : Heard) (r s : FrameDecoder) (seg re seg' re' : List ℕ) → paper_heard g r seg re ≡ paper_heard h s seg' re' → ◌≡◌ {A = Lent} ((r, g), (seg, re)) ((s, h), (seg', re'))
lent_apart g h r s seg re seg' re' e = sym (lent_is g r seg re) ∙ ap lent_from e ∙ lent_is h s seg' re'

-- the step, and both buffers
abbrev pub Seen : Type 0
Seen = Step × (List ℕ × List ℕ)

pub step_apart : (r s : Step) (seg re seg' re' : List ℕ) → paper_step r seg re ≡ paper_step s seg' re' → ◌≡◌ {A = Seen} (r, (seg, re)) (s, (seg', re'))
step_apart r s seg re seg' re' e = ap stepped (lent_apart r.heard s.heard r.reader s.reader seg re seg' re' e)
  where
    stepped : Lent → Seen
    stepped l = (record { reader = l.0.0; heard = l.0.1 }, l.1)
