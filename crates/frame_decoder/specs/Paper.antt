-- What the values and answers of the code mean. Assumes nothing.
use Rattle.std.specs.Prelude.{List, ℕ}
use Rattle.std.specs.Prelude as std
use Rattle.refusal.specs.Refusal.{paper_refusal}
use Rattle.refusal.specs.declared.Refusal as why
use Rattle.types.specs.Paper.{place_of}
use Rattle.segment.specs.Paper.{paper_form}
use Rattle.frame.specs.Paper.{paper_envelope}
use Rattle.frame_decoder.specs.Reader.{Phase, in_header, in_rest, in_segment, in_reassembly, stopped, Reader, Buffer, segment_buffer, reassembly_buffer, Answer, envelope_at, leftover, more, refused}
use Rattle.frame_decoder.specs.Call.{Outcome, outcome}
use Rattle.frame_decoder.specs.declared.Phase as code-phase
use Rattle.frame_decoder.specs.declared.FrameDecoder as code-decoder
use Rattle.frame_decoder.specs.declared.Buffer as code-buffer
use Rattle.frame_decoder.specs.declared.Answer as code-answer
use Rattle.frame_decoder.specs.declared.Heard.{Heard}
use Rattle.frame_decoder.specs.declared.Step.{Step}

abbrev pub paper_phase : code-phase.Phase → Phase
paper_phase (code-phase.Phase.Header filled) = in_header filled
paper_phase (code-phase.Phase.Rest filled len self) = in_rest filled len self
paper_phase (code-phase.Phase.InSegment len at) = in_segment len at
paper_phase (code-phase.Phase.InReassembly at) = in_reassembly at
paper_phase (code-phase.Phase.Stopped e) = stopped (paper_refusal e)

abbrev pub paper_reader : code-decoder.FrameDecoder → Reader
paper_reader r =
    record {
      form = paper_form r.form;
      segment = r.segment_len;
      reassembly = r.reassembly_len;
      pending = r.pending;
      phase = paper_phase r.phase;
    }

abbrev pub paper_buffer : code-buffer.Buffer → Buffer
paper_buffer code-buffer.Buffer.Segment = segment_buffer
paper_buffer code-buffer.Buffer.Reassembly = reassembly_buffer

abbrev pub paper_answer : std.Result code-answer.Answer why.Refusal → Answer
paper_answer (std.Ok (code-answer.Answer.Envelope buffer place e)) = envelope_at (paper_buffer buffer) (place_of place) (paper_envelope e)
paper_answer (std.Ok (code-answer.Answer.Leftover n)) = leftover n
paper_answer (std.Ok code-answer.Answer.More) = more
paper_answer (std.Err e) = refused (paper_refusal e)

-- what was heard, together with the reader and what the buffers then hold
abbrev pub paper_heard : Heard → code-decoder.FrameDecoder → List ℕ → List ℕ → Outcome
paper_heard h r segment reassembly = outcome (paper_answer h.answer) h.taken (paper_reader r) segment reassembly

abbrev pub paper_step : Step → List ℕ → List ℕ → Outcome
paper_step s segment reassembly = paper_heard s.heard s.reader segment reassembly
