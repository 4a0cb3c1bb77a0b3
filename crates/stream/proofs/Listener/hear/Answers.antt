-- `stream::Listener::hear` meets its contract: by what the call answers. Assumes nothing.
use mathlib.Core.Path.{◌≡◌, sym, ap, ◌∙◌}
use native.Mathlib.Omega.{arith}
use mathlib.Core.List.{List}
use Prim.Native.Nat.{ℕ}
use Rattle.frame_decoder.specs.Call.{Outcome, outcome}
use Rattle.frame_decoder.specs.Paper.{paper_answer, paper_reader, paper_heard}
use Rattle.frame_decoder.specs.declared.Answer.{Answer}
use Rattle.frame_decoder.specs.declared.Heard.{Heard}
use Rattle.std.specs.Prelude as std
use Rattle.refusal.specs.declared.Refusal as why
use Rattle.std.proofs.lemmas.Result.{err_from_is_err_and}
use Rattle.frame_decoder.specs.declared.FrameDecoder.{FrameDecoder}
use Rattle.stream.proofs.Turns.{turn_within, envelope_turn, leftover_turn, leftover_small, more_turn, refused_turn}
use Rattle.stream.proofs.Listener.hear.Goals as goal

-- what a call came to, by its answer
comes : (h : Heard) (r : FrameDecoder) {seg re : List ℕ} {o : Outcome} {x : std.Result Answer why.Refusal} → paper_heard h r seg re ≡ o → h.answer ≡ x → o ≡ outcome (paper_answer x) h.taken (paper_reader r) seg re
comes h r {seg} {re} said e = sym said ∙ ap (λ (y : std.Result Answer why.Refusal). outcome (paper_answer y) h.taken (paper_reader r) seg re) e

answers : (h : Heard) (r : FrameDecoder) {seg re : List ℕ} {o : Outcome} {x y : Answer} → paper_heard h r seg re ≡ o → h.answer ≡ std.Ok x → x ≡ y
    → o ≡ outcome (paper_answer (std.Ok y)) h.taken (paper_reader r) seg re
answers h r said e f = comes h r said (e ∙ ap (λ (x : Answer). std.Ok x) f)

pub overflow_add-self : goal.overflow_add-self
overflow_add-self c = record { fits = omega (arith, turn_within c.requires (sym c.consume-heard.ensures)) }

pub overflow_mul-n : goal.overflow_mul-n
overflow_mul-n c = record { fits = omega (arith, leftover_small c.requires (answers c.consume-heard.result c.consume-heard.new.self c.consume-heard.ensures c.in_ok-answer.was c.in-Leftover.is)) }

pub overflow_add-n : goal.overflow_add-n
overflow_add-n c = record { fits = omega (arith, leftover_small c.requires (answers c.consume-heard.result c.consume-heard.new.self c.consume-heard.ensures c.in_ok-answer.was c.in-Leftover.is)) }

pub returns-in-Envelope-clause-turn : goal.returns-in-Envelope-clause-turn
returns-in-Envelope-clause-turn c = envelope_turn c.requires (answers c.consume-heard.result c.consume-heard.new.self c.consume-heard.ensures c.in_ok-answer.was c.in-Envelope.is) c.part-bytes.ensures c.note.ensures.tape

pub returns-in-Leftover-clause-turn : goal.returns-in-Leftover-clause-turn
returns-in-Leftover-clause-turn c = leftover_turn c.requires (answers c.consume-heard.result c.consume-heard.new.self c.consume-heard.ensures c.in_ok-answer.was c.in-Leftover.is) c.note-in-Leftover.ensures.tape

pub returns-in-More-clause-turn : goal.returns-in-More-clause-turn
returns-in-More-clause-turn c = more_turn c.requires (answers c.consume-heard.result c.consume-heard.new.self c.consume-heard.ensures c.in_ok-answer.was c.in-More.is)

pub returns-in_err-answer-clause-turn : goal.returns-in_err-answer-clause-turn
returns-in_err-answer-clause-turn c =
    let p = err_from_is_err_and c.from_residual.result c.from_residual.ensures.1 in
    rw (p.1, p.2) (refused_turn c.requires (comes c.consume-heard.result c.consume-heard.new.self c.consume-heard.ensures c.in_err-answer.was))
