-- The contract of `collect` leaves nothing open: the answer, and what all four lent buffers then hold. Assumes nothing.
use Prim.Native.Nat.{ℕ}
use mathlib.Core.Path.{◌≡◌, refl, sym, ap, ap₂, ◌∙◌}
use mathlib.Core.List.{List}
use Rattle.basis.specs.Determined.{DeterminedAs}
use Rattle.basis.proofs.Machine.{one_way}
use Rattle.refusal.proofs.Numbers.{case_of, case_of_paper}
use Rattle.segment.specs.Header.{Form}
use Rattle.stream.specs.Caller.{State}
use Rattle.stream.specs.Collect.{Tape, Ending, refused_end, held_end, HeardAs}
use Rattle.stream.specs.Paper.{tape_of, paper_end}
use Rattle.stream.specs.declared.End.{End}
use Rattle.stream.specs.declared.Collected.{Collected}
use Rattle.stream.proofs.collect.Reads as collects

-- ---- what an end means says the end

end_from : Ending → End
end_from (refused_end why taken) = End.Refused (case_of why) taken
end_from (held_end n segment k pending) = End.Held n k

end_is : (e : End) (seg re : List ℕ) → end_from (paper_end e seg re) ≡ e
unfolding end_from
end_is (End.Refused e taken) seg re = ap (λ x. End.Refused x taken) (case_of_paper e)
end_is (End.Held n k) seg re = refl

-- ---- the answer, the two buffers and the two outputs

abbrev Seen : Type 0
Seen = Collected × (List ℕ × (List ℕ × (List ℕ × List ℕ)))

module _ {f : Form} {segment reassembly stream envelopes marks : List ℕ} where
  apart : (r s : Collected) (seg re out log seg' re' out' log' : List ℕ)
      → HeardAs f segment reassembly stream envelopes marks (tape_of r.notes out log) (paper_end r.end seg re) seg re
      → HeardAs f segment reassembly stream envelopes marks (tape_of s.notes out' log') (paper_end s.end seg' re') seg' re'
      → ◌≡◌ {A = Seen} (r, (seg, (re, (out, log)))) (s, (seg', (re', (out', log'))))
  apart r s seg re out log seg' re' out' log' p q =
      let t : tape_of r.notes out log ≡ tape_of s.notes out' log' = p.tells ∙ sym q.tells in
      let e : r.end ≡ s.end = sym (end_is r.end seg re) ∙ ap end_from (p.ends ∙ sym q.ends) ∙ end_is s.end seg' re' in
      let l = (one_way p.leaves.uses q.leaves.uses).leaves in
      ap₂ (λ (x : Tape) (y : End). (record { notes = record { answers = x.answers; bytes = x.bytes; complete = x.complete }; end = y }, (seg, (re, (x.envelopes, x.marks))))) t e
      ∙ ap (λ (x : State). (s, (x.segment, (x.reassembly, (out', log'))))) l

pub collect_determined : DeterminedAs {Seen = Seen} (λ κs r e. (r, (e.1.0.now, (e.1.1.0.now, (e.1.1.1.1.1.0.now, e.1.1.1.1.1.1.0.now))))) collects.Post
collect_determined =
    record {
      same =
          λ κs a r s e f p q. apart r s e.1.0.now e.1.1.0.now e.1.1.1.1.1.0.now e.1.1.1.1.1.1.0.now f.1.0.now f.1.1.0.now
          f.1.1.1.1.1.0.now f.1.1.1.1.1.1.0.now p q;
    }
