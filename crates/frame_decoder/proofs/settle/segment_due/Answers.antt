-- `frame_decoder::settle::segment_due` meets its contract: by what the segment is read as, and then by whether it is self-contained. Assumes nothing.
use Prim.Native.Nat.{ℕ, ◌≤◌}
use mathlib.Core.Path.{◌≡◌, sym, ap, ◌∙◌}
use mathlib.Core.Bool.{Bool, true}
use mathlib.Core.List.{List}
use native.Mathlib.Omega.{arith}
use lib.ListN.{length, take}
use Rattle.types.specs.Number.{part}
use Rattle.types.proofs.BigEndian.{part_of}
use Rattle.segment.specs.Header.{header, header_length}
use Rattle.segment.specs.Segment.{behind, payload_at}
use Rattle.segment.specs.Paper.{paper_read_payload}
use Rattle.std.specs.Prelude as std
use Rattle.refusal.specs.declared.Refusal as why
use Rattle.frame_decoder.specs.Reader.{Reader}
use Rattle.frame_decoder.specs.Settle.{read_joined, received, segment_due}
use Rattle.frame_decoder.specs.Paper.{paper_reader}
use Rattle.frame_decoder.proofs.Parts.{whole_payload}
use Rattle.frame_decoder.proofs.settle.segment_due.Goals as goal

-- as what the segment is read, and what is then due
module _ (r : Reader) (s d : List ℕ) (filled len : ℕ) (self : Bool) {got read : std.Result Bool why.Refusal}
    (said : paper_read_payload got (behind r.form (take filled s) (header len 0 self)) ≡ payload_at r.form (take filled s) (header len 0 self)) (e : got ≡ read) where
  is : payload_at r.form (take filled s) (header len 0 self) ≡ paper_read_payload read (behind r.form (take filled s) (header len 0 self))
  is = sym said ∙ ap (λ (x : std.Result Bool why.Refusal). paper_read_payload x (behind r.form (take filled s) (header len 0 self))) e

  due_then :
      segment_due r s d len (paper_read_payload read (behind r.form (take filled s) (header len 0 self)))
      ≡ segment_due r s d len (payload_at r.form (take filled s) (header len 0 self))
  due_then = sym (ap (segment_due r s d len) is)

-- it is whole, and self-contained or not
whole_then : (r : Reader) (s d : List ℕ) (filled len : ℕ) (self : Bool) → filled ≤ length s → {got : std.Result Bool why.Refusal}
    → paper_read_payload got (behind r.form (take filled s) (header len 0 self)) ≡ payload_at r.form (take filled s) (header len 0 self)
    → got ≡ std.Ok true → {t : Bool} → self ≡ t
    → received r s d len t (part s (header_length r.form) len) ≡ segment_due r s d len (payload_at r.form (take filled s) (header len 0 self))
unfolding segment_due
whole_then r s d filled len self room said e t =
    ap (λ (self : Bool). received r s d len self (part s (header_length r.form) len)) (sym t)
    ∙ ap (received r s d len self) (sym (whole_payload r.form s filled (header len 0 self) room (is r s d filled len self said e)))
    ∙ due_then r s d filled len self said e

pub returns-in-Ok-true-2 : goal.returns-in-Ok-true-2
unfolding segment_due
returns-in-Ok-true-2 c = let a = c.args in
    c.append.ensures
    ∙ ap (read_joined (paper_reader a.m) a.reassembly.now) (part_of a.segment.now c.header_len-start.result a.len ∙ ap (λ (k : ℕ). part a.segment.now k a.len) c.header_len-start.ensures)
    ∙ whole_then (paper_reader a.m) a.segment.now a.reassembly.now a.filled a.len a.self_contained (omega (arith, c.requires.1, c.requires.2)) c.read_payload.ensures (c.in-Ok-true.is ∙ ap std.Ok c.in-Ok-true.field-0-test) c.if-self_contained.false
