-- `frame::write::put_envelope` meets its contract: its parts are laid one behind the other, where there is room for all. Assumes nothing.
use Prim.Native.Nat.{ℕ, ◌+◌, ◌≤◌}
use mathlib.Core.Path.{◌≡◌, sym, ap, ◌∙◌}
use native.Mathlib.Omega.{arith}
use lib.ListN.{length}
use Rattle.types.proofs.Put.{wrote_none}
use Rattle.frame.specs.Header.{Header}
use Rattle.frame.specs.Write.{Content, id_part, warnings_part, tail_bytes, envelope_bytes}
use Rattle.frame.specs.Paper.{paper_header, paper_content}
use Rattle.frame.proofs.Checked.{fields_fit, tail_length, version_small}
use Rattle.frame.proofs.Laid.{laid, envelope_length, wrote_front}
use Rattle.frame.proofs.write.put_envelope.Goals as goal

-- the parts have room where the whole has
room : (h : Header) (g : Content) {tail out : ℕ} → tail ≡ length (tail_bytes h g) → 0 + (9 + tail) ≤ out
    → 9 + (length (id_part h g.id) + (length (warnings_part h g.text g.lens) + length g.body)) ≤ out
room h g is fits = omega (arith, is, tail_length h g)

long : (h : Header) (g : Content) {tail : ℕ} → tail ≡ length (tail_bytes h g) → length (envelope_bytes h g) ≡ 9 + tail
long h g is = envelope_length h g ∙ ap (λ (k : ℕ). 9 + k) (sym is)

pub overflow_add-size : goal.overflow_add-size
overflow_add-size c = omega (arith, c.requires.is, (fields_fit _ _ c.requires.check).body)

pub returns-then-not-room : goal.returns-then-not-room
returns-then-not-room c = wrote_none _ _ _ _ (long _ _ c.requires.is) (sym c.room.ensures.0 ∙ c.if-not-room.true)

pub put_header-requires : goal.put_header-requires
put_header-requires c = (
  omega (arith, c.room.ensures.1 c.if-not-room.false),
  omega (arith, version_small _ (fields_fit _ _ c.requires.check).version),
)

pub put_id-after_id-requires : goal.put_id-after_id-requires
put_id-after_id-requires c =
    omega (arith, room (paper_header c.args.header) (paper_content c.args.content) c.requires.is (c.room.ensures.1 c.if-not-room.false))

pub put_warnings-start-requires : goal.put_warnings-start-requires
put_warnings-start-requires c = (
  (fields_fit _ _ c.requires.check).warnings,
  omega (arith, c.put_id-after_id.ensures.0, room (paper_header c.args.header) (paper_content c.args.content) c.requires.is (c.room.ensures.1 c.if-not-room.false)),
)

pub put_bytes-requires : goal.put_bytes-requires
put_bytes-requires c = omega (
  arith,
  c.put_id-after_id.ensures.0,
  c.put_warnings-start.ensures.0,
  room (paper_header c.args.header) (paper_content c.args.content) c.requires.is (c.room.ensures.1 c.if-not-room.false),
)

pub returns : goal.returns
returns c = wrote_front _ _ (long _ _ c.requires.is) (sym c.room.ensures.0 ∙ c.if-not-room.false)
    (laid (paper_header c.args.header) (paper_content c.args.content) c.args.out.now c.requires.is (omega (arith, c.room.ensures.1 c.if-not-room.false))
    c.put_header.ensures c.put_id-after_id.ensures.1 c.put_id-after_id.ensures.0 c.put_warnings-start.ensures.1 c.put_warnings-start.ensures.0 c.put_bytes.ensures)
