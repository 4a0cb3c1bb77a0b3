-- `frame::read::envelope_size` meets its contract: each test is that of one case. Assumes nothing.
use mathlib.Core.Path.{sym, ap, ◌∙◌}
use Prim.Native.Nat.{ℕ}
use native.Mathlib.Omega.{arith}
use mir.Syntax.{w32}
use mir.Val.{to_z}
use Rattle.types.specs.Read.{natural}
use Rattle.types.proofs.Reading.{natural_some}
use Rattle.frame.specs.Envelope.{declared}
use Rattle.frame.specs.Header.{header_of}
use Rattle.frame.proofs.Cases.{unknown, fits, size_is}
use Rattle.frame.proofs.read.envelope_size.Goals as goal

pub returns-then-not-known_version : goal.returns-then-not-known_version
unfolding declared header_of
returns-then-not-known_version c = let known = ap (λ (x : ℕ). natural (to_z w32 x)) (sym c.read_number-declared.ensures.0) ∙ natural_some w32 c.read_number-declared.result c.if-declared-ge2147483648.false in
    sym (size_is _ (unknown known (omega arith) (sym c.known_version.ensures ∙ c.if-not-known_version.true)))

pub returns : goal.returns
unfolding declared header_of
returns c = let known = ap (λ (x : ℕ). natural (to_z w32 x)) (sym c.read_number-declared.ensures.0) ∙ natural_some w32 c.read_number-declared.result c.if-declared-ge2147483648.false in
    sym (size_is _ (fits known (omega arith) (sym c.known_version.ensures ∙ c.if-not-known_version.false)))
