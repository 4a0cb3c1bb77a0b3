-- `frame::write::put_header` meets its contract: nine bytes, the numbers of two and of four put into their places. Assumes nothing.
use Prim.Native.Nat.{ℕ}
use mathlib.Core.Path.{◌≡◌, ap, ap₂, ◌∙◌}
use mathlib.Core.List.{List, ◌∷◌, ◌++◌}
use mir.Syntax.{w16}
use mir.Val.{of_z}
use mir.ValLaws.{to_z-of_z}
use Rattle.types.specs.Number.{digits}
use Rattle.types.specs.Write.{put}
use Rattle.frame.specs.Write.{cleared_flags, header_bytes}
use borrow.Author.Rules.{rules}
use Rattle.frame.proofs.write.put_header.Goals as goal

pub returns : goal.returns
unfolding header_bytes digits put
returns c = let a = c.args in
    c.put_bytes.ensures
    ∙ ap (put a.out.now 0)
    (c.put_number-2.ensures
    ∙ ap (λ (l : List ℕ). put l 5 (digits 4 a.n)) c.put_number.ensures
    ∙ ap₂ (λ (f s : ℕ). f ∷ cleared_flags a.header.flags ∷ (digits 2 s ++ (a.header.opcode ∷ digits 4 a.n))) c.first_byte.ensures (let r : c.bits16.result ≡ of_z w16 c.args.header.stream = c.bits16.ensures ∙ ap (of_z w16) (to_z-of_z w16 c.args.header.stream (search rules)) in r))
