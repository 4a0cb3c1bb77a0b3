-- `types::inner::put_list` meets its contract: the strings begin where their count ends. Assumes nothing.
use Prim.Native.Nat.{ℕ}
use mathlib.Core.Path.{sym, ap, ◌∙◌}
use native.Mathlib.Omega.{arith}
use lib.ListN.{length}
use Rattle.types.specs.Number.{digits}
use Rattle.types.specs.Write.{put, cut_by, strings_bytes, list_bytes}
use Rattle.types.proofs.BigEndian.{length_digits}
use Rattle.types.proofs.Put.{put_then}
use Rattle.types.proofs.Cut.{length_cut, list_apart}
use Rattle.types.proofs.inner.put_list.Goals as goal

pub put_number-requires : goal.put_number-requires
unfolding list_bytes
put_number-requires c = let a = c.args in
    omega (arith, list_apart (cut_by a.text.now a.lens.now))

pub put_strings-requires : goal.put_strings-requires
unfolding list_bytes
put_strings-requires c = let a = c.args in
    (c.requires.0, omega (arith, list_apart (cut_by a.text.now a.lens.now)))

pub returns : goal.returns
unfolding list_bytes
returns c = let a = c.args in
    let texts = cut_by a.text.now a.lens.now in
    put_then a.out.now a.at (digits 2 (length texts)) (strings_bytes texts) 2 (length_digits 2 _) (omega (arith, list_apart texts))
    (c.put_number.ensures ∙ ap (λ (k : ℕ). put a.out.now a.at (digits 2 k)) (sym (length_cut a.text.now a.lens.now)))
    c.put_strings.ensures
