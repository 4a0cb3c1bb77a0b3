-- `frame::write::write_envelope` meets its contract: the checks in their order, and then the room. Assumes nothing.
use Prim.Native.Nat.{ℕ, ◌≤◌}
use mathlib.Core.Path.{◌≡◌, sym, ◌∙◌, subst}
use mathlib.Core.Bool.{true}
use native.Mathlib.Omega.{arith}
use lib.ListN.{length}
use Rattle.std.proofs.lemmas.Result.{err_from_is_err_and}
use Rattle.types.specs.Write.{fine}
use Rattle.types.proofs.Put.{wrote_against}
use Rattle.frame.specs.Header.{Header}
use Rattle.frame.specs.Write.{Content, head_fits, warnings_check, max_body}
use Rattle.frame.specs.Private.Inside.{Planned, capped}
use Rattle.frame.specs.Paper.{paper_header, paper_content}
use Rattle.frame.proofs.Capped.{capped_within}
use Rattle.frame.proofs.Checked.{given_size, warnings_unfit, all_fit}
use Rattle.frame.proofs.write.write_envelope.Goals as goal

-- all checks have passed
planned : (h : Header) (g : Content) {size : ℕ} → size ≡ capped (given_size h g) → size ≤ max_body → head_fits h (length g.id) ≡ true → warnings_check h g.text g.lens ≡ fine
    → Planned h g size
planned h g e small head checked =
    let within = capped_within (given_size h g) e small in
    subst (λ (k : ℕ). Planned h g k) (sym within.1) (all_fit h g head within.0 checked)

pub returns-in_err-check_warnings : goal.returns-in_err-check_warnings
returns-in_err-check_warnings c =
    let size = given_size (paper_header c.args.header) (paper_content c.args.content) in
    let p = err_from_is_err_and c.from_residual.result c.from_residual.ensures.1 in
    rw (p.1, p.2)
    (wrote_against (warnings_unfit _ _ (sym c.head_fits.ensures ∙ c.if-not-head_fits.false) (capped_within size c.tail_size-tail.ensures (omega arith)).0 (sym c.in_err-check_warnings.ensures)))

pub put_envelope-requires : goal.put_envelope-requires
put_envelope-requires c =
    planned (paper_header c.args.header) (paper_content c.args.content)
    c.tail_size-tail.ensures (omega arith) (sym c.head_fits.ensures ∙ c.if-not-head_fits.false) (sym c.in_ok-check_warnings.ensures)
