-- Where the parts of an envelope end: within it. Assumes nothing.
use Prim.Native.Nat.{ℕ, ◌≤◌}
use mathlib.Core.Path.{◌≡◌, subst}
use mathlib.Core.Bool.{Bool, true, false, cond}
use mathlib.Core.List.{List}
use lib.ListN.{length}
use Rattle.types.specs.Answer.{got}
use Rattle.types.specs.Read.{Strings, strings, string_list_at}
use Rattle.types.proofs.Found.{got_next}
use Rattle.types.proofs.Steady.{steady_string_list}
use Rattle.frame.specs.Header.{Header, has_warnings}
use Rattle.frame.specs.Envelope.{warnings_at}

pub warnings_end : (s : List ℕ) (h : Header) (at : ℕ) → at ≤ length s → {ws : Strings} {next : ℕ} → warnings_at s h at ≡ got ws next → next ≤ length s
unfolding warnings_at
warnings_end s h at l {ws} {next} e = go (has_warnings h) e
  where
    go : (t : Bool) → cond t (string_list_at s at) (got (strings 0 at) at) ≡ got ws next → next ≤ length s
    go true e = steady_string_list.bounded s at e
    go false e = subst (λ (k : ℕ). k ≤ length s) (got_next e) l
