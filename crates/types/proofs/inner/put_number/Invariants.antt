-- `types::inner::put_number` meets its contract: writing the bytes that are left gives what writing all of them would. Assumes nothing.
use Prim.Native.Nat.{◌≤◌}
use mathlib.Core.Path.{◌≡◌}
use lib.ListN.{length}
use Rattle.types.specs.Number.{digits}
use Rattle.types.specs.Write.{put}
use Rattle.types.proofs.inner.put_number.Given as goal

abbrev pub invariant-loop-i : goal.invariant-loop-i
invariant-loop-i l = (l.i ≤ l.n) × (length l.out ≡ length l.initial.out) × (put l.out l.at (digits l.i l.rest) ≡ put l.initial.out l.at (digits l.n l.x))
