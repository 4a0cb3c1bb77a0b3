-- `types::inner::put_strings` meets its contract: writing the strings to come gives what writing all of them would. Assumes nothing.
use Prim.Native.Nat.{◌≤◌, ◌-◌, ◌+◌}
use mathlib.Core.Path.{◌≡◌}
use mathlib.Core.Bool.{true}
use lib.ListN.{length, drop}
use Rattle.types.specs.Write.{put, lengths_fit, cut_by, strings_bytes}
use Rattle.types.proofs.inner.put_strings.Given as goal

abbrev pub invariant-loop-n : goal.invariant-loop-n
invariant-loop-n l =
    (l.from ≤ length l.text)
    × (length l.out ≡ length l.initial.out)
    × (lengths_fit (length l.text - l.from) (drop l.n-index l.lens) ≡ true)
    × (l.to + length (strings_bytes (cut_by (drop l.from l.text) (drop l.n-index l.lens))) ≤ length l.out)
    × (put l.out l.to (strings_bytes (cut_by (drop l.from l.text) (drop l.n-index l.lens))) ≡ put l.initial.out l.at (strings_bytes (cut_by l.text l.lens)))
