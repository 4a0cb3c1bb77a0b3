-- `utf8::is_utf8` meets its contract: what is wanted after the bytes passed, and then the rest, is what is wanted after all.
-- Assumes nothing.
use mathlib.Core.Path.{◌≡◌}
use mathlib.Core.List.{[]}
use lib.ListN.{drop}
use Rattle.utf8.specs.Utf8.{wants, after}
use Rattle.utf8.specs.Private.Waiting.{want_of}
use Rattle.utf8.proofs.is_utf8.Given as goal

abbrev pub invariant-loop-b : goal.invariant-loop-b
invariant-loop-b l = after (wants []) l.bytes ≡ after (want_of l.w) (drop l.b-index l.bytes)
