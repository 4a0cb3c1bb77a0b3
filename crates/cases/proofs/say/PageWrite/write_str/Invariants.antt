-- `cases::say::Page::write_str` is safe: the count stays within the page. Assumes nothing.
use Rattle.std.proofs.Common.{◌≤◌}
use Rattle.cases.specs.declared.say.TheConstants.{PAGE_LEN}
use Rattle.cases.proofs.say.PageWrite.write_str.Given as goal

abbrev pub invariant-loop-byte : goal.invariant-loop-byte
invariant-loop-byte l = l.filled ≤ PAGE_LEN
