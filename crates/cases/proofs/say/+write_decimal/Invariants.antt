-- `cases::say::write_decimal` ends: a tenth of a number is less. Assumes nothing.
use Rattle.cases.proofs.say.+write_decimal.Given as goal

abbrev pub decreases-write_decimal : goal.decreases-write_decimal
decreases-write_decimal g l = l.n
