-- The public function's contract leaves nothing open. Assumes nothing.
use Rattle.basis.specs.Determined.{Determined}
use Rattle.basis.proofs.Determined.{by_equation}
use Rattle.utf8.specs.Utf8.{utf8}
use Rattle.utf8.proofs.is_utf8.Reads as tests

pub is_utf8_determined : Determined tests.Post
is_utf8_determined = by_equation (λ κs a. utf8 a.0.now)
