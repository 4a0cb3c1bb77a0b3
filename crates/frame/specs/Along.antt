-- The warnings of an envelope, walked along: docs/RULES.md, 4.12. Assumes nothing.
use Rattle.std.specs.Prelude.{ℕ, ◌≡◌, List, length}
use Rattle.types.specs.Answer.{got}
use Rattle.types.specs.Read.{Place, texts_in}
use Rattle.types.specs.Along.{Walks}
use Rattle.frame.specs.Envelope.{Envelope, warnings_in}

-- walking along them from where the reading says meets their texts, as many as it says, and comes to an end
pub record Walked (s : List ℕ) (e : Envelope) : Type 0 where
  pub places : List Place
  pub end : ℕ
  pub walks : Walks s e.warnings.left e.warnings.at places (got tt end)
  pub many : length places ≡ e.warnings.left
  pub texts : texts_in s places ≡ warnings_in s e
