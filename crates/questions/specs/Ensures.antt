-- What an inner function gives.
use Rattle.std.specs.Prelude.{ℕ, Bool, ◌≡◌}
use Rattle.questions.specs.Answers.{ask}

-- r is what one question gives. As a record it shows the test, the number and what the later questions give to a proof that cites it
pub record Asks (yes : Bool) (number rest r : ℕ) : Type 0 where
  pub is : r ≡ ask yes number rest
