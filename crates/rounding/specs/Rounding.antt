-- Document 01, "Ring and sampling": rounding, and what its call asks.
use Rattle.std.specs.Prelude.{ℕ, ◌+◌, ◌/◌, ◌%◌, List, [], ◌∷◌, length, ◌==◌}
use Rattle.questions.specs.Answers.{Question, all_below}

-- rounding of x: (x + 4) modulo 8192, divided by 8, fraction dropped
abbrev pub round : ℕ → ℕ
round x = (x + 4) % 8192 / 8

-- what rounding x into an output of the given length asks: Q7, Q8, Q9
abbrev pub round_questions : List ℕ → ℕ → List Question
round_questions x output = ((length x == 256), 7) ∷ (all_below 8192 x, 8) ∷ ((output == 256), 9) ∷ []
