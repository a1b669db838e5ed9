-- What the call promises.
use Rattle.std.specs.Prelude.{ℕ, List, map, length}
use Rattle.questions.specs.Answers.{earliest, Wrote}
use Rattle.rounding.specs.Rounding.{round, round_questions}

-- the promise of `round`: each coefficient of x rounded, into an output that held `old`
abbrev pub Rounded : List ℕ → List ℕ → ℕ → List ℕ → Type 0
Rounded x old = Wrote (earliest (round_questions x (length old))) (map round x) old
