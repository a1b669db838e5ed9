-- Laws of rounding: the bound of what it gives, and what an answer of 0 gives.
use Rattle.std.specs.Prelude.{◌≡◌, ℕ, true, List, [], ◌∷◌, map, length, refl}
use Rattle.std.proofs.Common.{arith, eqb-true, lt-ltb}
use Rattle.questions.specs.Answers.{earliest, all_below}
use Rattle.questions.specs.Laws.Answers.{all_yes}
use Rattle.rounding.specs.Rounding.{round, round_questions}

pub round_below : (x : List ℕ) → all_below 1024 (map round x) ≡ true
unfolding all_below
round_below [] = refl
round_below (y ∷ x) = rw (lt-ltb (round y) 1024 (omega arith)) (round_below x)

pub round_lengths : (x out : List ℕ) {r : ℕ} → r ≡ earliest (round_questions x (length out)) → r ≡ 0 → length out ≡ length x
round_lengths x out e z = let y = all_yes (round_questions x (length out)) refl e z in omega (arith, eqb-true)
