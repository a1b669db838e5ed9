-- The test against a bound, and what it says of each element.
use Rattle.std.specs.Prelude.{ℕ, zero, suc, ◌<◌, ◌≤◌, true, false, List, [], ◌∷◌, ◌≡◌, refl, ltb, length, get_or}
use Rattle.std.proofs.lemmas.Bool.{false≢true}
use Rattle.std.proofs.Common.{sym, ◌∙◌, arith, lt_of_not-le, lt-ltb, le-ltb}
use Rattle.lists.specs.Numbers.{Below}
use Rattle.lists.proofs.Laws.Booleans.{and_false}
use Rattle.questions.specs.Answers.{all_below}

pub all_below_true : (m : ℕ) (s : List ℕ) → Below m s → all_below m s ≡ true
unfolding all_below
all_below_true m [] h = refl
all_below_true m (x ∷ xs) h = simp (lt-ltb x m (h 0 (omega arith)), all_below_true m xs (λ k q. h (suc k) (omega arith)))

pub all_below_false : (m : ℕ) (s : List ℕ) (k : ℕ) → k < length s → m ≤ get_or s k 0 → all_below m s ≡ false
unfolding all_below
all_below_false m [] k q h = absurd (omega arith)
all_below_false m (x ∷ xs) zero q h = simp (le-ltb x m h)
all_below_false m (x ∷ xs) (suc k) q h = simp (all_below_false m xs k (omega arith) h) (and_false (ltb x m))

pub all_below_at : (m : ℕ) (s : List ℕ) → all_below m s ≡ true → Below m s
all_below_at m s e k q = lt_of_not-le (λ h. false≢true (sym (all_below_false m s k q h) ∙ e))
