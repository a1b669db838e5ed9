-- The errors of a vector lie where that of a number lies.
use Rattle.std.specs.Prelude.{ℕ, List, ℤ, pos}
use Rattle.std.proofs.Math.ListN.{get_or-map}
use Rattle.algebra.specs.Ring.{at}
use Rattle.noise.specs.Noise.{Lies, error, times, errors}
use Rattle.noise.proofs.Laws.Errors.{error_range}

-- e and e' lie in -3 .. 4
pub errors_range : (n l : ℕ) (A : ℕ → ℕ → List ℕ) (s : ℕ → List ℤ) (i k : ℕ) → Lies 3 4 (at (errors n l A s i) k)
unfolding errors
errors_range n l A s i k = rw (get_or-map error (times n l A s i) k (pos 0)) (error_range (at (times n l A s i) k))
