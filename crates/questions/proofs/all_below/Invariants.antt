-- `questions::all_below` meets its contract: each coefficient passed is below the bound, and the first that is not decides.
use Prim.Native.Nat.{ℕ, ◌<◌}
use lib.ListN.{get_or}
use Rattle.questions.proofs.all_below.Given as goal

abbrev pub invariant-loop-x : goal.invariant-loop-x
invariant-loop-x l = (k : ℕ) → k < l.x-index → get_or l.coefficients k 0 < l.bound
