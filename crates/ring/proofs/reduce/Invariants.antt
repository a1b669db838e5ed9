-- `ring::reduce` meets its contract: the coefficients passed are reduced, the others are as they were.
use Rattle.std.proofs.Common.{◌≡◌, ℕ, ◌%◌, ◌≤◌, length, get_or}
use Rattle.lists.proofs.Laws.Fill.{Filled}
use Rattle.ring.proofs.reduce.Given as goal

abbrev pub invariant-loop-x : goal.invariant-loop-x
invariant-loop-x l = Filled (length l.initial.out) l.out l.x-index (λ i. get_or l.initial.out i 0 % l.m) × ((i : ℕ) → l.x-index ≤ i → get_or l.out i 0 ≡ get_or l.initial.out i 0)
