-- `karatsuba_base::put` meets its contract: one place a turn.
use Rattle.std.proofs.Common.{ℕ, get_or}
use Rattle.karatsuba_base.specs.Ensures.{Put}
use Rattle.karatsuba_base.proofs.put.Given as goal

abbrev pub invariant-loop-k : goal.invariant-loop-k
invariant-loop-k l = Put l.at l.k (λ (i : ℕ). get_or l.r i 0) l.initial.work l.work
