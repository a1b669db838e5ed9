-- `karatsuba_split::quarters` meets its contract: one place of each quarter a turn.
use Rattle.karatsuba_split.specs.Ensures.{Quarters}
use Rattle.karatsuba_split.proofs.quarters.Given as goal

abbrev pub invariant-loop-k : goal.invariant-loop-k
invariant-loop-k l = Quarters l.out l.low l.q l.work l.k l.r
