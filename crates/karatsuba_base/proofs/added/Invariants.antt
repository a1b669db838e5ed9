-- `karatsuba_base::added` meets its contract: one place a turn.
use Rattle.karatsuba_base.specs.Ensures.{Added}
use Rattle.karatsuba_base.proofs.added.Given as goal

abbrev pub invariant-loop-k : goal.invariant-loop-k
invariant-loop-k l = Added l.p l.padded l.at l.sums l.k l.r
