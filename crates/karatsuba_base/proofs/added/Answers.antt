-- `karatsuba_base::added` meets its contract: one place a turn.
use Rattle.std.proofs.Common.{arith, refl}
use Rattle.karatsuba_base.specs.Laws.Base.{added_more}
use Rattle.karatsuba_base.proofs.added.Goals as goal

pub loop-k-preserved : goal.loop-k-preserved
loop-k-preserved c = added_more (omega arith) (omega arith) c.loop-k.invariant c.terms.ensures refl
