-- `karatsuba::lay` meets its contract: one chunk of each operand a turn.
use Rattle.karatsuba.specs.Laws.Lay.{lay_more}
use Rattle.karatsuba.proofs.lay.Goals as goal

pub loop-g-preserved : goal.loop-g-preserved
loop-g-preserved c = lay_more c.loop-g.invariant c.lay_chunk.ensures
