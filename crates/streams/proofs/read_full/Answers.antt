-- `streams::read_full`: what is read stays within the buffer.
use Rattle.std.proofs.Common.{arith}
use Rattle.streams.proofs.read_full.Goals.{in-Ok, in-Err}
use Rattle.streams.proofs.read_full.Goals as goal

pub loop-preserved : goal.loop-preserved
loop-preserved g c = elim c.match-read.branch [
  | in-Ok w ↦ omega (arith, w.in-Ok.ensures.bound)
  | in-Err w ↦ omega arith
]
