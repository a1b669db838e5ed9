-- `karatsuba_split::join` meets its contract: sixteen places of each quarter a turn.
use Rattle.std.proofs.Common.{◌*◌}
use Rattle.karatsuba_split.specs.Ensures.{Joined}
use Rattle.karatsuba_split.proofs.join.Given as goal

abbrev pub invariant-loop-i : goal.invariant-loop-i
invariant-loop-i l = Joined l.out l.low l.q (16 * l.i) l.initial.work l.work
