-- `little_endian::load` meets its contract: after i turns the first i of the eight bytes are the string's.
use Rattle.std.proofs.Common.{◌≡◌, ◌++◌, take, drop, replicate}
use Rattle.little_endian.proofs.load.Given as goal

abbrev pub invariant-loop-i : goal.invariant-loop-i
invariant-loop-i l = l.all ≡ take l.i l.bytes ++ drop l.i (replicate 8 0)
