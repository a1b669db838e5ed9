-- `little_endian::store` meets its contract: after k turns the first k bytes are the number's.
use Rattle.std.proofs.Common.{◌≡◌, ◌++◌, take, drop}
use Rattle.little_endian.proofs.store.Given as goal

abbrev pub invariant-loop-k : goal.invariant-loop-k
invariant-loop-k l = l.bytes ≡ take l.k l.all ++ drop l.k l.initial.bytes
