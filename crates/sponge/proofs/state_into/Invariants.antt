-- `sponge::state_into` meets its contract. The loop's invariant: the first k lanes are written.
use Prim.Native.Nat.{◌*◌}
use lib.ListN.{length}
use Rattle.lists.proofs.Laws.Fill.{Filled}
use Rattle.sponge.specs.Sponge.{byte_at}
use Rattle.sponge.proofs.state_into.Given as goal

abbrev pub invariant-loop-k : goal.invariant-loop-k
invariant-loop-k l = Filled (length l.initial.output) l.output (8 * l.k) (byte_at l.a)
