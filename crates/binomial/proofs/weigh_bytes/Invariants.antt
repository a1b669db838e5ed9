-- `binomial::weigh_bytes` meets its contract: the table is the list of the weights of all 256 bytes, which the check computes once, and after i
-- turns the first i bytes are weighed.
use Rattle.std.proofs.Common.{◌≡◌, map, take}
use Rattle.lists.specs.Lists.{from}
use Rattle.binomial.specs.Binomial.{weighed}
use Rattle.binomial.proofs.weigh_bytes.Given as goal

abbrev pub invariant-loop-i : goal.invariant-loop-i
invariant-loop-i l = (l.table ≡ from 256 (weighed 4)) × (take l.i l.output ≡ map (weighed 4) (take l.i l.bytes))
