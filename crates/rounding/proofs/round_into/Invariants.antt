-- `rounding::round_into` meets its contract: after k turns the first k coefficients are rounded.
use Rattle.std.proofs.Common.{◌≡◌, map, take}
use Rattle.rounding.specs.Rounding.{round}
use Rattle.rounding.proofs.round_into.Given as goal

abbrev pub invariant-loop-k : goal.invariant-loop-k
invariant-loop-k l = take l.k l.rounded ≡ map round (take l.k l.x)
