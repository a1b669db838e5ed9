-- `binomial::weigh_numbers` meets its contract: after i turns the first i numbers are weighed.
use Rattle.std.proofs.Common.{◌≡◌, map, take}
use Rattle.binomial.specs.Binomial.{weighed}
use Rattle.binomial.proofs.weigh_numbers.Given as goal

abbrev pub invariant-loop-i : goal.invariant-loop-i
invariant-loop-i l = take l.i l.output ≡ map (weighed l.half) (take l.i l.numbers)
