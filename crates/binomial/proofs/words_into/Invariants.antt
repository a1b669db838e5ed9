-- `binomial::words_into` meets its contract: after i turns the first i numbers stand as residues.
use Rattle.std.proofs.Common.{◌≡◌, take}
use Rattle.algebra.specs.Ring.{residues}
use Rattle.binomial.proofs.words_into.Given as goal

abbrev pub invariant-loop-i : goal.invariant-loop-i
invariant-loop-i l = take l.i l.output ≡ residues 65536 (take l.i l.signed)
