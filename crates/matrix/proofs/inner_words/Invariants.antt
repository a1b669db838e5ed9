-- `matrix::inner_words` meets its contract: after the zeros, each turn adds one product.
use Rattle.std.proofs.Common.{◌≡◌}
use Rattle.algebra.specs.Ring.{nat}
use Rattle.algebra.specs.Vectors.{inner_mod}
use Rattle.matrix.proofs.inner_words.Given as goal

abbrev pub invariant-loop-j : goal.invariant-loop-j
invariant-loop-j l = l.acc ≡ inner_mod 65536 l.j l.a (nat l.s)
