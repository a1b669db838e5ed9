-- `matrix::Grid::sums_into` meets its contract: after the zeros, each turn cuts a column and adds one product to each sum.
use Rattle.std.proofs.Common.{◌≡◌}
use Rattle.matrix.specs.Ensures.{polynomial, sums}
use Rattle.matrix.proofs.Grid.sums_into.Given as goal

abbrev pub invariant-loop-j : goal.invariant-loop-j
invariant-loop-j l = l.out ≡ sums 65536 l.rows l.j (polynomial l.self) l.s
