-- `packing::unpack_into` meets its contract: each turn writes a number, once four bytes are read where too few bits were held.
use Prim.Native.Nat.{ℕ, ◌%◌}
use mathlib.Core.List.{List}
use mathlib.Core.Path.{◌≡◌}
use Rattle.packing.specs.Laws.Cutting.{Cutting}
use Rattle.packing.proofs.unpack_into.Given as goal

pub record Turn (width : ℕ) (bytes coefficients : List ℕ) (acc held i j : ℕ) : Type 0 where
  pub fours : i % 4 ≡ 0
  pub cut : Cutting 8 width bytes coefficients acc held i j

abbrev pub invariant-loop-x : goal.invariant-loop-x
invariant-loop-x l = Turn l.width l.bytes l.coefficients l.acc l.held l.i l.x-index
