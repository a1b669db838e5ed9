-- `ring::mul_into` meets its contract: each turn writes one coefficient, the scalar product of a with 256 places of b's table.
use Rattle.std.proofs.Common.{◌<◌, ◌∙◌, arith, length-take}
use Rattle.lists.proofs.Laws.Fill.{fill_none, fill_more, fill_all}
use Rattle.ring.specs.Laws.Columns.{part_length, column, coefficients}
use Rattle.ring.proofs.mul_into.Goals as goal

pub slice_bounds-p-end : goal.slice_bounds-p-end
slice_bounds-p-end c = simp length-take (omega arith)

pub loop-k-init : goal.loop-k-init
loop-k-init c = fill_none (omega arith)

pub dot-requires : goal.dot-requires
dot-requires c = let below : c.loop-k.k < 256 = omega arith in search part_length

pub loop-k-preserved : goal.loop-k-preserved
loop-k-preserved c =
    let loop = c.loop-k in
    let below : loop.k < 256 = omega arith in
    fill_more (omega arith) loop.invariant (search column)

pub returns : goal.returns
returns c = fill_all (omega arith) c.loop-k.invariant ∙ search coefficients
