-- `matrix::Grid::sums_into` meets its contract: after the zeros, each turn cuts a column and adds one product to each sum.
use Rattle.std.proofs.Common.{◌+◌, ◌*◌, ◌∙◌}
use Rattle.matrix.specs.Ensures.{polynomial}
use Rattle.matrix.specs.Laws.Rows.{before_last, part_long}
use Rattle.matrix.specs.Laws.Sums.{sums_none, sums_more}
use Rattle.matrix.proofs.Grid.sums_into.Goals as goal

pub slice_bounds-cut-end : goal.slice_bounds-cut-end
slice_bounds-cut-end c = c.requires.cut_long

pub loop-j-init : goal.loop-j-init
loop-j-init c = c.fill.ensures.after (λ y h. h) ∙ rw c.requires.fits (sums_none _ _ _)

pub loop-j-preserved : goal.loop-j-preserved
loop-j-preserved c =
    let g = c.args.self.now in
    let j = c.loop-j.j in
    sums_more (polynomial g) c.args.s.now c.args.rows j
    (λ i h.
    part_long g.width _ c.requires.count g.packed.now c.requires.least c.requires.whole
    (before_last (g.start + g.column * j) g.row c.args.rows (c.requires.last j c.loop-j-test.true) h))
    c.cut_into.ensures c.loop-j.invariant c.rows_add.ensures
