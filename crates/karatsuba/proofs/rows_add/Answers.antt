-- `karatsuba::rows_add` meets its contract: the operands laid, multiplied by halves, and folded.
use Rattle.std.proofs.Common.{refl}
use Rattle.karatsuba.proofs.Laws.Product.{rows_scratch, rows_done}
use Rattle.karatsuba.proofs.rows_add.Goals as goal

pub split-requires : goal.split-requires
split-requires c =
    let x = c.args in
    rows_scratch x.rows x.a.now x.b.now c.requires c.lay.ensures refl

pub returns : goal.returns
returns c =
    let x = c.args in
    rows_done x.rows x.a.now x.b.now c.requires c.lay.ensures refl _ c.split.ensures
    c.fold.ensures
