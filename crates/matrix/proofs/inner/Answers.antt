-- `matrix::inner` meets its contract: the product of what is unpacked, modulo 65536, reduced.
use Rattle.matrix.specs.Laws.Rows.{inner_steps}
use Rattle.matrix.proofs.inner.Goals as goal

pub returns : goal.returns
returns c =
    let a = c.args in
    inner_steps a.l a.vector.now a.s.now c.unpack_into.ensures c.inner_words-acc.ensures c.reduce.ensures
