-- `margin_noise::product` meets its contract: the steps of the definition, one after another.
use Rattle.algebra.specs.Ring.{nat}
use Rattle.matrix.specs.Ensures.{entries}
use Rattle.margin_noise.specs.Laws.Exact.{product_steps}
use Rattle.margin_noise.proofs.product.Goals as goal

pub returns : goal.returns
returns c =
    let m = c.args.matrix.now in
    product_steps m.l (entries m) (nat c.args.s.now) c.args.t.now c.product_into.ensures c.errors_in.ensures c.inner_words.ensures
