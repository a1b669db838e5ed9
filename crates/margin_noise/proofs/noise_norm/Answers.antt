-- `margin_noise::noise_norm` meets its contract: the steps of the definition, one after another.
use Rattle.margin_noise.specs.Laws.Exact.{noise_steps}
use Rattle.margin_noise.proofs.noise_norm.Goals as goal

pub returns : goal.returns
returns c =
    let lengths = c.requires in
    noise_steps _ lengths.most _ _ _ lengths.s_small lengths.t_small lengths.sums c.words_into.ensures c.words_into-2.ensures
    c.product-left.ensures c.product-right.ensures c.norm_of.ensures
