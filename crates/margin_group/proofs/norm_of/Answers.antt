-- `margin_group::norm_of` meets its contract: the matrix and the secrets are as long as the noise's norm asks.
use Rattle.std.proofs.Common.{◌≡◌, ◌*◌, arith, length, length-take, ◌∙◌}
use native.Mathlib.Nat.{mul-le-mul}
use Rattle.margin_group.specs.Laws.Measures.{norm_lengths, norm_steps}
use Rattle.margin_group.proofs.norm_of.Goals as goal

pub noise_norm-requires : goal.noise_norm-requires
noise_norm-requires c =
    let few = mul-le-mul c.requires.is_set.few c.requires.is_set.few in
    let long : length c.packed_matrix_into.new.bytes ≡ 416 * c.args.p.l * c.args.p.l = c.packed_matrix_into.auto.bytes ∙ simp length-take (omega (arith, few)) in
    norm_lengths _ c.requires.is_set _ _ long c.secret_into.ensures c.secret_into-2.ensures

pub returns : goal.returns
returns c =
    let a = c.args in
    norm_steps a.p a.public_key.now a.coins.now a.secret_seed.now c.packed_matrix_into.ensures c.secret_into.ensures
    c.secret_into-2.ensures c.noise_norm.ensures
