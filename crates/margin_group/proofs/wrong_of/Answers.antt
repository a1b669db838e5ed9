-- `margin_group::wrong_of` meets its contract: the steps of the definition, one after another.
use Rattle.margin_group.specs.Laws.Measures.{wrong_steps}
use Rattle.margin_group.proofs.wrong_of.Goals as goal

pub returns : goal.returns
returns c =
    let a = c.args in
    wrong_steps a.p a.public_key.now a.coins.now a.message.now a.secret_key.now c.encrypt_with.ensures c.decrypt_with.ensures
    c.wrong_bits.ensures
