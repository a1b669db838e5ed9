-- `sponge::sponge` meets its contract: it squeezes what was absorbed.
use mathlib.Core.Path.{ap, ◌∙◌}
use lib.ListN.{length}
use Rattle.lists.specs.Lists.{from}
use Rattle.keccak.specs.Keccak.{State}
use Rattle.sponge.specs.Sponge.{sponge, squeezed}
use Rattle.sponge.proofs.sponge.Goals as goal

pub returns : goal.returns
unfolding sponge
returns c =
    let x = c.args in
    c.squeeze.ensures
    ∙ ap (λ (a : State). from (length x.output.now) (squeezed x.rate a)) c.absorb.ensures
