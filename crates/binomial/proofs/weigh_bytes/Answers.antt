-- `binomial::weigh_bytes` meets its contract: the table is the list of the weights of all 256 bytes, which the check computes once, and after i
-- turns the first i bytes are weighed.
use Rattle.std.proofs.Common.{refl, ap, ◌∙◌, List, ℤ, pos, get_or}
use Rattle.std.proofs.lemmas.Grind.{common_steps}
use Rattle.std.proofs.lemmas.Int.{to_z-of_z}
use Rattle.std.specs.Int.Count.{ones, ones_in}
use native.Mathlib.Omega.{arith}
use Rattle.lists.specs.Lists.{from}
use Rattle.lists.proofs.Laws.Lists.{from_at}
use Rattle.binomial.specs.Binomial.{weighed}
use Rattle.binomial.proofs.weigh_bytes.Goals as goal

pub loop-i-init : goal.loop-i-init
unfolding from ones ones_in
loop-i-init c = (refl, refl)

pub loop-i-preserved : goal.loop-i-preserved
loop-i-preserved c =
    let loop = c.loop-i in
    let b = get_or c.args.bytes.now loop.i 0 in
    let entry = ap (λ (t : List ℤ). get_or t b (pos 0)) loop.invariant.0 ∙ from_at 256 (weighed 4) (pos 0) b (c.type_inv.bytes loop.i).fits in
    (loop.invariant.0, grind (arith, common_steps, to_z-of_z, entry))
