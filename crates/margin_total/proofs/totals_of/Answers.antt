-- `margin_total::totals_of` meets its contract: one group a turn.
use Rattle.std.proofs.Common.{ℕ, ◌≡◌, ◌∙◌, arith}
use Rattle.std.specs.Ordering.{ord_max, nat_cmp}
use Rattle.std.proofs.lemmas.Grind.{common_steps}
use Prim.Native.Nat.{max}
use Rattle.margin_total.specs.Laws.Groups.{partly_more, partly_all}
use Rattle.margin_total.proofs.totals_of.Goals as goal

max_is : (x y : ℕ) → ord_max nat_cmp x y ≡ max x y
max_is x y = grind (arith, common_steps)

pub loop-i-preserved : goal.loop-i-preserved
loop-i-preserved c =
    let loop = c.loop-i in
    let larger = c.max-norm.ensures ∙ max_is loop.norm c.figures_of-figures.result.norm in
    (loop.invariant.0, partly_more _ _ (omega arith) loop.invariant.1 c.figures_of-figures.ensures larger)

pub returns : goal.returns
returns c = partly_all _ _ c.loop-i.invariant.0 (omega arith) c.loop-i.invariant.1
