-- `ring::reduce` meets its contract: the coefficients passed are reduced, the others are as they were.
use Rattle.std.proofs.Common.{ℕ, ◌%◌, refl, ap, ◌∙◌, arith, get_or-set_other}
use Rattle.lists.proofs.Laws.Fill.{fill_none, fill_more, fill_all}
use Rattle.lists.proofs.Laws.Lists.{from_map}
use Rattle.ring.proofs.reduce.Goals as goal

pub loop-x-init : goal.loop-x-init
loop-x-init c = (fill_none refl, λ i h. refl)

pub loop-x-preserved : goal.loop-x-preserved
loop-x-preserved c =
    let loop = c.loop-x in
    let m = c.args.m in (
      fill_more (omega arith) loop.invariant.0 (c.residue.ensures ∙ ap (λ (x : ℕ). x % m) (loop.invariant.1 loop.x-index (omega arith))),
      λ i h. get_or-set_other loop.out loop.x-index i _ 0 (λ e. omega arith) ∙ loop.invariant.1 i (omega arith),
    )

pub returns : goal.returns
returns c = fill_all (omega arith) c.loop-x.invariant.0 ∙ from_map _ _ c.args.out.now 0 refl
