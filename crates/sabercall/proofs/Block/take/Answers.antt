-- `sabercall::Block::take`: what is left begins later.
use Rattle.std.proofs.Common.{ap, ◌∙◌, drop}
use Rattle.sabercall.proofs.Kept.{taken}
use Rattle.sabercall.proofs.Block.take.Goals as goal

pub returns : goal.returns
returns c =
    let block = c.self.inside in
    taken block.bytes block.at block.end c.args.count c.self.invariant.0 (rw c.self.view_is c.requires) ∙ ap (λ xs. drop c.args.count xs) c.self.view_is
