-- `sabercall::answer_from`: the turns are of a range, which ends.
use Rattle.sabercall.proofs.answer_from.Goals as goal

pub lines-init : goal.lines-init
lines-init g c = tt
