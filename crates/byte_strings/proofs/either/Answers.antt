-- `byte_strings::either` meets its contract: the mask turns the bits in which the two differ, or none.
use Rattle.lists.proofs.Laws.Bits.{turned}
use Rattle.byte_strings.proofs.either.Goals as goal

pub returns : goal.returns
returns c = search turned
