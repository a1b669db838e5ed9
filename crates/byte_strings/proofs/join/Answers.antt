-- `byte_strings::join` meets its contract: the first string stands in front, and the second behind it.
use Rattle.lists.proofs.Laws.Strings.{placed_two}
use Rattle.byte_strings.proofs.join.Goals as goal

pub returns : goal.returns
returns c = search placed_two
