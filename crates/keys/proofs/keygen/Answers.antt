-- `keys::keygen` meets its contract: where no question is answered no, the keys are what the inner function gives.
use mathlib.Core.Path.{refl}
use borrow.Author.Rules.{rules}
use Rattle.keys.specs.Laws.Keys.{keygen_done}
use Rattle.keys.proofs.keygen.Goals as goal

pub returns : goal.returns
returns c = keygen_done c.args.set _ _ _ _ _ c.in_ok-p.ensures.params refl c.in_ok-p.ensures.answer (search rules)
