-- `pke::encrypt` meets its contract: where no question is answered no, the output is what the inner function gives.
use mathlib.Core.Path.{refl}
use borrow.Author.Rules.{rules}
use Rattle.pke.specs.Laws.Pke.{encrypt_done}
use Rattle.pke.proofs.encrypt.Goals as goal

pub returns : goal.returns
returns c = encrypt_done c.args.set c.in_ok-p.ensures.params refl _ _ _ _ c.in_ok-p.ensures.answer (search rules)
