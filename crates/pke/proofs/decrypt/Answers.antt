-- `pke::decrypt` meets its contract: where no question is answered no, the output is what the inner function gives.
use mathlib.Core.Path.{refl}
use borrow.Author.Rules.{rules}
use Rattle.pke.specs.Laws.Pke.{decrypt_done}
use Rattle.pke.proofs.decrypt.Goals as goal

pub returns : goal.returns
returns c = decrypt_done c.args.set c.in_ok-p.ensures.params refl _ _ _ c.in_ok-p.ensures.answer (search rules)
