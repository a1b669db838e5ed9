-- `pke::decrypt_with` meets its contract: the steps of the definition, one after another, on the two parts of the ciphertext.
use Rattle.lists.proofs.Laws.Parts.{first_part, last_part}
use Rattle.pke.specs.Laws.Pke.{decrypt_steps}
use Rattle.pke.proofs.decrypt_with.Goals as goal

pub returns : goal.returns
returns c = search (decrypt_steps, first_part, last_part)
