-- `call_words::write_signed`: what is written is the list's text.
use Rattle.std.proofs.Common.{sym}
use Rattle.call_words.proofs.write_signed.Goals as goal

pub returns : goal.returns
returns g c = rw (sym c.signed_into-count.ensures.1) c.write_all.ensures
