-- `call_words::Words::finish`: of what is left of a line a word is left.
use Rattle.std.proofs.Common.{refl}
use Rattle.call_words.proofs.Split.{some_word}
use Rattle.call_words.proofs.Words.finish.Goals as goal

pub returns-in-Some : goal.returns-in-Some
returns-in-Some c = (refl, λ e. some_word c.in-Some.field-0.now (rw c.in-Some.is at e))
