-- What is read and the pieces that are left are the word's.
use Rattle.std.proofs.Common.{length, drop}
use Rattle.decimals.specs.Signed.{pieces}
use Rattle.decimals.specs.Laws.Pieces.{Gathered}
use Rattle.decimals_read.proofs.signed_of.Given as goal

abbrev pub invariant-loop-piece : goal.invariant-loop-piece
invariant-loop-piece l = Gathered l.fn.word l.list l.read (drop (length l.yielded) (pieces l.fn.word))
