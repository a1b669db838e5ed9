-- `decimals_read::decimal_of` meets its contract: what is read and what is left are the word.
use Rattle.std.proofs.Common.{arith, rules}
use Rattle.std.proofs.lemmas.Result.{err_from_is_err_and}
use Rattle.decimals.specs.Laws.Decimals.{read_none, partly_more, partly_large, partly_all}
use Rattle.decimals_read.proofs.decimal_of.Goals as goal

pub returns-then-not-is_decimal-clause-number : goal.returns-then-not-is_decimal-clause-number
returns-then-not-is_decimal-clause-number c = read_none c.args.most c.args.word.now (search rules)

pub returns-in_err-number-clause-number : goal.returns-in_err-number-clause-number
returns-in_err-number-clause-number c =
    let p = err_from_is_err_and c.from_residual.result c.from_residual.ensures.1 in
    rw (p.1, p.2) (partly_large c.loop-b.b-index (omega arith) (search rules) c.in_err-number.ensures c.loop-b.invariant)

pub loop-b-preserved : goal.loop-b-preserved
loop-b-preserved c = partly_more c.loop-b.b-index (omega arith) (search rules) (search rules) c.loop-b.invariant

pub returns-clause-number : goal.returns-clause-number
returns-clause-number c = partly_all c.loop-b.b-index (search rules) (omega arith) c.loop-b.invariant
