-- `margin_line::line_into` meets its contract: its parts one behind the other, each with its longest text.
use Rattle.std.proofs.Common.{arith}
use Rattle.decimals.specs.Decimals.{decimal}
use Rattle.margin_noise.specs.Ensures.{least_of}
use Rattle.margin_line.specs.Line.{least_text}
use Rattle.margin_line.specs.Laws.Texts.{lengths, words_place, line_appended}
use Rattle.margin_line.proofs.line_into.Goals as goal

pub words_into-a-requires : goal.words_into-a-requires
words_into-a-requires c = let long = lengths c.args.set c.args.p (omega arith) c.requires in omega (arith, long)

pub least_into-b-requires : goal.least_into-b-requires
least_into-b-requires c =
    let long = lengths c.args.set c.args.p (omega arith) c.requires in
    omega (arith, long, words_place (decimal c.args.set) (decimal c.args.cases) 32 c.words_into-a.ensures)

pub put-c-requires : goal.put-c-requires
put-c-requires c =
    let long = lengths c.args.set c.args.p (omega arith) c.requires in
    omega (
      arith,
      long,
      words_place (decimal c.args.set) (decimal c.args.cases) 32 c.words_into-a.ensures,
      c.least_into-b.ensures.place,
    )

pub words_into-requires : goal.words_into-requires
words_into-requires c =
    let long = lengths c.args.set c.args.p (omega arith) c.requires in
    omega (
      arith,
      long,
      words_place (decimal c.args.set) (decimal c.args.cases) 32 c.words_into-a.ensures,
      c.least_into-b.ensures.place,
      c.put-c.ensures.place,
    )

pub returns : goal.returns
returns c =
    let x = c.args in
    line_appended (decimal x.set) (decimal x.cases) (least_text (least_of x.p x.cases x.norm)) (decimal x.wrong)
    (decimal x.rest) c.words_into-a.ensures c.least_into-b.ensures c.put-c.ensures c.words_into.ensures
