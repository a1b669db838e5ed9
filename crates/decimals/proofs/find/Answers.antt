use Rattle.std.proofs.Common.{◌+◌, ◌-◌, ap, sym, arith, length-take, length-drop, drop}
use Rattle.decimals.specs.Laws.Places.{place_is}
use Rattle.decimals.proofs.find.Goals as goal

pub returns-then-x-b-clause-place : goal.returns-then-x-b-clause-place
returns-then-x-b-clause-place c =
    ap (λ n. c.args.at + n)
    (sym
    (place_is c.args.b c.args.at c.args.end c.args.s.now c.requires.low c.loop-k.k (omega arith) c.loop-k.invariant
    (λ l. c.if-x-b.true)))

pub returns-clause-place : goal.returns-clause-place
returns-clause-place c =
    omega (
      arith,
      place_is c.args.b c.args.at c.args.end c.args.s.now c.requires.low c.loop-k.k (omega arith) c.loop-k.invariant (λ l. absurd (omega arith)),
      length-take (c.args.end - c.args.at) (drop c.args.at c.args.s.now),
      length-drop c.args.at c.args.s.now,
    )
