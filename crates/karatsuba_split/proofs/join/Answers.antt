-- `karatsuba_split::join` meets its contract: sixteen places of each quarter a turn.
use Rattle.std.proofs.Common.{◌≡◌, ◌+◌, ◌*◌, ◌≤◌, refl, arith}
use Rattle.karatsuba_base.specs.Laws.Put.{put_part}
use Rattle.karatsuba_split.specs.Laws.Join.{joined_turn}
use Rattle.karatsuba_split.proofs.join.Goals as goal

pub loop-i-preserved : goal.loop-i-preserved
loop-i-preserved c =
    let h : 16 * c.loop-i.i + 16 ≤ c.args.q = omega arith in
    let e : 16 * c.loop-i.i + 16 ≡ 16 * (c.loop-i.i + 1) = omega arith in
    let x = c.quarters-r in
    let s = x.ensures.size in
    rw e at (joined_turn x.result h c.requires.apart c.loop-i.invariant x.ensures (put_part 0 16 x.result (omega (arith, s)) refl c.put.ensures)
    (put_part 16 32 x.result (omega (arith, s)) refl c.put-in-loop-i.ensures)
    (put_part 32 48 x.result (omega (arith, s)) refl c.put-in-loop-i-2.ensures))

pub returns : goal.returns
returns c =
    let e : 16 * c.loop-i.i ≡ c.args.q = omega (arith, c.requires.whole) in
    rw e at c.loop-i.invariant
