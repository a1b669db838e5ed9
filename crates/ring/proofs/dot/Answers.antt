-- `ring::dot` meets its contract: the sum is that of the products so far, modulo 65536.
use Rattle.std.proofs.Common.{refl, length, rules, length-append}
use Rattle.std.proofs.lemmas.Slice.Zip.{zip_turn}
use Rattle.algebra.specs.Integers.{sum}
use Rattle.algebra.specs.Columns.{dot}
use Rattle.ring.specs.Laws.Columns.{dot_more}
use Rattle.ring.proofs.dot.Goals as goal

pub loop-x-init : goal.loop-x-init
unfolding dot sum
loop-x-init c = search rules

pub loop-x-preserved : goal.loop-x-preserved
loop-x-preserved c =
    let a = c.args.a.now in
    let w = c.args.w.now in
    let done = c.loop-x.yielded in
    let t = c.in-Some in
    let at =
    zip_turn a w done c.into_iter-x-iterator.result c.loop-x.x-iterator c.next.new.self c.next.result (search rules) (search rules)
    c.loop-x.yielded_by (t.x, t.y) t.is c.next.ensures.steps in
    rw length-append (dot_more (length done) a w c.loop-x.invariant (rw (at.2 0, at.3 0) refl) refl)
