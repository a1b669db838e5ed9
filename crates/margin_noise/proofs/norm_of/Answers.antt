-- `margin_noise::norm_of` meets its contract: the largest magnitude so far, and the numbers that are left.
use Rattle.std.proofs.Common.{◌≡◌, ◌<◌, length, pos, nat_abs, sym, ap, ◌∙◌, rules, arith, length-append, get_or}
use Rattle.std.proofs.lemmas.Slice.Zip.{zip_turn, zip_end}
use Rattle.lists.specs.Lists.{from}
use Rattle.lists.proofs.Laws.Lists.{from_at, length_from}
use Rattle.margin_noise.specs.Laws.Exact.{norm_more, norm_all}
use Rattle.margin_noise.proofs.norm_of.Invariants.{near}
use Rattle.margin_noise.proofs.norm_of.Goals as goal

pub loop-x-preserved : goal.loop-x-preserved
loop-x-preserved c =
    let a = c.args in
    let f = near a.left.now a.right.now in
    let loop = c.loop-x in
    let k = length loop.yielded in
    let t = c.in-Some in
    let at =
    zip_turn a.left.now a.right.now loop.yielded c.into_iter-x-iterator.result loop.x-iterator c.next.new.self c.next.result (search rules)
    (search rules) loop.yielded_by (t.x, t.y) t.is c.next.ensures.steps in
    let within : k < 256 = omega (arith, at.0) in
    let magnitude : c.magnitude.result ≡ nat_abs (get_or (from 256 f) k (pos 0)) =
    rw (at.2 0, at.3 0) at c.magnitude.ensures ∙ ap nat_abs (sym (from_at 256 f (pos 0) k within)) in
    rw length-append
    (norm_more (from 256 f) k loop.most (omega (arith, length_from 256 f, within)) loop.invariant (omega (arith, magnitude)))

pub returns : goal.returns
returns c =
    let a = c.args in
    let f = near a.left.now a.right.now in
    let loop = c.loop-x in
    let all =
    zip_end a.left.now a.right.now loop.yielded c.into_iter-x-iterator.result loop.x-iterator c.next.new.self c.next.result (search rules)
    (search rules) loop.yielded_by c.in-None.is c.next.ensures.steps in
    norm_all (from 256 f) (length loop.yielded) loop.most (omega (arith, length_from 256 f, all)) loop.invariant
