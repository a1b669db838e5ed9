-- `karatsuba::lay_chunk` meets its contract: one row a turn, and then b.
use Rattle.std.proofs.Common.{◌≡◌, ℕ, ◌+◌, ◌*◌, List, get_or, sym, ap, arith}
use Rattle.karatsuba.specs.Laws.Lay.{laid_more, row_chunk, source_last}
use Rattle.karatsuba.proofs.lay_chunk.Goals as goal

pub loop-i-preserved : goal.loop-i-preserved
loop-i-preserved c =
    let x = c.args in
    let row = row_chunk x.rows x.a.now x.b.now c.loop-i.i x.g in
    laid_more c.loop-i.invariant c.chunk-r.ensures c.put.ensures (λ t h. row t c.loop-i-test.true c.requires.chunks h)

pub returns : goal.returns
returns c =
    let x = c.args in
    let e : c.loop-i.i ≡ x.rows = omega arith in
    laid_more (rw e at c.loop-i.invariant) c.chunk-r-2.ensures c.put-2.ensures
    (λ t h. ap (λ (l : List ℕ). get_or l (16 * x.g + t) 0) (sym (source_last x.rows x.a.now x.b.now)))
