-- `matrix::Matrix::product_into` meets its contract: after each turn the rows before the next one stand one behind another.
use Rattle.std.proofs.Common.{ℕ, ◌≡◌, ◌+◌, ◌-◌, ◌*◌, ◌<◌, min, List, length, ◌∙◌, arith}
use borrow.Rule.Slice.PartMut.{put_mid, mid_of}
use Rattle.lists.proofs.Laws.Parts.{Prefix, prefix_none, prefix_part, prefix_all}
use Rattle.algebra.specs.Ring.{blocks}
use Rattle.algebra.proofs.Laws.Vectors.{blocks_append}
use Rattle.algebra.specs.Vectors.{matrix_vector}
use Rattle.matrix.proofs.Matrix.product_into.Goals as goal

-- one turn: n more of l rows, from row i on
turn :
    {N l i n : ℕ} {out : List ℕ} (row : ℕ → List ℕ) (y : List ℕ) → N ≡ 256 * l → i < l → n ≡ min (l - i) 3 →
    Prefix N out (256 * min i l) (blocks (min i l) row) → y ≡ blocks n (λ k. row (i + k)) →
    length y ≡ length (mid_of (256 * i) (256 * (i + n) - 256 * i) out) →
    Prefix N (put_mid (256 * i) (256 * (i + n) - 256 * i) out y) (256 * (i + n)) (blocks (i + n) row)
turn {l = l} {i} {n} row y long h few w rows kept =
    let here : min i l ≡ i = omega arith in
    rw (blocks_append i n row, ← rows) (prefix_part y (rw here at w) (omega arith) (omega arith) kept)

pub loop-first-init : goal.loop-first-init
unfolding blocks
loop-first-init c =
    let none : min 0 c.args.self.now.l ≡ 0 = omega arith in
    rw none (prefix_none _)

pub loop-first-preserved : goal.loop-first-preserved
loop-first-preserved c =
    let i = c.loop-first.first in
    let l = c.args.self.now.l in
    let next : min (i + 3) l ≡ i + c.min-rows.result = omega (arith, c.min-rows.ensures, c.loop-first-test.true) in
    rw next (turn _ _ c.requires.fits c.loop-first-test.true c.min-rows.ensures c.loop-first.invariant c.rows_into.ensures c.rows_into.auto.out)

pub returns : goal.returns
unfolding matrix_vector
returns c =
    let l = c.args.self.now.l in
    let all : min c.loop-first.first l ≡ l = omega (arith, c.loop-first-test.false) in
    prefix_all (rw all at c.loop-first.invariant) (omega (arith, c.requires.fits))

pub returns-2 : goal.returns-2
unfolding matrix_vector
returns-2 c =
    let l = c.args.self.now.l in
    let all : c.loop-first.first + c.min-rows.result ≡ l = omega (arith, c.min-rows.ensures) in
    let last = turn _ _ c.requires.fits c.loop-first-test.true c.min-rows.ensures c.loop-first.invariant c.rows_into.ensures c.rows_into.auto.out in
    prefix_all last (omega (arith, c.requires.fits)) ∙ rw all
