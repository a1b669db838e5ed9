-- `lwr::rounded_into` meets its contract: after each turn the rows before the next one stand packed at the front, and all else is as it was.
use Rattle.std.proofs.Common.{ℕ, ◌≡◌, ◌+◌, ◌-◌, ◌*◌, ◌<◌, ◌≤◌, min, List, length, map, ℤ, ◌∙◌, arith}
use Rattle.lists.specs.Strings.{placed}
use Rattle.algebra.specs.Ring.{blocks}
use Rattle.packing.specs.Packing.{packed}
use Rattle.packing_vector.specs.Laws.Places.{packed_none}
use Rattle.rounding.specs.Rounding.{round}
use Rattle.algebra.specs.Vectors.{matrix_row, matrix_vector}
use Rattle.lwr.specs.Laws.Lwr.{rows_more}
use Rattle.lwr.proofs.rounded_into.Goals as goal

-- one turn: n more of l rows, from row i on
turn :
    (l : ℕ) (M : ℕ → ℕ → List ℕ) (s : List ℤ) (i n : ℕ) (old : List ℕ) {mid out : List ℕ} → i < l → n ≡ min (l - i) 3 → 320 * l ≤ length old →
    mid ≡ placed 0 (packed 10 (map round (blocks (min i l) (matrix_row l M s)))) old →
    out ≡ placed (320 * i) (packed 10 (map round (blocks n (λ k. matrix_row l M s (i + k))))) mid →
    out ≡ placed 0 (packed 10 (map round (blocks (i + n) (matrix_row l M s)))) old
turn l M s i n old h few fits p q =
    let here : min i l ≡ i = omega arith in
    rows_more l M s i n old (omega arith) (rw here at p) q

pub loop-first-init : goal.loop-first-init
unfolding blocks
loop-first-init c =
    let none : min 0 c.args.matrix.now.l ≡ 0 = omega arith in
    rw none (packed_none _ _ _)

pub loop-first-preserved : goal.loop-first-preserved
loop-first-preserved c =
    let i = c.loop-first.first in
    let next : min (i + 3) c.args.matrix.now.l ≡ i + c.min-rows.result = omega (arith, c.min-rows.ensures, c.loop-first-test.true) in
    rw next (turn _ _ _ i _ _ c.loop-first-test.true c.min-rows.ensures c.requires.out_long c.loop-first.invariant c.rows_into.ensures)

pub returns : goal.returns
unfolding matrix_vector
returns c =
    let l = c.args.matrix.now.l in
    let all : min c.loop-first.first l ≡ l = omega (arith, c.loop-first-test.false) in
    rw all at c.loop-first.invariant

pub returns-2 : goal.returns-2
unfolding matrix_vector
returns-2 c =
    let i = c.loop-first.first in
    let all : i + c.min-rows.result ≡ c.args.matrix.now.l = omega (arith, c.min-rows.ensures) in
    turn _ _ _ i _ _ c.loop-first-test.true c.min-rows.ensures c.requires.out_long c.loop-first.invariant c.rows_into.ensures ∙ rw all
