-- `karatsuba_split::quarters` meets its contract: one place of each quarter a turn.
use Rattle.std.proofs.Common.{◌≡◌, ℕ, ◌+◌, ◌-◌, ◌%◌, ◌<◌, get_or, refl, arith}
use Rattle.karatsuba_split.specs.Laws.Join.{quarters_more, second_one, third_one}
use Rattle.karatsuba_split.proofs.quarters.Goals as goal

-- a wrapping difference, taken back
back : (x y : ℕ) → x < 65536 → y < 65536 → ((x + (65536 - y)) % 65536 + y) % 65536 ≡ x
back x y h l = omega arith

pub loop-k-preserved : goal.loop-k-preserved
loop-k-preserved c =
    let x = c.args in
    let k = c.loop-k.k in
    let fits : (i : ℕ) → get_or x.work.now i 0 < 65536 = λ i. omega (arith, c.type_inv.work i) in
    let one = back _ _ (fits (x.low + x.q + k)) (fits (x.out + x.q + x.q + k)) in
    let two = back _ _ (fits (x.out + k)) (fits (x.low + k)) in
    let three = back _ _ (fits (x.out + x.q + k)) (fits (x.out + x.q + x.q + x.q + k)) in
    quarters_more (omega arith) c.loop-k.invariant refl (second_one _ _ _ _ _ _ one two refl) (third_one _ _ _ _ _ _ one three (back _ _ (omega arith) (omega arith)))
