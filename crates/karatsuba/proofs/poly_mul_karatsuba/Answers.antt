-- `karatsuba::poly_mul_karatsuba` meets its contract: where it is not refused, the inner functions get what they require.
use Rattle.std.proofs.Common.{refl, arith}
use Rattle.lists.specs.Lists.{from}
use Rattle.ring.specs.Laws.Products.{mul_factors, mul_done}
use Rattle.karatsuba.specs.Laws.Single.{single}
use Rattle.karatsuba.proofs.poly_mul_karatsuba.Goals as goal

pub rows_add-requires : goal.rows_add-requires
rows_add-requires c =
    let x = c.args in
    let f = mul_factors x.modulus x.a.now x.b.now x.product.now c.in_ok-mul_answer.ensures refl in
    record { most = omega arith; factors = omega (arith, f); factor = f.second; scratch = omega arith; fits = omega (arith, f.fits) }

pub returns : goal.returns
unfolding from
returns c =
    let e = c.in_ok-mul_answer.ensures in
    let x = c.args in
    let f = mul_factors x.modulus x.a.now x.b.now x.product.now e refl in
    mul_done x.modulus x.a.now x.b.now x.product.now e refl (single x.a.now x.b.now f.first (rw f.fits at (c.fill.ensures.after (λ y e. e))) c.rows_add.ensures)
    c.reduce.ensures
