-- `sampling::gen_matrix` meets its contract: there are at most 4 rows.
use Rattle.std.proofs.Common.{◌≤◌, arith, mul-le-mul}
use Rattle.std.proofs.lemmas.Grind.{common_steps}
use Rattle.sets.specs.Laws.Sets.{few_polynomials}
use Rattle.sampling.proofs.gen_matrix.Goals as goal

pub overflow_mul-p-2 : goal.overflow_mul-p-2
overflow_mul-p-2 c =
    let few : c.in_ok-p.p.l ≤ 4 = grind (arith, few_polynomials) in
    omega (arith, mul-le-mul few few)

pub matrix_into-requires : goal.matrix_into-requires
matrix_into-requires c =
    let few : c.in_ok-p.p.l ≤ 4 = grind (arith, few_polynomials) in
    record { few = few; out_long = grind (arith, common_steps) }
