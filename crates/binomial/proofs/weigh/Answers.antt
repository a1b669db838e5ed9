-- `binomial::weigh` meets its contract: a piece has at most 16 ones, so an `i8` holds their difference.
use Rattle.std.proofs.Common.{ℕ, ◌≡◌, ◌*◌, ◌%◌, ◌/◌, ◌^◌, ◌≤◌, ap, ◌∙◌, arith, rules, pos, ◌-ℤ◌, to_z, of_z, w8}
use Rattle.std.proofs.lemmas.Int.{ints}
use Rattle.std.specs.Int.Count.{ones}
use Rattle.binomial.proofs.weigh.Goals as goal

-- the difference of two counts, each cast to an `i8`
difference : (x y : ℕ) → x ≤ 16 → y ≤ 16 → to_z w8 (of_z w8 (to_z w8 x -ℤ to_z w8 y)) ≡ pos x -ℤ pos y
difference x y p q = omega (arith, ints)

pub returns : goal.returns
returns c =
    let h = c.args.half in
    let x = c.args.x in
    let base : 1 * 2 ^ h % 65536 ≡ 2 ^ h = search rules in
    difference (ones (x % (1 * 2 ^ h % 65536))) (ones (x / 2 ^ h)) (search rules) (search rules)
    ∙ ap (λ (p : ℕ). pos (ones (x % p)) -ℤ pos (ones (x / 2 ^ h))) base
