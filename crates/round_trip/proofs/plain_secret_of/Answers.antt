-- `round_trip::plain_secret_of` meets its contract: a part from 0 to n is the first n bytes, and a shorter key is its own first n bytes.
use Prim.Native.Nat.{◌*◌}
use mathlib.Core.Path.{sym, ap, ◌∙◌}
use native.Mathlib.Omega.{arith}
use lib.ListN.{take}
use lib.Seq.{take_all}
use Rattle.lists.proofs.Laws.Parts.{first_part}
use Rattle.sets.specs.declared.Params.{Params}
use Rattle.sets.specs.Laws.Sets.{few_polynomials}
use Rattle.round_trip.proofs.plain_secret_of.Goals as goal

pub overflow_mul-n : goal.overflow_mul-n
overflow_mul-n c = omega (arith, few_polynomials _ c.set_params-p.ensures)

pub returns-then-n-secret_key : goal.returns-then-n-secret_key
returns-then-n-secret_key c =
    let sk = c.args.secret_key.now in
    first_part (416 * c.set_params-p.result.l) sk ∙ ap (λ (p : Params). take (416 * p.l) sk) c.set_params-p.ensures

pub returns-else-n-secret_key : goal.returns-else-n-secret_key
returns-else-n-secret_key c =
    let sk = c.args.secret_key.now in
    sym (take_all (416 * c.set_params-p.result.l) sk (omega (arith, c.if-n-secret_key.false)))
    ∙ ap (λ (p : Params). take (416 * p.l) sk) c.set_params-p.ensures
