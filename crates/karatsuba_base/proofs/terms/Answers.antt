-- `karatsuba_base::terms` meets its contract: one term a turn.
use Rattle.std.proofs.Common.{◌≡◌, ℕ, ◌+◌, ◌-◌, ℤ, pos, ◌*ℤ◌, refl, arith}
use Rattle.algebra.specs.Integers.{sum}
use Rattle.algebra.specs.Halves.{window}
use Rattle.algebra.proofs.Laws.Residues.{same_refl}
use Rattle.karatsuba_base.specs.Layout.{reads}
use Rattle.karatsuba_base.specs.Laws.Base.{terms_more}
use Rattle.karatsuba_base.proofs.terms.Goals as goal

pub loop-i-init : goal.loop-i-init
unfolding sum
loop-i-init c = same_refl (pos 0)

pub loop-i-preserved : goal.loop-i-preserved
loop-i-preserved c =
    let x = c.args in
    let f : ℕ → ℤ = λ i. reads x.p.now i *ℤ reads x.padded.now (x.t + 8 - i) in
    terms_more f c.loop-i.i _ _ c.loop-i.invariant refl refl refl

pub returns : goal.returns
unfolding window
returns c =
    let e : c.loop-i.i ≡ 8 = omega arith in
    rw e at c.loop-i.invariant
