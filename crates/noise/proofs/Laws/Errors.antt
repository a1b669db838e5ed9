-- Laws of numbers taken about zero, and of the error of rounding.
use Rattle.std.specs.Prelude.{ℕ, ◌+◌, ◌*◌, ◌-◌, ◌/◌, ◌%◌, ◌<◌, ◌≤◌, ◌≡◌, ℤ, pos, negsuc, neg_ℤ, ◌+ℤ◌, ◌*ℤ◌, ◌-ℤ◌}
use Rattle.std.proofs.Common.{◌∙◌, mod-eq_of_lt, arith}
use Rattle.algebra.specs.Integers.{up, dn, modℤ, Same}
use Rattle.algebra.proofs.Laws.Whole.{eqℤ, up_neg, dn_neg, add_split}
use Rattle.algebra.proofs.Laws.Residues.{mod_of, same_residue}
use Rattle.rounding.specs.Rounding.{round}
use Rattle.noise.specs.Noise.{around, Lies, error}

-- a whole number is not above zero and below it at once
pub one_sign : (z : ℤ) → up z - dn z ≡ up z
one_sign (pos a) = omega arith
one_sign (negsuc a) = omega arith

pub sub_split : (x y : ℤ) → up (x -ℤ y) + (dn x + up y) ≡ dn (x -ℤ y) + (up x + dn y)
sub_split x y = omega (arith, add_split x (neg_ℤ y), up_neg y, dn_neg y)

module _ (m : ℕ) (hm : 0 < m) where
  pub same_around : (z : ℤ) → Same m (around m z) z
  same_around z =
      let h = pos (m / 2) in
      let c = same_residue m hm (z +ℤ h) in
      record { less = c.more; more = c.less; eq = omega (arith, c.eq, add_split z h, sub_split (pos (modℤ (z +ℤ h) m)) h) }

  -- it is the number near zero that differs from z by a multiple of m
  pub around_is : (x z : ℤ) → Same m z x → dn x ≤ m / 2 → up x + m / 2 < m → around m z ≡ x
  around_is x z c low high =
      let h = pos (m / 2) in
      let y : ℕ = up x + m / 2 - dn x in
      let p : Same m (z +ℤ h) (pos y) = record { less = c.less; more = c.more; eq = omega (arith, c.eq, add_split z h) } in
      let r : modℤ (z +ℤ h) m ≡ y = mod_of m hm p ∙ mod-eq_of_lt (omega arith) in
      eqℤ _ x (omega (arith, r, sub_split (pos (modℤ (z +ℤ h) m)) h))

-- 8 × the rounding of t is t and its error, modulo 8192
pub round_error : (t : ℤ) → Same 8192 (pos 8 *ℤ pos (round (modℤ t 8192))) (t +ℤ error t)
round_error t =
    let r = pos (8 * round (modℤ t 8192)) in
    let c = same_around 8192 (omega arith) (r -ℤ t) in
    record { less = c.more; more = c.less; eq = omega (arith, c.eq, add_split t (error t), sub_split r t) }

-- the error is 4 less what rounding drops
pub error_is : (t : ℤ) → error t ≡ pos 4 -ℤ pos ((modℤ t 8192 + 4) % 8)
error_is t =
    let y : ℕ = (modℤ t 8192 + 4) % 8192 in
    let x = pos 4 -ℤ pos ((modℤ t 8192 + 4) % 8) in
    let c = same_residue 8192 (omega arith) t in
    let p = sub_split (pos 4) (pos ((modℤ t 8192 + 4) % 8)) in
    let q = one_sign x in
    around_is 8192 (omega arith) x (pos (8 * (y / 8)) -ℤ t)
    (record {
      less = c.more + (modℤ t 8192 + 4) / 8192;
      more = c.less;
      eq = omega (arith, c.eq, sub_split (pos (8 * (y / 8))) t);
    })
    (omega arith) (omega arith)

-- it lies in -3 .. 4
pub error_range : (t : ℤ) → Lies 3 4 (error t)
error_range t =
    let x = pos 4 -ℤ pos ((modℤ t 8192 + 4) % 8) in
    let p = sub_split (pos 4) (pos ((modℤ t 8192 + 4) % 8)) in
    let q = one_sign x in
    rw (error_is t) (record { below = omega arith; above = omega arith })
