-- Signed numbers of eight bits: a number made negative, the magnitude of one, and its text. The machine holds z as bits,
-- `of_z w8 z`, and reads them by `to_z w8`.
use Rattle.std.specs.Prelude.{ℕ, zero, suc, ◌+◌, ◌-◌, ◌<◌, ◌≤◌, Bool, true, false, ◌∷◌, ◌≡◌, refl, T, ℤ, pos, negsuc, neg_ℤ, nat_abs, ◌-ℤ◌}
use Rattle.std.proofs.lemmas.Bool.{false≢true}
use Rattle.std.proofs.Common.{sym, ap, zero-add, arith, Fits, SFits, to_z, of_z}
use Rattle.std.specs.Int.Signed.{lt_z, non_neg}
use Rattle.std.proofs.Math.Facts.{to_z-of_z, to_z_pos}
use Rattle.std.specs.Int.{w8}
use borrow.Author.Tests.{le-ltb, ltb-true}
use Rattle.decimals.specs.Decimals.{decimal}
use Rattle.decimals.specs.Signed.{minus, number_text}

abbrev pub held : ℤ → ℤ
held z = to_z w8 (of_z w8 z)

less_one : (n : ℕ) → negsuc 0 -ℤ pos n ≡ negsuc n
less_one zero = refl
less_one (suc n) = ap (λ (m : ℕ). negsuc (suc m)) (zero-add n)

-- the numbers from 1 to 128, made negative
module _ (n : ℕ) (some : n ≡ 0 → ⊥) (within : n ≤ 128) where
  negated : negsuc 0 -ℤ to_z w8 (n - 1) ≡ negsuc (n - 1)
  negated = rw (to_z_pos w8 {n = n - 1} (omega arith)) (less_one (n - 1))

  pub negated_fits : SFits w8 (negsuc 0 -ℤ to_z w8 (n - 1))
  negated_fits = rw negated (record { sfits = omega arith })

  pub negated_is : held (negsuc 0 -ℤ to_z w8 (n - 1)) ≡ neg_ℤ (pos n)
  negated_is =
      let e : suc (n - 1) ≡ n = omega arith in
      rw (to_z-of_z negated_fits, negated) (ap (λ (m : ℕ). neg_ℤ (pos m)) e)

-- the magnitude of a negative number z, as the machine computes it: y is -1 - z
pub record Magnitude (z y : ℤ) : Type 0 where
  pub fits : SFits w8 y
  pub cast : T (non_neg (held y)) × Fits w8 (nat_abs (held y))
  pub sum_fits : Fits w8 (nat_abs (held y) + 1)
  pub magnitude : nat_abs (held y) + 1 ≡ nat_abs z

magnitude_is : (n : ℕ) (y : ℤ) → n < 128 → y ≡ pos n → Magnitude (negsuc n) y
magnitude_is n y h e =
    let fits : SFits w8 (pos n) = record { sfits = omega arith } in
    let same : held y ≡ pos n = rw e (to_z-of_z fits) in
    record {
      fits = rw e fits;
      cast = rw same (tt, record { fits = omega arith });
      sum_fits = rw same (record { fits = omega arith });
      magnitude = rw same (omega arith);
    }

-- the sign of a number as the machine tests it
abbrev pub below_zero : ℤ → Bool
below_zero z = lt_z (held z) (pos 0)

minus_less : (n : ℕ) → negsuc 0 -ℤ negsuc n ≡ pos n
minus_less n = rw (le-ltb (suc n) 1 (omega arith)) (ap pos (omega arith))

pub negative_magnitude : (z : ℤ) → SFits w8 z → below_zero z ≡ true → Magnitude z (negsuc 0 -ℤ held z)
negative_magnitude (pos n) f h = absurd (omega (arith, ltb-true n 0 (rw (to_z-of_z f) at h)))
negative_magnitude (negsuc n) f h = magnitude_is n _ f.sfits (rw (to_z-of_z f) (minus_less n))

pub plain_cast : (z : ℤ) → SFits w8 z → below_zero z ≡ false → T (non_neg (held z)) × Fits w8 (nat_abs (held z))
plain_cast (pos n) f h = rw (to_z-of_z f) (tt, record { fits = omega (arith, f.sfits) })
plain_cast (negsuc n) f h = absurd (false≢true (sym (rw (to_z-of_z f) at h)))

-- its text is that of its magnitude m, behind a minus where it is negative
module _ {m : ℕ} where
  pub negative_text : (z : ℤ) → SFits w8 z → m ≡ nat_abs (held z) → below_zero z ≡ true → number_text z ≡ minus ∷ decimal m
  unfolding number_text
  negative_text (pos n) f q h = absurd (omega (arith, ltb-true n 0 (rw (to_z-of_z f) at h)))
  negative_text (negsuc n) f q h = rw (q, to_z-of_z f)

  pub plain_text : (z : ℤ) → SFits w8 z → m ≡ nat_abs (held z) → below_zero z ≡ false → number_text z ≡ decimal m
  unfolding number_text
  plain_text (pos n) f q h = rw (q, to_z-of_z f)
  plain_text (negsuc n) f q h = absurd (false≢true (sym (rw (to_z-of_z f) at h)))
