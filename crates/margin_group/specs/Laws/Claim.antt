-- What a margin says of demand 3: it is not negative exactly where the noise is within the bounds, and then no message bit is wrong.
use Rattle.std.specs.Prelude.{ℕ, ◌≤◌, true, ◌↔◌, ◌≡◌, ℤ, pos, negsuc, nat_abs}
use mathlib.Core.List.{List, [], ◌∷◌}
use Rattle.std.proofs.Math.Option.{Option, none, some}
use Rattle.std.proofs.Math.Path.{refl}
use Rattle.std.proofs.Common.{arith, eq-eqb}
use Rattle.sets.specs.Sets.{params_of, known}
use Rattle.sets.specs.Laws.Sets.{is_set_lem}
use Rattle.algebra.specs.Integers.{dn}
use Rattle.algebra.specs.Ring.{at}
use Rattle.packing.specs.Packing.{unpacked}
use Rattle.keys.specs.Laws.Parts.{plain_in}
use Rattle.kdf.specs.Kdf.{message_of}
use Rattle.noise.specs.Noise.{Lies, Within, bound}
use Rattle.noise.proofs.Laws.Errors.{sub_split, one_sign}
use Rattle.correctness.specs.Claim.{NoiseWithin}
use Rattle.correctness.proofs.Laws.Steps.{returned}
use Rattle.margin_noise.specs.Norm
use Rattle.margin_noise.specs.Laws.Bounds.{lies_magnitude, norm_bound, no_larger}
use Rattle.margin_bits.specs.Bits.{differing}
use Rattle.margin_group.specs.Margin.{matrix_seed, secret_seed, encaps_seed, norm, margin, received, wrong_bits}

lies : (b : ℕ) (z : ℤ) → nat_abs z ≤ b → Lies b b z
lies b (pos n) h = record { below = omega arith; above = h }
lies b (negsuc n) h = record { below = h; above = omega arith }

-- the coefficients are all within the bounds exactly where the norm is
within_norm : (margin : ℕ) (N : List ℤ) → (Norm.norm N ≤ bound margin) ↔ Within margin N
within_norm margin N =
    (λ h k hk. lies (bound margin) (at N k) (omega (arith, no_larger N k hk)), λ w. norm_bound (bound margin) N (λ k hk. lies_magnitude (omega arith) (omega arith) (at N k) (w k hk)))

module _ (set : ℕ) (group : List ℕ) where
  not_negative : (dn (margin (params_of set) group) ≡ 0) ↔ (norm (params_of set) group ≤ bound (params_of set).margin)
  not_negative =
      let b = pos (bound (params_of set).margin) in
      let s = pos (norm (params_of set) group) in
      (λ h. omega (arith, h, sub_split b s), λ h. omega (arith, h, sub_split b s, one_sign (margin (params_of set) group)))

  pub within : (dn (margin (params_of set) group) ≡ 0) ↔ NoiseWithin (params_of set) (matrix_seed group) (secret_seed group) (encaps_seed group)
  unfolding norm
  within = (λ h. (within_norm _ _).0 (not_negative.0 h), λ w. not_negative.1 ((within_norm _ _).1 w))

same_none : (xs : List ℕ) → differing xs xs ≡ 0
unfolding differing
same_none [] = refl
same_none (x ∷ xs) = rw (eq-eqb x x refl) (omega (arith, same_none xs))

pub no_wrong_bit : (set : ℕ) → known set ≡ true → (group : List ℕ) → dn (margin (params_of set) group) ≡ 0 → wrong_bits (params_of set) group ≡ 0
unfolding wrong_bits received
no_wrong_bit set k group h =
    let back = (returned set k (matrix_seed group) (secret_seed group) [] (encaps_seed group) ((within set group).0 h)).message in
    rw (← plain_in (params_of set) (is_set_lem set k) (matrix_seed group) (secret_seed group) [], back) (same_none (unpacked 1 (message_of (encaps_seed group))))

-- ---- all groups
-- a number that is not negative, or none
abbrev pub Sound : Option ℤ → Type 0
Sound none = Unit {0}
Sound (some z) = dn z ≡ 0
