-- The lengths of reconciliation data and of ciphertexts, and the bound of the data.
use Rattle.std.specs.Prelude.{ℕ, ◌*◌, ◌^◌, List, ◌≡◌, ℤ, length, take, drop}
use Rattle.std.proofs.Math.Bool.{false}
use Rattle.std.proofs.Common.{◌∙◌, arith}
use Rattle.std.proofs.Math.ListN.{length-append}
use Rattle.lists.specs.Numbers.{Below}
use Rattle.sets.specs.declared.Params.{Params}
use Rattle.sets.specs.Requires.{IsSet}
use Rattle.packing.specs.Packing.{packed, unpacked}
use Rattle.packing.specs.Laws.Polynomials.{length_packed}
use Rattle.sampling.specs.Sampling.{secret}
use Rattle.reconciliation.specs.Laws.Reconciliation.{length_recon, recon_below, length_masked, masked_below}
use Rattle.lwr.specs.Laws.Lwr.{length_packed_vector}
use Rattle.pke.specs.Pke.{data_poly, encrypted}

module _ (p : Params) (is_set : IsSet p) where
  pub length_data : (b : List ℕ) (s : List ℤ) (m : List ℕ) → length (data_poly p b s m) ≡ 256
  unfolding data_poly
  length_data b s m = length_recon p.g _ ∙ length_masked _ _

  pub data_below : (b : List ℕ) (s : List ℤ) (m : List ℕ) → Below (2 ^ p.bits) (data_poly p b s m)
  unfolding data_poly
  data_below b s m = recon_below p.g (2 ^ p.bits) _ is_set.sums.step_is (masked_below _ _)

  pub length_data_part : (b : List ℕ) (s : List ℤ) (m : List ℕ) → length (packed p.bits (data_poly p b s m)) ≡ 32 * p.bits
  length_data_part b s m = length_packed p.bits 1 is_set.bits_some (data_poly p b s m) (length_data b s m) ∙ omega arith

  pub length_encrypted : (pk m seed : List ℕ) → length (encrypted p pk m seed) ≡ p.ct
  unfolding encrypted
  length_encrypted pk m seed =
      let s' = secret p.l p.mu seed in
      rw (
        length-append,
        length_packed_vector false p.l (drop (320 * p.l) pk) s',
        length_data_part (unpacked 10 (take (320 * p.l) pk)) s' m,
      )
      (omega (arith, is_set.ct_is))
