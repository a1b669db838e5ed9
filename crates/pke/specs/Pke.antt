-- Document 01, "Steps": encryption and decryption, of the set with parameters p.
use Rattle.std.specs.Prelude.{ℕ, ◌*◌, false, List, ◌++◌, ℤ, take, drop}
use Rattle.sets.specs.declared.Params.{Params}
use Rattle.sets.specs.Sets.{added}
use Rattle.algebra.specs.Ring.{nat}
use Rattle.packing.specs.Packing.{packed, unpacked}
use Rattle.algebra.specs.Vectors.{inner_mod}
use Rattle.sampling.specs.Sampling.{secret}
use Rattle.reconciliation.specs.Reconciliation.{masked_poly, recon_data, recovered}
use Rattle.lwr.specs.Lwr.{rounded_vector}

module _ (p : Params) where
  -- the reconciliation data of a message: from v', the inner product of b and s' modulo 1024
  unfoldable pub data_poly : List ℕ → List ℤ → List ℕ → List ℕ
  data_poly b s' m = recon_data p.g (masked_poly (inner_mod 1024 p.l b s') (unpacked 1 m))

  -- encryption of a message under a public key with a secret seed: b' in 10 bits, then the data
  unfoldable pub encrypted : List ℕ → List ℕ → List ℕ → List ℕ
  encrypted pk m seed =
      let s' : List ℤ = secret p.l p.mu seed in
      packed 10 (rounded_vector false p.l (drop (320 * p.l) pk) s')
      ++ packed p.bits (data_poly (unpacked 10 (take (320 * p.l) pk)) s' m)

  -- decryption with a plain secret: from v, the inner product of b' and s modulo 1024
  unfoldable pub decrypted : List ℕ → List ℕ → List ℕ
  decrypted plain ct =
      packed 1
      (recovered p.g (added p)
      (inner_mod 1024 p.l (unpacked 10 (take (320 * p.l) ct)) (nat (unpacked 13 plain)))
      (unpacked p.bits (drop (320 * p.l) ct)))
