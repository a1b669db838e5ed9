-- The lengths of the keys that the steps make, and the parts of the secret key that the later calls read.
use Rattle.std.specs.Prelude.{ℕ, ◌*◌, List, ◌++◌, ◌≡◌, length, drop}
use Rattle.std.proofs.Math.Bool.{true}
use Rattle.std.proofs.Common.{◌∙◌, drop-drop}
use native.Mathlib.Omega.{arith}
use Rattle.std.proofs.Math.ListN.{length-append}
use Rattle.std.proofs.lemmas.List.{length-map}
use Rattle.std.proofs.Math.Seq.{take_at, drop_at}
use Rattle.sets.specs.declared.Params.{Params}
use Rattle.sets.specs.Requires.{IsSet}
use Rattle.algebra.specs.Integers.{modℤ}
use Rattle.algebra.specs.Ring.{residues}
use Rattle.packing.specs.Laws.Polynomials.{length_packed}
use Rattle.sponge.specs.Laws.Sponge.{length_sponge}
use Rattle.sha3.specs.Hashes.{shake128, sha3_256}
use Rattle.sampling.specs.Sampling.{secret}
use Rattle.sampling.specs.Laws.Sampling.{length_secret}
use Rattle.lwr.specs.Laws.Lwr.{length_packed_vector}
use Rattle.keys.specs.Keys.{public_key, plain_secret, secret_key, plain_part, key_part, hash_part}

module _ (p : Params) (is_set : IsSet p) (matrix_seed secret_seed z : List ℕ) where
  abbrev pk : List ℕ
  pk = public_key p matrix_seed secret_seed

  abbrev sk : List ℕ
  sk = secret_key p matrix_seed secret_seed z

  pub length_public : length pk ≡ p.pk
  unfolding public_key
  length_public =
      rw (
        length-append,
        length_packed_vector true p.l (shake128 matrix_seed 32) (secret p.l p.mu secret_seed),
        length_sponge,
      )
      (omega (arith, is_set.pk_is))

  -- s modulo 8192 is as long as s
  pub length_residues : length (residues 8192 (secret p.l p.mu secret_seed)) ≡ 256 * p.l
  length_residues =
      length-map (secret p.l p.mu secret_seed) (λ z. modℤ z 8192)
      ∙ length_secret p.l p.mu secret_seed (record { least = is_set.mu_some; most = is_set.mu_few; even = is_set.mu_even })

  length_plain : length (plain_secret p secret_seed) ≡ 416 * p.l
  unfolding plain_secret
  length_plain = length_packed 13 p.l (omega arith) (residues 8192 (secret p.l p.mu secret_seed)) length_residues ∙ omega arith

  pub length_secret_key : length z ≡ 32 → length sk ≡ p.sk
  unfolding secret_key
  length_secret_key long = simp (length-append, length_plain, length_public, length_sponge, long) (omega (arith, is_set.sums.sk_is))

  pub plain_in : plain_part p sk ≡ plain_secret p secret_seed
  unfolding secret_key
  plain_in = take_at (plain_secret p secret_seed) _ _ length_plain

  pub length_plain_part : length (plain_part p sk) ≡ 416 * p.l
  length_plain_part = rw plain_in length_plain

  after_plain : drop (416 * p.l) sk ≡ pk ++ (sha3_256 pk ++ z)
  unfolding secret_key
  after_plain = drop_at (plain_secret p secret_seed) _ _ length_plain

  pub key_in : key_part p sk ≡ pk
  key_in = rw after_plain (take_at pk _ _ length_public)

  pub hash_in : hash_part p sk ≡ sha3_256 pk
  hash_in =
      rw (← drop-drop p.pk (416 * p.l) sk, after_plain, drop_at pk (sha3_256 pk ++ z) p.pk length_public)
      (take_at (sha3_256 pk) z 32 (length_sponge 136 6 pk 32))
