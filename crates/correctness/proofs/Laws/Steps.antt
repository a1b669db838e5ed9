-- Demand 3 over the steps alone: what the steps compute from four seeds is decrypted and decapsulated to what was encapsulated, within the bounds.
use Rattle.std.specs.Prelude.{ℕ, true, List, ◌≡◌}
use Rattle.lists.proofs.Laws.Strings.{same_refl}
use Rattle.sets.specs.declared.Params.{Params}
use Rattle.sets.specs.Sets
use Rattle.sets.specs.Sets.{params_of}
use Rattle.sets.specs.Requires.{IsSet}
use Rattle.sets.specs.Laws.Sets.{is_set_lem}
use Rattle.sponge.specs.Laws.Sponge.{length_sponge, sponge_below}
use Rattle.sha3.specs.Hashes.{shake128, sha3_256}
use Rattle.pke.specs.Pke.{decrypted}
use Rattle.keys.specs.Keys.{public_key, plain_secret, secret_key, plain_part}
use Rattle.keys.specs.Laws.Parts.{plain_in, key_in, hash_in}
use Rattle.kdf.specs.Kdf.{coins_of, message_of}
use Rattle.kem.specs.Kem.{encaps_ciphertext, encaps_secret, decaps_secret}
use Rattle.noise.proofs.Laws.Theorem.{fits}
use Rattle.correctness.specs.Claim.{seeds_noise, seeds_ciphertext, NoiseWithin, Returned}
use Rattle.correctness.proofs.Laws.Decryption.{decrypts}

module _ (set : ℕ) (known : Sets.known set ≡ true) (matrix_seed secret_seed z seed : List ℕ) where
  abbrev p : Params
  p = params_of set

  is_set : IsSet p
  is_set = is_set_lem set known

  module _ (within : NoiseWithin p matrix_seed secret_seed seed) where
    message_back : decrypted p (plain_part p (secret_key p matrix_seed secret_seed z)) (seeds_ciphertext p matrix_seed secret_seed seed) ≡ message_of seed
    unfolding seeds_noise encaps_ciphertext public_key plain_secret
    message_back =
        rw (plain_in p is_set matrix_seed secret_seed z)
        (decrypts p is_set (fits set known) (shake128 matrix_seed 32) secret_seed
        (coins_of (message_of seed) (sha3_256 (public_key p matrix_seed secret_seed))) (message_of seed) (length_sponge 136 6 seed 32)
        (sponge_below 136 6 seed 32) within)

    secret_back :
        decaps_secret p (secret_key p matrix_seed secret_seed z) (seeds_ciphertext p matrix_seed secret_seed seed)
        ≡ encaps_secret p (public_key p matrix_seed secret_seed) seed
    unfolding decaps_secret encaps_secret encaps_ciphertext
    secret_back =
        rw (
          message_back,
          key_in p is_set matrix_seed secret_seed z,
          hash_in p is_set matrix_seed secret_seed z,
          same_refl (seeds_ciphertext p matrix_seed secret_seed seed),
        )

    -- demand 3 over the steps
    pub returned : Returned p matrix_seed secret_seed seed z
    returned = record { message = message_back; secret = secret_back }
