-- The figures of a group, by the steps that compute them.
use Rattle.std.specs.Prelude.{ℕ, ◌*◌, ◌/◌, ◌<◌, ◌≤◌, List, ◌++◌, ◌≡◌, take, drop}
use Rattle.std.proofs.Math.Bool.{true}
use Rattle.std.proofs.Common.{◌∙◌, arith}
use Rattle.sets.specs.declared.Params.{Params}
use Rattle.sets.specs.Requires.{IsSet}
use Rattle.algebra.specs.Ring.{poly}
use Rattle.packing.specs.Packing.{unpacked}
use Rattle.packing.specs.Laws.Packing.{recut_length}
use Rattle.packing.specs.Laws.Polynomials.{rest_back}
use Rattle.algebra.specs.Vectors.{entry}
use Rattle.sponge.specs.Laws.Sponge.{length_sponge}
use Rattle.sha3.specs.Hashes.{shake128, sha3_256, sha3_512}
use Rattle.sampling.specs.Sampling.{matrix, secret}
use Rattle.sampling.specs.Laws.Sampling.{secret_bound}
use Rattle.lwr.specs.Lwr.{rounded_vector}
use Rattle.lwr.specs.Laws.Lwr.{length_vector}
use Rattle.pke.specs.Pke.{encrypted, decrypted}
use Rattle.keys.specs.Keys.{public_key}
use Rattle.keys.specs.Ensures.{KeyPair}
use Rattle.keys.specs.Laws.Parts.{plain_in}
use Rattle.kdf.specs.Kdf.{coins_of, message_of}
use Rattle.kdf.specs.Laws.Kdf.{coins_part}
use Rattle.kem.specs.Kem.{encaps_ciphertext}
use Rattle.noise.specs.Noise.{noise}
use Rattle.correctness.specs.Claim.{seeds_noise}
use Rattle.margin_noise.specs.Norm
use Rattle.margin_noise.specs.Laws.Exact.{noise_fits}
use Rattle.margin_bits.specs.Bits.{differing}
use Rattle.margin_bits.specs.Laws.Bits.{differing_most}
use Rattle.margin_group.specs.Margin.{matrix_seed, secret_seed, encaps_seed, norm, received, wrong_bits}
use Rattle.margin_group.specs.Laws.Measures.{few_sums}
use Rattle.margin_total.specs.Ensures.{Measured}

module _ (p : Params) (is_set : IsSet p) where
  -- the stored matrix seed in a public key
  stored_in : (a s : List ℕ) → drop (320 * p.l) (public_key p a s) ≡ shake128 a 32
  unfolding public_key
  stored_in a s =
      let key = secret p.l p.mu s in
      let b = rounded_vector true p.l (shake128 a 32) key in
      rest_back 10 p.l (omega arith) b (length_vector true p.l (shake128 a 32) key) (shake128 a 32) (320 * p.l) (omega arith)

  norm_fits_lem : (group : List ℕ) → norm p group < 32768
  unfolding norm seeds_noise
  norm_fits_lem group =
      noise_fits p.l (p.mu / 2) _ _ _ (secret_bound p.l p.mu _) (secret_bound p.l p.mu _) (few_sums p is_set)

  wrong_few_lem : (group : List ℕ) → wrong_bits p group ≤ 256
  unfolding wrong_bits
  wrong_few_lem group =
      let m = message_of (encaps_seed group) in
      let bits = recut_length 8 1 256 m (omega arith) (rw length_sponge (omega arith)) in
      omega (arith, differing_most (unpacked 1 m) (unpacked 1 (received p group)), bits)

  -- the steps that compute the figures of a group
  module _
      (group z : List ℕ) {pk sk : List ℕ} (keys : KeyPair p (matrix_seed group) (secret_seed group) z pk sk) {m hash kr : List ℕ}
      (em : m ≡ message_of (encaps_seed group)) (eh : hash ≡ sha3_256 pk) (ek : kr ≡ sha3_512 (m ++ hash)) where
    abbrev coins : List ℕ
    coins = take 32 (drop 32 kr)

    abbrev found : ℕ
    found =
        Norm.norm (noise 256 p.l (entry p.l (matrix p.l (drop (320 * p.l) pk)))
        (poly (secret p.l p.mu (secret_seed group))) (poly (secret p.l p.mu coins)))

    abbrev missed : ℕ
    missed = differing (unpacked 1 m) (unpacked 1 (decrypted p (take (416 * p.l) sk) (encrypted p pk m coins)))

    coins_are : coins ≡ coins_of (message_of (encaps_seed group)) (sha3_256 (public_key p (matrix_seed group) (secret_seed group)))
    coins_are = coins_part (m ++ hash) ek ∙ rw (ek, eh, em, keys.public)

    norm_is : found ≡ norm p group
    unfolding norm seeds_noise
    norm_is = rw (coins_are, keys.public, stored_in (matrix_seed group) (secret_seed group))

    wrong_is : missed ≡ wrong_bits p group
    unfolding wrong_bits received encaps_ciphertext
    wrong_is = rw (coins_are, em, keys.public, keys.secret, plain_in p is_set (matrix_seed group) (secret_seed group) z)

    pub group_steps : {n w : ℕ} → n ≡ found → w ≡ missed → Measured p group (record { norm = n; wrong = w })
    group_steps en ew =
        record {
          norm = en ∙ norm_is;
          wrong = ew ∙ wrong_is;
          norm_fits = omega (arith, en ∙ norm_is, norm_fits_lem group);
          wrong_few = omega (arith, ew ∙ wrong_is, wrong_few_lem group);
        }
