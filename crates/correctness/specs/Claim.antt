-- Demand 3, as document 01's "Noise" reads it: the noise of the four seeds, when it is within the bounds, and what the steps and the four
-- calls then give.
use Rattle.std.specs.Prelude.{ℕ, true, List, ◌≡◌, ℤ}
use Rattle.sets.specs.declared.Params.{Params}
use Rattle.sets.specs.Sets
use Rattle.sets.specs.Sets.{params_of}
use Rattle.algebra.specs.Ring.{poly}
use Rattle.algebra.specs.Vectors.{entry}
use Rattle.sha3.specs.Hashes.{shake128, sha3_256}
use Rattle.sampling.specs.Sampling.{matrix, secret}
use Rattle.pke.specs.Pke.{decrypted}
use Rattle.pke.specs.Promises.{Decrypted}
use Rattle.keys.specs.Keys.{public_key, secret_key, plain_part}
use Rattle.keys.specs.Promises.{Generated}
use Rattle.kdf.specs.Kdf.{message_of, coins_of}
use Rattle.kem.specs.Kem.{encaps_ciphertext, encaps_secret, decaps_secret}
use Rattle.kem.specs.Promises.{Encapsulated, Decapsulated}
use Rattle.noise.specs.Noise.{Within, noise}
use Rattle.correctness.specs.declared.SetNumbers.{SetNumbers}

-- the matrix seed and the secret seed of key generation, and the seed of encapsulation
module _ (p : Params) (matrix_seed secret_seed seed : List ℕ) where
  -- s of key generation
  abbrev pub key_secret : List ℤ
  key_secret = secret p.l p.mu secret_seed

  -- s' of encapsulation to the public key that key generation wrote: its seed is r
  abbrev pub encryption_secret : List ℤ
  encryption_secret = secret p.l p.mu (coins_of (message_of seed) (sha3_256 (public_key p matrix_seed secret_seed)))

  -- N, computed from the seeds by the steps
  unfoldable pub seeds_noise : List ℤ
  seeds_noise = noise 256 p.l (entry p.l (matrix p.l (shake128 matrix_seed 32))) (poly key_secret) (poly encryption_secret)

  -- every coefficient lies in -8 M .. 8 M
  abbrev pub NoiseWithin : Type 0
  NoiseWithin = Within p.margin seeds_noise

  -- the ciphertext that the steps compute from the seeds
  abbrev pub seeds_ciphertext : List ℕ
  seeds_ciphertext = encaps_ciphertext p (public_key p matrix_seed secret_seed) seed

  -- with the secret key that they compute, decryption gives back m, and decapsulation the shared secret of encapsulation
  pub record Returned (z : List ℕ) : Type 0 where
    pub message : decrypted p (plain_part p (secret_key p matrix_seed secret_seed z)) seeds_ciphertext ≡ message_of seed
    pub secret : decaps_secret p (secret_key p matrix_seed secret_seed z) seeds_ciphertext ≡ encaps_secret p (public_key p matrix_seed secret_seed) seed

-- the set that keys are generated under
abbrev pub keys_set : SetNumbers → Params
keys_set sets = params_of sets.keygen

-- the four set numbers mean one set, 0 counting as the set it means
pub record OneSet (sets : SetNumbers) : Type 0 where
  pub known : Sets.known sets.keygen ≡ true
  pub encaps : params_of sets.encaps ≡ keys_set sets
  pub decrypt : params_of sets.decrypt ≡ keys_set sets
  pub decaps : params_of sets.decaps ≡ keys_set sets

-- one set, four seeds of 32 bytes, and outputs of their results' lengths
pub record Ready (sets : SetNumbers) (matrix_seed secret_seed z seed pk sk ct ss message secret : ℕ) : Type 0 where
  pub one_set : OneSet sets
  pub matrix_seed_long : matrix_seed ≡ 32
  pub secret_seed_long : secret_seed ≡ 32
  pub z_long : z ≡ 32
  pub seed_long : seed ≡ 32
  pub pk_long : pk ≡ (keys_set sets).pk
  pub sk_long : sk ≡ (keys_set sets).sk
  pub ct_long : ct ≡ (keys_set sets).ct
  pub ss_long : ss ≡ 32
  pub message_long : message ≡ 32
  pub secret_long : secret ≡ 32

-- the four calls, each on what the earlier ones wrote: r1 .. r4 are their answers, a primed list is an output at exit
pub record Calls
    (sets : SetNumbers) (matrix_seed secret_seed z seed pk sk ct ss message secret : List ℕ) (r1 r2 r3 r4 : ℕ)
    (pk' sk' ct' ss' message' secret' : List ℕ) : Type 0 where
  pub keygen : Generated sets.keygen matrix_seed secret_seed z pk sk r1 pk' sk'
  pub encaps : Encapsulated sets.encaps pk' seed ct ss r2 ct' ss'
  pub decrypt : Decrypted sets.decrypt (plain_part (params_of sets.decrypt) sk') ct' message r3 message'
  pub decaps : Decapsulated sets.decaps sk' ct' secret r4 secret'

-- no call refuses
pub record Accepted (r1 r2 r3 r4 : ℕ) : Type 0 where
  pub keygen : r1 ≡ 0
  pub encaps : r2 ≡ 0
  pub decrypt : r3 ≡ 0
  pub decaps : r4 ≡ 0

-- decryption wrote all of m, and decapsulation all of the shared secret that encapsulation wrote
pub record Agreed (seed ss' message' secret' : List ℕ) : Type 0 where
  pub message : message' ≡ message_of seed
  pub secret : secret' ≡ ss'
