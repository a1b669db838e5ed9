-- Document 01, "Bytes" and "Steps": the public key, the secret key and its parts, of the set with parameters p; and the lookup of the
-- public key inside a secret key.
use Rattle.std.specs.Prelude.{ℕ, ◌+◌, ◌*◌, true, List, [], ◌∷◌, ◌++◌, eqb, length, take, drop}
use Rattle.questions.specs.Answers.{Question, earliest, written}
use Rattle.sets.specs.declared.Params.{Params}
use Rattle.sets.specs.Sets.{params_of, known}
use Rattle.sha3.specs.Hashes.{shake128, sha3_256}
use Rattle.algebra.specs.Ring.{residues}
use Rattle.packing.specs.Packing.{packed}
use Rattle.sampling.specs.Sampling.{secret}
use Rattle.lwr.specs.Lwr.{rounded_vector}

module _ (p : Params) where
  -- the public key: b, the rounded product of the transposed matrix and s, in 10 bits; then the stored matrix seed, the 32 bytes that
  -- SHAKE-128 makes of the given one
  unfoldable pub public_key : List ℕ → List ℕ → List ℕ
  public_key matrix_seed secret_seed =
      let stored : List ℕ = shake128 matrix_seed 32 in
      packed 10 (rounded_vector true p.l stored (secret p.l p.mu secret_seed)) ++ stored

  -- the plain secret: s modulo 8192 in 13 bits
  unfoldable pub plain_secret : List ℕ → List ℕ
  plain_secret secret_seed = packed 13 (residues 8192 (secret p.l p.mu secret_seed))

  -- the secret key: the plain secret, the public key, its hash and z
  unfoldable pub secret_key : List ℕ → List ℕ → List ℕ → List ℕ
  secret_key matrix_seed secret_seed z =
      let pk : List ℕ = public_key matrix_seed secret_seed in
      plain_secret secret_seed ++ (pk ++ (sha3_256 pk ++ z))

  -- the parts of a secret key
  abbrev pub plain_part : List ℕ → List ℕ
  plain_part sk = take (416 * p.l) sk

  abbrev pub key_part : List ℕ → List ℕ
  key_part sk = take p.pk (drop (416 * p.l) sk)

  abbrev pub hash_part : List ℕ → List ℕ
  hash_part sk = take 32 (drop (416 * p.l + p.pk) sk)

  abbrev pub z_part : List ℕ → List ℕ
  z_part sk = drop (416 * p.l + p.pk + 32) sk

-- the questions of a lookup, Q1 and Q5, by the set number and the secret key's length
abbrev pub lookup_questions : ℕ → ℕ → List Question
lookup_questions set sk = (known set, 1) ∷ (eqb sk (params_of set).sk, 5) ∷ []

-- the public key inside a secret key; nothing where a question says no
abbrev pub public_key_of : ℕ → List ℕ → List ℕ
public_key_of set sk = written (earliest (lookup_questions set (length sk))) (key_part (params_of set) sk) []
