-- Document 02, A5: what is reported of groups of seeds, under the set with the parameters p.
use Rattle.std.specs.Prelude.{ℕ, ◌+◌, ◌*◌, ◌/◌, ◌%◌, min, cond, List, [], ◌∷◌, map, ltb, ℤ, pos, ◌-ℤ◌, length, take, drop}
use Rattle.std.proofs.Math.Option.{Option, none, some}
use Rattle.std.specs.Int.Signed.{lt_z}
use Rattle.lists.specs.Lists.{from}
use Rattle.sets.specs.declared.Params.{Params}
use Rattle.packing.specs.Packing.{unpacked}
use Rattle.pke.specs.Pke.{decrypted}
use Rattle.keys.specs.Keys.{plain_secret}
use Rattle.kdf.specs.Kdf.{message_of}
use Rattle.noise.specs.Noise.{bound}
use Rattle.margin_noise.specs.Norm
use Rattle.margin_bits.specs.Bits.{differing}
use Rattle.correctness.specs.Claim.{seeds_noise, seeds_ciphertext}

-- ---- one group

-- "(matrix seed, secret seed, sealing seed)", of 32 bytes each; the last one is the seed of encapsulation
abbrev pub matrix_seed : List ℕ → List ℕ
matrix_seed group = take 32 group

abbrev pub secret_seed : List ℕ → List ℕ
secret_seed group = take 32 (drop 32 group)

abbrev pub encaps_seed : List ℕ → List ℕ
encaps_seed group = take 32 (drop 64 group)

module _ (p : Params) (group : List ℕ) where
  -- "the largest size of a noise coefficient": the norm of the noise
  unfoldable pub norm : ℕ
  norm = Norm.norm (seeds_noise p (matrix_seed group) (secret_seed group) (encaps_seed group))

  -- "8 × M minus" it
  abbrev pub margin : ℤ
  margin = pos (bound p.margin) -ℤ pos norm

  -- what decryption gives, with the plain secret, of the ciphertext that the steps compute from the seeds
  unfoldable pub received : List ℕ
  received = decrypted p (plain_secret p (secret_seed group)) (seeds_ciphertext p (matrix_seed group) (secret_seed group) (encaps_seed group))

  -- "message bits decrypted wrong": those in which it differs from the message that was encrypted
  unfoldable pub wrong_bits : ℕ
  wrong_bits = differing (unpacked 1 (message_of (encaps_seed group))) (unpacked 1 received)

-- ---- all groups of a string of bytes

-- "whole groups read", of 96 bytes; after 4096 groups no more is read
abbrev pub cases : List ℕ → ℕ
cases bytes = min (length bytes / 96) 4096

unfoldable pub groups : List ℕ → List (List ℕ)
groups bytes = from (cases bytes) (λ i. take 96 (drop (96 * i) bytes))

-- "bytes left over"; after 4096 groups "the rest is 0"
abbrev pub rest : List ℕ → ℕ
rest bytes = cond (ltb (cases bytes) 4096) (length bytes % 96) 0

-- the smaller of a number and another, if there is one, and the smallest of a list, which an empty one does not have
abbrev pub smaller : ℤ → Option ℤ → ℤ
smaller x none = x
smaller x (some y) = cond (lt_z y x) y x

unfoldable pub smallest : List ℤ → Option ℤ
smallest [] = none
smallest (z ∷ zs) = some (smaller z (smallest zs))

unfoldable pub total : List ℕ → ℕ
total [] = 0
total (x ∷ xs) = x + total xs

module _ (p : Params) (bytes : List ℕ) where
  -- "the smallest over all groups", and the wrong bits "over all groups"
  unfoldable pub least : Option ℤ
  least = smallest (map (margin p) (groups bytes))

  unfoldable pub wrong : ℕ
  wrong = total (map (wrong_bits p) (groups bytes))
