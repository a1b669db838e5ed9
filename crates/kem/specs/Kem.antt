-- Document 01, "Steps", and document 02, A2: encapsulation ("sealing") and decapsulation ("unsealing"), of the set with parameters p.
-- The capsule is the ciphertext.
use Rattle.std.specs.Prelude.{ℕ, Bool, cond, List, ◌≡◌}
use Rattle.lists.specs.Strings.{same}
use Rattle.sets.specs.declared.Params.{Params}
use Rattle.sha3.specs.Hashes.{sha3_256}
use Rattle.kdf.specs.Kdf.{key_of, coins_of, secret_under, message_of}
use Rattle.pke.specs.Pke.{encrypted, decrypted}
use Rattle.keys.specs.Keys.{plain_part, key_part, hash_part, z_part}

module _ (p : Params) where
  -- encapsulation to a public key: the ciphertext and the shared secret
  unfoldable pub encaps_ciphertext : List ℕ → List ℕ → List ℕ
  encaps_ciphertext pk seed = encrypted p pk (message_of seed) (coins_of (message_of seed) (sha3_256 pk))

  unfoldable pub encaps_secret : List ℕ → List ℕ → List ℕ
  encaps_secret pk seed = secret_under (key_of (message_of seed) (sha3_256 pk)) (encaps_ciphertext pk seed)

  -- decapsulation: m is decrypted, and encrypted again with the stored hash and public key
  abbrev pub opened : List ℕ → List ℕ → List ℕ
  opened sk ct = decrypted p (plain_part p sk) ct

  abbrev pub made_again : List ℕ → List ℕ → List ℕ
  made_again sk ct = encrypted p (key_part p sk) (opened sk ct) (coins_of (opened sk ct) (hash_part p sk))

  -- a ciphertext is accepted where it is the one made again, compared over all bytes
  abbrev pub accepted : List ℕ → List ℕ → Bool
  accepted sk ct = same (made_again sk ct) ct

  -- the secret of the received ciphertext: under k if it is accepted, which is the shared secret, else under z
  unfoldable pub decaps_secret : List ℕ → List ℕ → List ℕ
  decaps_secret sk ct = secret_under (cond (accepted sk ct) (key_of (opened sk ct) (hash_part p sk)) (z_part p sk)) ct

-- SHA3-256 has no collision at two strings
abbrev pub Apart : List ℕ → List ℕ → Type 0
Apart x y = sha3_256 x ≡ sha3_256 y → x ≡ y
