-- Document 01, "Steps", and document 02, A2: what encapsulation ("sealing") and decapsulation ("unsealing") hash.
use Rattle.std.specs.Prelude.{ℕ, List, ◌++◌, take, drop}
use Rattle.sha3.specs.Hashes.{sha3_256, sha3_512}

-- SHA3-512 of m and the hash of the public key: k is the first half, r, the coins of encryption, the second
abbrev pub key_of : List ℕ → List ℕ → List ℕ
key_of m hash = take 32 (sha3_512 (m ++ hash))

abbrev pub coins_of : List ℕ → List ℕ → List ℕ
coins_of m hash = drop 32 (sha3_512 (m ++ hash))

-- the secret of a ciphertext under a key of 32 bytes: under k the shared one and, by document 02, A2, under z the rejected one
abbrev pub secret_under : List ℕ → List ℕ → List ℕ
secret_under key ct = sha3_256 (key ++ sha3_256 ct)

-- m of the caller's 32 bytes, the "sealed message"
abbrev pub message_of : List ℕ → List ℕ
message_of seed = sha3_256 seed
