-- Document 02, A2: rejected secrets follow the ciphertext.
use Rattle.std.specs.Prelude.{ℕ, false, List, ◌++◌, ◌≡◌, length, drop}
use Rattle.std.proofs.Common.{sym, ap, ◌∙◌}
use Rattle.std.proofs.Math.Seq.{drop-append_seam}
use Rattle.sets.specs.declared.Params.{Params}
use Rattle.sha3.specs.Hashes.{sha3_256}
use Rattle.kdf.specs.Kdf.{secret_under}
use Rattle.keys.specs.Keys.{z_part}
use Rattle.kem.specs.Kem.{accepted, decaps_secret, Apart}

-- a rejected secret is of z and the ciphertext, whatever the ciphertext decrypts to
pub rejected : (p : Params) (sk ct : List ℕ) → accepted p sk ct ≡ false → decaps_secret p sk ct ≡ secret_under (z_part p sk) ct
unfolding decaps_secret
rejected p sk ct e = rw e

-- two rejected ciphertexts that give one secret are one, unless they, or what is hashed of them in the end, are a collision of SHA3-256
pub follows :
    (p : Params) (sk a b : List ℕ) → accepted p sk a ≡ false → accepted p sk b ≡ false → decaps_secret p sk a ≡ decaps_secret p sk b →
    Apart a b → Apart (z_part p sk ++ sha3_256 a) (z_part p sk ++ sha3_256 b) → a ≡ b
follows p sk a b ra rb e apart last =
    apart
    (sym (drop-append_seam (z_part p sk) _)
    ∙ ap (drop (length (z_part p sk))) (last (sym (rejected p sk a ra) ∙ e ∙ rejected p sk b rb))
    ∙ drop-append_seam (z_part p sk) _)
