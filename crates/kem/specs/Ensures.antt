-- What the inner functions ensure.
use Rattle.std.specs.Prelude.{ℕ, List, ◌++◌, ◌≡◌}
use Rattle.sets.specs.declared.Params.{Params}
use Rattle.sha3.specs.Hashes.{sha3_512}
use Rattle.keys.specs.Keys.{hash_part}
use Rattle.kem.specs.Kem.{encaps_ciphertext, encaps_secret, opened, made_again}

pub record Encapsulation (p : Params) (pk seed ct' ss' : List ℕ) : Type 0 where
  pub ciphertext : ct' ≡ encaps_ciphertext p pk seed
  pub shared_secret : ss' ≡ encaps_secret p pk seed

pub record MadeAgain (p : Params) (sk ct kr again' : List ℕ) : Type 0 where
  pub key : kr ≡ sha3_512 (opened p sk ct ++ hash_part p sk)
  pub again : again' ≡ made_again p sk ct
