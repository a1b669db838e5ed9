-- What the inner functions require of their arguments.
use Rattle.std.specs.Prelude.{ℕ, ◌+◌, ◌*◌, ◌≤◌, List, ◌≡◌, length}
use Rattle.lists.specs.Numbers.{Below}
use Rattle.sets.specs.declared.Params.{Params}
use Rattle.scheme_questions.specs.Requires.{KeygenLengths}

pub record PublicLengths (l secret pk : ℕ) : Type 0 where
  pub few : l ≤ 4
  pub secret_long : secret ≡ 256 * l
  pub pk_long : pk ≡ 320 * l + 32

pub record SecretLengths (l : ℕ) (secret : List ℕ) (pk z sk : ℕ) : Type 0 where
  pub secret_long : length secret ≡ 256 * l
  pub secret_below : Below 8192 secret
  pub z_long : z ≡ 32
  pub sk_long : sk ≡ 416 * l + (pk + 64)

pub record KeygenScratch (p : Params) (z secret pk sk : ℕ) : Type 0 where
  pub fits : KeygenLengths p z pk sk
  pub secret_long : secret ≡ 256 * p.l

-- a lookup that no question refuses: the public key's part lies within the secret key
pub record Found (p : Params) (sk : ℕ) : Type 0 where
  pub few : p.l ≤ 4
  pub pk_is : p.pk ≡ 320 * p.l + 32
  pub sk_is : sk ≡ 416 * p.l + (p.pk + 64)
