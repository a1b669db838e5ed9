-- What the functions require of their arguments.
use Rattle.std.specs.Prelude.{ℕ, ◌≡◌}
use Rattle.sets.specs.declared.Params.{Params}
use Rattle.sets.specs.Requires.{IsSet}

-- `wrong_of`: a key pair
pub record WrongLengths (p : Params) (pk sk : ℕ) : Type 0 where
  pub is_set : IsSet p
  pub pk_long : pk ≡ p.pk
  pub sk_long : sk ≡ p.sk

-- `norm_of`: a public key
pub record NormLengths (p : Params) (pk : ℕ) : Type 0 where
  pub is_set : IsSet p
  pub pk_long : pk ≡ p.pk
