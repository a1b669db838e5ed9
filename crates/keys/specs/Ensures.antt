-- What the inner functions ensure.
use Rattle.std.specs.Prelude.{ℕ, List, ◌≡◌}
use Rattle.sets.specs.declared.Params.{Params}
use Rattle.keys.specs.Keys.{public_key, secret_key}

pub record KeyPair (p : Params) (matrix_seed secret_seed z pk' sk' : List ℕ) : Type 0 where
  pub public : pk' ≡ public_key p matrix_seed secret_seed
  pub secret : sk' ≡ secret_key p matrix_seed secret_seed z
