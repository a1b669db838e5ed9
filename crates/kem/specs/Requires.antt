-- What the inner functions require of their arguments.
use Rattle.std.specs.Prelude.{ℕ, ◌+◌, ◌*◌, ◌≡◌}
use Rattle.sets.specs.declared.Params.{Params}
use Rattle.sets.specs.Requires.{IsSet}

-- the secret key of its set's length, a ciphertext, and scratch for a secret and for the ciphertext made again
pub record AgainScratch (p : Params) (sk ct secret again : ℕ) : Type 0 where
  pub is_set : IsSet p
  pub sk_long : sk ≡ 416 * p.l + (p.pk + 64)
  pub ct_long : ct ≡ p.ct
  pub secret_long : secret ≡ 256 * p.l
  pub again_long : again ≡ p.ct

pub record DecapsScratch (p : Params) (sk ct secret again ss : ℕ) : Type 0 where
  pub scratch : AgainScratch p sk ct secret again
  pub ss_long : ss ≡ 32
