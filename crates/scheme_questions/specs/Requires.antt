-- What an answer of 0 gives the work of each call: the set's parameters, and the lengths.
use Rattle.std.specs.Prelude.{ℕ, ◌*◌, ◌≡◌}
use Rattle.sets.specs.declared.Params.{Params}
use Rattle.sets.specs.Requires.{IsSet}

pub record KeygenLengths (p : Params) (z pk sk : ℕ) : Type 0 where
  pub is_set : IsSet p
  pub z_long : z ≡ 32
  pub pk_long : pk ≡ p.pk
  pub sk_long : sk ≡ p.sk

pub record EncapsLengths (p : Params) (pk ct ss : ℕ) : Type 0 where
  pub is_set : IsSet p
  pub pk_long : pk ≡ p.pk
  pub ct_long : ct ≡ p.ct
  pub ss_long : ss ≡ 32

pub record DecapsLengths (p : Params) (sk ct ss : ℕ) : Type 0 where
  pub is_set : IsSet p
  pub sk_long : sk ≡ p.sk
  pub ct_long : ct ≡ p.ct
  pub ss_long : ss ≡ 32

pub record EncryptLengths (p : Params) (pk message ct : ℕ) : Type 0 where
  pub is_set : IsSet p
  pub pk_long : pk ≡ p.pk
  pub message_long : message ≡ 32
  pub ct_long : ct ≡ p.ct

pub record DecryptLengths (p : Params) (plain ct message : ℕ) : Type 0 where
  pub is_set : IsSet p
  pub plain_long : plain ≡ 416 * p.l
  pub ct_long : ct ≡ p.ct
  pub message_long : message ≡ 32
