-- What the inner functions require: `..Lengths` of arguments and outputs, `..Scratch` of lent scratch too.
use Rattle.std.specs.Prelude.{ℕ, ◌+◌, ◌*◌, ◌≤◌, ◌≡◌}
use Rattle.sets.specs.declared.Params.{Params}
use Rattle.sets.specs.Requires.{IsSet}
use Rattle.scheme_questions.specs.Requires.{EncryptLengths, DecryptLengths}

-- the reconciliation data of a message, at a place of the ciphertext, and back
pub record DataLengths (p : Params) (message place ct : ℕ) : Type 0 where
  pub is_set : IsSet p
  pub message_long : message ≡ 32
  pub fits : place + 32 * p.bits ≤ ct

pub record MessageLengths (p : Params) (numbers message : ℕ) : Type 0 where
  pub is_set : IsSet p
  pub numbers_long : numbers ≡ 32 * p.bits
  pub message_long : message ≡ 32

pub record EncryptScratch (p : Params) (pk message secret ct : ℕ) : Type 0 where
  pub fits : EncryptLengths p pk message ct
  pub secret_long : secret ≡ 256 * p.l

pub record DecryptScratch (p : Params) (plain ct secret message : ℕ) : Type 0 where
  pub fits : DecryptLengths p plain ct message
  pub secret_long : secret ≡ 256 * p.l
