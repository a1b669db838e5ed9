-- The lookup of the public key inside a secret key, for callers that cannot be handed a part of a slice: where the part starts, and how long it is.
use Rattle.std.specs.Prelude.{ℕ, ◌*◌}
use Rattle.questions.specs.Answers.{earliest, written}
use Rattle.sets.specs.Sets.{params_of}
use Rattle.keys.specs.Keys.{lookup_questions}

-- by the set number and the secret key's length; 0 where the lookup refuses
abbrev pub key_offset : ℕ → ℕ → ℕ
key_offset set sk = written (earliest (lookup_questions set sk)) (416 * (params_of set).l) 0

abbrev pub key_length : ℕ → ℕ → ℕ
key_length set sk = written (earliest (lookup_questions set sk)) (params_of set).pk 0
