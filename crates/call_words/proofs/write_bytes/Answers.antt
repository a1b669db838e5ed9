-- `call_words::write_bytes`: no bytes are written as `-`.
use Rattle.std.proofs.Common.{◌≡◌, List, ℕ, true, eqb, codes, length, refl}
use Rattle.call_words.specs.Replies.{bytes_text}
use Rattle.call_words.proofs.write_bytes.Goals as goal

no_bytes : (bytes : List ℕ) → true ≡ eqb (length bytes) 0 → bytes_text bytes ≡ codes "-"
no_bytes bytes e = rw (← e) refl

pub returns-then-is_empty : goal.returns-then-is_empty
returns-then-is_empty g c = rw (no_bytes c.args.bytes.now c.if-is_empty.ensures) c.write_all.ensures
