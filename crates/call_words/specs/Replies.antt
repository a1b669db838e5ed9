-- The words of a reply.
use Rattle.std.specs.Prelude.{ℕ, Bool, cond, eqb, List, flat_map, ◌∷◌, ◌≡◌, true, Option, None, Some, codes, decimal, length}
use Rattle.std.specs.Borrow.{MutBor}
use Rattle.std.specs.Int.{to_be_bytes, w16}
use Rattle.std.specs.Io.KnownBytes.{Appends}
use Rattle.hex.specs.Hex.{encode_lower}
use Rattle.call_words.specs.Words.{space}
use Rattle.call_words.specs.declared.Reply.{Reply}
use Rattle.call_words.specs.declared.Fault.{Fault}
use Rattle.call_words.specs.declared.Fault.TheVariants.{TooLong, UnknownCall, WrongCount, BadDigit, OddCount, TooLarge, OutOfMemory}

-- a word, behind a space where a word stands before
abbrev pub word_behind : Bool → List ℕ → List ℕ
word_behind before word = cond before (space ∷ word) word

abbrev pub fault_text : Fault → List ℕ
fault_text TooLong = codes "too long"
fault_text UnknownCall = codes "unknown call"
fault_text WrongCount = codes "wrong count"
fault_text BadDigit = codes "bad digit"
fault_text OddCount = codes "odd count"
fault_text TooLarge = codes "too large"
fault_text OutOfMemory = codes "out of memory"

-- a number that may be missing
abbrev pub optional_text : Option ℕ → List ℕ
optional_text None = codes "-"
optional_text (Some x) = decimal x

-- bytes as hex pairs
abbrev pub bytes_text : List ℕ → List ℕ
bytes_text bytes = cond (eqb (length bytes) 0) (codes "-") (encode_lower bytes)

-- numbers of 16 bits, high byte first
abbrev pub numbers_text : List ℕ → List ℕ
numbers_text list = bytes_text (flat_map (λ x. to_be_bytes w16 x) list)

module _ {W : Type 0} where
  -- what the writer of a reply holds, by the `contents` of its type
  abbrev pub written : (W → Option (List ℕ)) → Reply W → Option (List ℕ)
  written contents reply = contents reply.to.now

  -- whether a word of a reply is written
  abbrev pub has_word : Reply W → Bool
  has_word reply = reply.is_begun

  -- a reply has a word more
  abbrev pub AddsWord : (W → Option (List ℕ)) → List ℕ → Reply W → Reply W → Type 0
  AddsWord contents word old new =
      Appends (written contents old) (written contents new) (word_behind (has_word old) word) × (has_word new ≡ true)

  -- a reply writes to the writer that is lent
  abbrev pub WritesTo : Reply W → MutBor W → Type 0
  WritesTo reply to = reply.to.ghost_name ≡ to.ghost_name

  -- a reply still writes to the same writer
  abbrev pub SameWriter : Reply W → Reply W → Type 0
  SameWriter old new = new.to.ghost_name ≡ old.to.ghost_name
