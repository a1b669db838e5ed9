-- Document 02, A5: a line that `marginreport` prints, as bytes.
use Prim.Native.Char.{code}
use Rattle.std.specs.Prelude.{ℕ, List, [], ◌∷◌, ◌++◌, ℤ}
use Rattle.std.specs.Prelude as std
use Prim.Native.String.{String, len, char_at}
use Rattle.std.proofs.Math.Option.{Option, none, some}
use Rattle.lists.specs.Lists.{from}
use Rattle.decimals.specs.Decimals.{decimal}
use Rattle.decimals.specs.Signed.{number_text}
use Rattle.margin_line.specs.declared.Line.{Line}

-- the bytes of a text of ASCII characters
unfoldable pub ascii : String → List ℕ
ascii text = from (len text) (λ i. code (char_at text i))

-- a margin of the code, or none, as the definitions have it
abbrev pub held : std.Option ℤ → Option ℤ
held std.None = none
held (std.Some z) = some z

-- "signed, or `none`": a negative number has a minus, and no other has a sign
unfoldable pub least_text : Option ℤ → List ℕ
least_text none = ascii "none"
least_text (some z) = number_text z

-- words as a line, with a space between two of them: "Every line ends in one newline"
unfoldable pub line : List (List ℕ) → List ℕ
line [] = ascii "\n"
line (word ∷ []) = word ++ ascii "\n"
line (word ∷ next ∷ words) = word ++ ascii " " ++ line (next ∷ words)

-- the line of figures
unfoldable pub line_text : Line → List ℕ
line_text l = line (decimal l.set ∷ decimal l.cases ∷ least_text (held l.least.0) ∷ decimal l.wrong ∷ decimal l.rest ∷ [])
