-- Document 02, A5: what `marginreport` prints of all that it reads, as bytes.
use Rattle.std.specs.Prelude.{ℕ, Bool, cond, ◌&&◌, List, [], ◌∷◌, ◌++◌, Option, Some, None, ltb}
use Rattle.sets.specs.Sets.{params_of, known}
use Rattle.decimals.specs.Decimals.{decimal}
use Rattle.margin_line.specs.declared.Line.{Line}
use Rattle.margin_line.specs.Line.{ascii, least_text, line, line_text}
use Rattle.margin_group.specs.Margin.{cases, least, wrong, rest}

-- "one byte with the set number": a set's own, so 0 is none
abbrev pub is_set : ℕ → Bool
is_set byte = ltb 0 byte && known byte

-- the header
unfoldable pub header : List ℕ
header = ascii "set cases least wrong rest\n"

-- "the header `set cases least wrong rest` and one line: set, whole groups read, the smallest .., message bits decrypted wrong .., bytes left
-- over"
unfoldable pub figures : ℕ → List ℕ → List ℕ
figures set bytes =
    header
    ++ line
    (decimal set
    ∷ decimal (cases bytes)
    ∷ least_text (least (params_of set) bytes)
    ∷ decimal (wrong (params_of set) bytes)
    ∷ decimal (rest bytes)
    ∷ [])

unfoldable pub refusal : List ℕ
refusal = ascii "refused 1\n"

-- "It refuses a missing or other first byte by printing only `refused 1`"
unfoldable pub report_of : List ℕ → List ℕ
report_of [] = refusal
report_of (set ∷ bytes) = cond (is_set set) (figures set bytes) refusal

-- what a report shows: the header and the line of its figures, or the refusal
unfoldable pub report_text : Option Line → List ℕ
report_text None = refusal
report_text (Some l) = header ++ line_text l
