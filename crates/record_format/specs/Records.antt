-- Document 02, A1 and A7: the record of a sealed entry. Byte 0 is a bit map, and only the fields whose bit stands follow, in bit order,
-- little-endian; a wide door, bit 4, stands where the short one would.
use Rattle.std.specs.Prelude.{ℕ, ◌+◌, ◌*◌, ◌^◌, ◌<◌, Bool, not, ◌&&◌, Option, None, Some, unwrap_or, List, [], ◌∷◌, ◌++◌, ◌≡◌, eqb, ltb, leb, length, get_or, take, drop}
use Rattle.std.specs.Bool.{then_some}
use Rattle.std.specs.Option.{option_or}
use Rattle.lists.specs.Numbers.{number, digits, digit}
use Rattle.questions.specs.Answers.{Question, earliest}
use Rattle.sets.specs.Sets.{params_of, known}
use Rattle.record_format.specs.declared.Head.{Head}

-- The fields

-- a field that is a number: its bit in the map, and how many bytes it has
abbrev pub Field : Type 0
Field = ℕ × ℕ

-- these fields in the order in which they follow the map: short door, wide door, time and set. The ciphertext, bit 3, comes after them
unfoldable pub fields : List Field
fields = (0, 2) ∷ (4, 4) ∷ (1, 8) ∷ (2, 1) ∷ []

-- whether a bit of a map stands
abbrev pub stands : ℕ → ℕ → Bool
stands m bit = eqb (digit 2 m bit) 1

-- how many bytes a field takes under a map: none where its bit does not stand
abbrev pub taken : ℕ → Field → ℕ
taken m f = digit 2 m f.0 * f.1

unfoldable pub taken_by : ℕ → List Field → ℕ
taken_by m [] = 0
taken_by m (f ∷ fs) = taken m f + taken_by m fs

-- how many bytes come before the ciphertext: the map, and the fields whose bit stands
abbrev pub head_length : ℕ → ℕ
head_length m = 1 + taken_by m fields

-- Writing

-- A7: "A door up to 65535 is still written short". Doors from here on are wide
abbrev pub wide_from : ℕ
wide_from = 65536

-- a door's number in the short field, and in the wide one
abbrev pub short_door : Option ℕ → Option ℕ
short_door None = None
short_door (Some x) = then_some (ltb x wide_from) x

abbrev pub wide_door : Option ℕ → Option ℕ
wide_door None = None
wide_door (Some x) = then_some (leb wide_from x) x

-- all numbers, in the order of the fields; a door or a time may be missing, a set may not
abbrev pub numbers_of : Head → List (Option ℕ)
numbers_of h = short_door h.door ∷ wide_door h.door ∷ h.time ∷ Some h.set ∷ []

-- the bit of a number that is there, and its bytes, lowest first; a missing one has neither
abbrev pub bit_of : Field → Option ℕ → ℕ
bit_of f None = 0
bit_of f (Some x) = 2 ^ f.0

abbrev pub bytes_of : Field → Option ℕ → List ℕ
bytes_of f None = []
bytes_of f (Some x) = digits 256 f.1 x

-- all bits together, and all bytes one behind the other
unfoldable pub bits_of : List Field → List (Option ℕ) → ℕ
bits_of (f ∷ fs) (x ∷ xs) = bit_of f x + bits_of fs xs
bits_of [] xs = 0
bits_of (f ∷ fs) [] = 0

unfoldable pub laid : List Field → List (Option ℕ) → List ℕ
laid (f ∷ fs) (x ∷ xs) = bytes_of f x ++ laid fs xs
laid [] xs = []
laid (f ∷ fs) [] = []

-- the map of an entry: the bits of its numbers, and bit 3, since no ciphertext is missing
abbrev pub map_of : Head → ℕ
map_of h = bits_of fields (numbers_of h) + 8

-- the record of an entry, a head and a ciphertext
unfoldable pub record_of : Head → List ℕ → List ℕ
record_of h ciphertext = map_of h ∷ laid fields (numbers_of h) ++ ciphertext

-- the head of an entry to be written: it has the set that its number means
abbrev pub headed : Option ℕ → Option ℕ → ℕ → Head
headed door time set = record { door = door; time = time; set = (params_of set).number }

-- the questions of a writer, Q1, Q6 and Q9, by how many bytes come before the ciphertext, its set number and lengths
abbrev pub write_questions : ℕ → ℕ → ℕ → ℕ → List Question
write_questions head set ct size =
    (known set, 1) ∷ (eqb ct (params_of set).ct, 6) ∷ (eqb size (head + (params_of set).ct), 9) ∷ []

-- Reading. What follows is of every string; one that is too short gives what there is of it, and the questions refuse it

-- byte 0, or 0 in an empty record
abbrev pub map_in : List ℕ → ℕ
map_in s = get_or s 0 0

-- the numbers that stand one behind the other in a string, each where its bit stands
unfoldable pub numbers_in : ℕ → List Field → List ℕ → List (Option ℕ)
numbers_in m [] s = []
numbers_in m (f ∷ fs) s = then_some (stands m f.0) (number 256 (take f.1 s)) ∷ numbers_in m fs (drop (taken m f) s)

-- the head whose numbers these are
abbrev pub head_of : List (Option ℕ) → Head
head_of xs =
    record {
      door = option_or (get_or xs 0 None) (get_or xs 1 None);
      time = get_or xs 2 None;
      set = unwrap_or (get_or xs 3 None) 0;
    }

-- the head of the entry in a record, and its ciphertext
unfoldable pub head_in : List ℕ → Head
head_in s = head_of (numbers_in (map_in s) fields (drop 1 s))

abbrev pub ciphertext_in : List ℕ → List ℕ
ciphertext_in s = drop (head_length (map_in s)) s

-- whether a byte is a map. A7: "Bits 0 and 4 together fall under 10, and bit 4 leaves that refusal's list otherwise". So bits 5 to 7 are clear,
-- bits 0 and 4 do not both stand, and bits 2 and 3 do
abbrev pub is_map : ℕ → Bool
is_map m = ltb m 32 && not (stands m 0 && stands m 4) && stands m 2 && stands m 3

-- the questions of a reader, by the record's map, its door (0 where it is missing), its set byte, its length and the output's. 10: it is not
-- empty, and its map is one. 11: it is not too short for the set byte. 1: that is a set's own number, so not 0. 11: the total is what map and
-- set require. 12: it has no "wide field holding 65535 or less". 9: the output has the ciphertext's length
abbrev pub read_questions : ℕ → ℕ → ℕ → ℕ → ℕ → List Question
read_questions m door set size ct =
    (ltb 0 size, 10) ∷ (is_map m, 10)
    ∷ (leb (head_length m) size, 11)
    ∷ (ltb 0 set, 1) ∷ (known set, 1)
    ∷ (eqb size (head_length m + (params_of set).ct), 11)
    ∷ (not (stands m 4 && ltb door wide_from), 12)
    ∷ (eqb ct (params_of set).ct, 9) ∷ []

-- the answer to a read of the record s, where an output of ct bytes is lent
abbrev pub read_answer : List ℕ → ℕ → ℕ
read_answer s ct = earliest (read_questions (map_in s) (unwrap_or (head_in s).door 0) (head_in s).set (length s) ct)

-- One encoding for each entry

-- a number that may be missing fits a field of n bytes
abbrev pub Fits : ℕ → Option ℕ → Type 0
Fits n None = Unit {0}
Fits n (Some x) = x < 256 ^ n

-- the record s holds the entry of a head and a ciphertext: who lends an output of the ciphertext's length is given these
pub record Holds (s : List ℕ) (h : Head) (ciphertext : List ℕ) : Type 0 where
  pub accepted : read_answer s (length ciphertext) ≡ 0
  pub head : head_in s ≡ h
  pub rest : ciphertext_in s ≡ ciphertext
