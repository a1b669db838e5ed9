-- The record of A1, as it was before A7. Of today's definitions it takes the head of an entry and the way questions are asked, and nothing
-- else, so that no later request changes it. `Laws/Before` says that old records read as before.
use Rattle.std.specs.Prelude.{ℕ, zero, suc, ◌+◌, ◌*◌, ◌/◌, ◌%◌, ◌^◌, Bool, true, cond, ◌&&◌, Option, None, Some, List, [], ◌∷◌, ◌++◌, eqb, ltb, leb, length, get_or, take, drop}
use Rattle.questions.specs.Answers.{Question, earliest}
use Rattle.record_format.specs.declared.Head.{Head}

-- "Byte 0 is a bit map": in an empty record it is 0. Bit k is 0 or 1, and 1 where it stands
abbrev pub map_in : List ℕ → ℕ
map_in s = get_or s 0 0

abbrev pub bit : ℕ → ℕ → ℕ
bit m k = m / 2 ^ k % 2

abbrev pub stands : ℕ → ℕ → Bool
stands m k = eqb (bit m k) 1

-- "only fields whose bit stands follow, in bit order": a door begins at 1, a time, the set and the ciphertext at these places
abbrev pub time_at : ℕ → ℕ
time_at m = 1 + bit m 0 * 2

abbrev pub set_at : ℕ → ℕ
set_at m = time_at m + bit m 1 * 8

abbrev pub ciphertext_at : ℕ → ℕ
ciphertext_at m = set_at m + bit m 2 * 1

-- "little-endian": the number that bytes hold, and the n bytes of a number
unfoldable pub number : List ℕ → ℕ
number [] = 0
number (b ∷ bs) = b + 256 * number bs

unfoldable pub bytes : ℕ → ℕ → List ℕ
bytes zero x = []
bytes (suc n) x = x % 256 ∷ bytes n (x / 256)

-- "Bit 0: door number, 2 bytes": the door in a record, and which doors there are
abbrev pub door_in : List ℕ → Option ℕ
door_in s = cond (stands (map_in s) 0) (Some (number (take 2 (drop 1 s)))) None

abbrev pub is_door : Option ℕ → Bool
is_door None = true
is_door (Some x) = ltb x 65536

-- "Bit 1: time, 8 bytes, any value": the time in a record
abbrev pub time_in : List ℕ → Option ℕ
time_in s = cond (stands (map_in s) 1) (Some (number (take 8 (drop (time_at (map_in s)) s)))) None

-- "Bit 2: set, 1 byte, 1 to 3": the set in a record, and which sets there are
abbrev pub set_in : List ℕ → ℕ
set_in s = cond (stands (map_in s) 2) (number (take 1 (drop (set_at (map_in s)) s))) 0

abbrev pub is_set : ℕ → Bool
is_set set = ltb 0 set && ltb set 4

-- "Bit 3: capsule, its set's length": the capsule in a record, and the length that a set gives it
abbrev pub ciphertext_in : List ℕ → List ℕ
ciphertext_in s = drop (ciphertext_at (map_in s)) s

abbrev pub ciphertext_length : ℕ → ℕ
ciphertext_length set = cond (eqb set 1) 736 (cond (eqb set 2) 1088 1472)

-- "Door and time may be missing, set and capsule may not": the bit and the bytes of a door and of a time; a missing one has neither
abbrev pub door_part : Option ℕ → ℕ × List ℕ
door_part None = (0, [])
door_part (Some x) = (1, bytes 2 x)

abbrev pub time_part : Option ℕ → ℕ × List ℕ
time_part None = (0, [])
time_part (Some x) = (2, bytes 8 x)

-- "a writer": the record of an entry. 4 and 8 are the bits of the set and the ciphertext
unfoldable pub record_of : Head → List ℕ → List ℕ
record_of h ciphertext =
    let d = door_part h.door in
    let t = time_part h.time in
    (d.0 + t.0 + 4 + 8) ∷ d.1 ++ (t.1 ++ (h.set ∷ ciphertext))

-- "and a reader": the head of the entry in a record
abbrev pub head_in : List ℕ → Head
head_in s = record { door = door_in s; time = time_in s; set = set_in s }

-- "The reader refuses with 10 an empty record or a map with bits 4 to 7 set or bit 2 or 3 clear"
abbrev pub is_map : ℕ → Bool
is_map m = ltb m 16 && stands m 2 && stands m 3

-- "then with 11 a length other than the map and set require (first too short for the set byte, then 1 for a bad set byte, then the total), and
-- for both output lengths are asked last, with 9"
abbrev pub read_questions : List ℕ → ℕ → List Question
read_questions s ct =
    (ltb 0 (length s), 10) ∷ (is_map (map_in s), 10)
    ∷ (leb (ciphertext_at (map_in s)) (length s), 11)
    ∷ (is_set (set_in s), 1)
    ∷ (eqb (length s) (ciphertext_at (map_in s) + ciphertext_length (set_in s)), 11)
    ∷ (eqb ct (ciphertext_length (set_in s)), 9) ∷ []

abbrev pub read_answer : List ℕ → ℕ → ℕ
read_answer s ct = earliest (read_questions s ct)
