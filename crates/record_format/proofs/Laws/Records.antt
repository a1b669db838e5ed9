-- Laws of records: a reader gets back what was written, and a writer writes again what was read.
use Rattle.std.specs.Prelude.{ℕ, zero, suc, ◌+◌, ◌*◌, ◌/◌, ◌^◌, ◌<◌, ◌≤◌, true, not, ◌&&◌, Option, None, Some, unwrap_or, List, [], ◌∷◌, ◌≡◌, refl, eqb, ltb, length, get_or, take, drop}
use Rattle.std.specs.Bool.{then_some}
use Rattle.std.proofs.Common.{sym, ap₂, ◌∙◌, mod-lt, zero-mul, one-mul, arith, length-drop, take-append-drop, drop-drop, length-take-le, rules, eq-eqb, lt-ltb, le-ltb, le-leb, eqb-true, ltb-true, leb-true}
use Rattle.std.proofs.Math.Path.{ap}
use Rattle.std.proofs.Math.ListN.{length-append}
use Rattle.std.proofs.Math.Seq.{drop_at}
use Rattle.lists.specs.Lists.{from}
use Rattle.lists.specs.Numbers.{number, digits, digit, Below}
use Rattle.lists.proofs.Laws.Numbers.{below_take, digits_from, number_digits, number_lt}
use Rattle.lists.proofs.Laws.Booleans.{and_left, and_right}
use Rattle.questions.specs.Answers.{earliest}
use Rattle.questions.specs.Laws.Answers.{all_yes, none_no, ◌and◌}
use Rattle.sets.specs.Sets.{params_of, known}
use Rattle.sets.specs.Requires.{Numbered}
use Rattle.sets.specs.Laws.Sets.{numbered, own_number}
use Rattle.record_format.specs.declared.Head.{Head}
use Rattle.record_format.specs.Records.{Field, fields, stands, taken, taken_by, head_length, wide_from}
use Rattle.record_format.specs.Records.{short_door, wide_door, numbers_of, bit_of, bits_of, laid, map_of, headed, record_of, write_questions}
use Rattle.record_format.specs.Records.{map_in, numbers_in, head_of, head_in, ciphertext_in, is_map, read_questions, read_answer, Fits, Holds}
use Rattle.record_format.specs.Ensures.{Readable}
use Rattle.record_format.proofs.Laws.Fields.{Agree, numbers_laid, length_laid, laid_numbers}
use Rattle.record_format.proofs.Laws.Doors.{by_width, door_whole, doors_fit, doors_again}

-- in figures: door 0x1234, time 0x0102030405060708 and set 1; neither door nor time, and set 3; the last short door and the first wide one
pub computed :
    (record_of (record { door = Some 0x1234; time = Some 0x0102030405060708; set = 1 }) (9 ∷ [])
    ≡ 15 ∷ 0x34 ∷ 0x12 ∷ 8 ∷ 7 ∷ 6 ∷ 5 ∷ 4 ∷ 3 ∷ 2 ∷ 1 ∷ 1 ∷ 9 ∷ [])
    × (record_of (record { door = None; time = None; set = 3 }) (9 ∷ []) ≡ 12 ∷ 3 ∷ 9 ∷ [])
    × (record_of (record { door = Some 65535; time = None; set = 2 }) (9 ∷ []) ≡ 13 ∷ 0xff ∷ 0xff ∷ 2 ∷ 9 ∷ [])
    × (record_of (record { door = Some 65536; time = None; set = 2 }) (9 ∷ []) ≡ 28 ∷ 0 ∷ 0 ∷ 1 ∷ 0 ∷ 2 ∷ 9 ∷ [])
unfolding record_of laid bits_of fields digits
computed = (refl, refl, refl, refl)

-- the map of a head with the door o: its bits say which numbers are there, and it is one that a reader takes
pub record Mapped (m : ℕ) (o : Option ℕ) (xs : List (Option ℕ)) : Type 0 where
  pub agree : Agree m fields xs
  pub map : is_map m ≡ true
  pub wide : not (stands m 4 && ltb (unwrap_or o 0) wide_from) ≡ true

-- the map of a head with the time t, the set n and the door o, whose two fields hold a and b
abbrev pub MappedBy : Option ℕ → ℕ → Option ℕ → Option ℕ → Option ℕ → Type 0
MappedBy t n o a b = let xs = a ∷ b ∷ t ∷ Some n ∷ [] in Mapped (bits_of fields xs + 8) o xs

pub mapped : (t : Option ℕ) (n : ℕ) (o : Option ℕ) → MappedBy t n o (short_door o) (wide_door o)
unfolding fields bits_of
mapped None n =
    by_width (MappedBy None n)
    (record { agree = (refl, (refl, (refl, (refl, tt)))); map = refl; wide = refl })
    (λ x h. record { agree = (refl, (refl, (refl, (refl, tt)))); map = refl; wide = refl })
    (λ x h. record { agree = (refl, (refl, (refl, (refl, tt)))); map = refl; wide = rw (le-ltb x wide_from h) })
mapped (Some y) n =
    by_width (MappedBy (Some y) n)
    (record { agree = (refl, (refl, (refl, (refl, tt)))); map = refl; wide = refl })
    (λ x h. record { agree = (refl, (refl, (refl, (refl, tt)))); map = refl; wide = refl })
    (λ x h. record { agree = (refl, (refl, (refl, (refl, tt)))); map = refl; wide = rw (le-ltb x wide_from h) })

-- a head and its numbers
head_numbers : (h : Head) → head_of (numbers_of h) ≡ h
head_numbers h = rw (door_whole h.door)

-- an answer of 0 means every yes, and every yes an answer of 0
module _ (m door set size ct : ℕ) where
  pub readable : {r : ℕ} → r ≡ earliest (read_questions m door set size ct) → r ≡ 0 → Readable m door set size ct
  readable a z =
      let y = all_yes (read_questions m door set size ct) refl a z in
      search (rules, eqb-true, ltb-true, leb-true)

  accepted_by : Readable m door set size ct → earliest (read_questions m door set size ct) ≡ 0
  accepted_by w =
      none_no (read_questions m door set size ct)
      (lt-ltb _ _ w.some and w.map and le-leb _ _ w.reaches and lt-ltb _ _ w.set_some and w.set_known and eq-eqb _ _ w.size_is
      and w.wide and eq-eqb _ _ w.ct_is and tt)

module _ (d t : Option ℕ) (set : ℕ) (c : List ℕ) (fd : Fits 4 d) (ft : Fits 8 t) (k : known set ≡ true)
    (l : length c ≡ (params_of set).ct) where
  abbrev h : Head
  h = headed d t set

  abbrev s : List ℕ
  s = record_of h c

  abbrev m : ℕ
  m = map_of h

  own : Numbered (params_of set)
  own = numbered set k

  map : Mapped m d (numbers_of h)
  map = mapped t (params_of set).number d

  head_is : head_in s ≡ h
  unfolding head_in record_of fields
  head_is =
      let f = doors_fit d fd in
      ap head_of (numbers_laid m fields (numbers_of h) c map.agree (f.0, (f.1, (ft, (own.byte, tt))))) ∙ head_numbers h

  size : length s ≡ head_length m + length c
  unfolding record_of
  size = rw length-append (omega (arith, length_laid m fields (numbers_of h) map.agree))

  rest_is : ciphertext_in s ≡ c
  unfolding record_of
  rest_is = drop_at (m ∷ laid fields (numbers_of h)) c (head_length m) (omega (arith, length_laid m fields (numbers_of h) map.agree))

  taken_by_lem : Readable m (unwrap_or d 0) (params_of set).number (length s) (length c)
  taken_by_lem =
      record {
        some = omega (arith, size);
        map = map.map;
        reaches = omega (arith, size);
        set_some = own.some;
        set_known = rw own.means k;
        size_is = rw (own.means, ← l) size;
        wide = map.wide;
        ct_is = rw own.means l;
      }

  -- reading what was written gives the entry back, with the set that its number means
  pub read_written : Holds s h c
  unfolding record_of
  read_written =
      record {
        accepted =
            ap (λ (g : Head). earliest (read_questions m (unwrap_or g.door 0) g.set (length s) (length c))) head_is
            ∙ accepted_by m (unwrap_or d 0) (params_of set).number (length s) (length c) taken_by_lem;
        head = head_is;
        rest = rest_is;
      }

-- what the bits of a map are
record Bits (m : ℕ) : Type 0 where
  few : m < 32
  one_door : not (stands m 0 && stands m 4) ≡ true
  set_there : digit 2 m 2 ≡ 1
  ciphertext_there : digit 2 m 3 ≡ 1

bits_of_lem : (m : ℕ) → is_map m ≡ true → Bits m
bits_of_lem m h =
    let two = ltb m 32 && not (stands m 0 && stands m 4) in
    let three = two && stands m 2 in
    let front = and_left three _ h in
    let start = and_left two _ front in
    record {
      few = ltb-true m 32 (and_left (ltb m 32) _ start);
      one_door = and_right (ltb m 32) _ start;
      set_there = eqb-true (digit 2 m 2) 1 (and_right two _ front);
      ciphertext_there = eqb-true (digit 2 m 3) 1 (and_right three _ h);
    }

-- bit k of a map, b, in the map of what was read by it
bit_given : (b : ℕ) (f : Field) (x : ℕ) → b < 2 → bit_of f (then_some (eqb b 1) x) ≡ b * 2 ^ f.0
bit_given zero f x h = sym (zero-mul (2 ^ f.0))
bit_given (suc zero) f x h = sym (one-mul (2 ^ f.0))
bit_given (suc (suc b)) f x h = absurd (omega arith)

five_bits : (m : ℕ) → m < 32 → digit 2 m 0 + 2 * (digit 2 m 1 + 2 * (digit 2 m 2 + 2 * (digit 2 m 3 + 2 * (digit 2 m 4 + 2 * 0)))) ≡ m
unfolding number from
five_bits m h = ap (number 2) (sym (digits_from 2 5 m)) ∙ number_digits 2 5 m (omega arith) h

map_given : (m : ℕ) (s : List ℕ) → Bits m → bits_of fields (numbers_in m fields s) + 8 ≡ m
unfolding fields bits_of numbers_in
map_given m s h =
    rw (
      bit_given (digit 2 m 0) (0, 2) _ (mod-lt _ (omega arith)),
      bit_given (digit 2 m 4) (4, 4) _ (mod-lt _ (omega arith)),
      bit_given (digit 2 m 1) (1, 8) _ (mod-lt _ (omega arith)),
      bit_given (digit 2 m 2) (2, 1) _ (mod-lt _ (omega arith)),
    )
    (omega (arith, five_bits m h.few))

-- the numbers of the head that is read by a map that is one, where no wide field holds a short door
numbers_head :
    (m : ℕ) (s : List ℕ) → let h = head_of (numbers_in m fields s) in
    taken_by m fields ≤ length s → Below 256 s → Bits m → not (stands m 4 && ltb (unwrap_or h.door 0) wide_from) ≡ true →
    numbers_of h ≡ numbers_in m fields s
unfolding fields numbers_in taken_by
numbers_head m s l b o w =
    let x = number 256 (take 2 s) in
    let y = number 256 (take 4 (drop (taken m (0, 2)) s)) in
    let bit : (k : ℕ) → digit 2 m k < 2 = λ k. mod-lt (m / 2 ^ k) (omega arith) in
    let again = doors_again (digit 2 m 0) (digit 2 m 4) x y (bit 0) (bit 4) o.one_door few w in
    rw (o.set_there, again.0, again.1)
  where
    few : digit 2 m 0 ≡ 1 → number 256 (take 2 s) < wide_from
    few q =
        let fits : 2 ≤ length s = omega arith in
        rw (length-take-le 2 s fits) at (number_lt 256 (take 2 s) (below_take 256 2 s fits b))

-- writing what was read gives the same bytes
pub written_read : (s : List ℕ) (ct : ℕ) → Below 256 s → read_answer s ct ≡ 0 → record_of (head_in s) (ciphertext_in s) ≡ s
unfolding record_of head_in
written_read [] ct b z = let w = readable 0 (unwrap_or (head_in []).door 0) (head_in []).set 0 ct refl z in absurd (omega arith)
written_read (m ∷ rest) ct b z =
    let h = head_in (m ∷ rest) in
    let w = readable m (unwrap_or h.door 0) h.set (length (m ∷ rest)) ct refl z in
    let n = taken_by m fields in
    let o = bits_of_lem m w.map in
    let below : Below 256 rest = λ k q. b (suc k) (omega arith) in
    rw (
      numbers_head m rest (omega arith) below o w.wide,
      map_given m rest o,
      laid_numbers m fields rest (omega arith) below,
      ← drop-drop n 1 (m ∷ rest),
      take-append-drop n rest,
    )

-- a writer takes it: the set has its own number, and an output of the record's length its result's
pub write_accepts :
    (s : List ℕ) (ct : ℕ) → Below 256 s → read_answer s ct ≡ 0 →
    let h = head_in s in
    ((params_of h.set).number ≡ h.set)
    × (earliest (write_questions (head_length (map_of h)) h.set (length (ciphertext_in s)) (length s)) ≡ 0)
unfolding record_of
write_accepts s ct b z =
    let w = readable (map_in s) (unwrap_or (head_in s).door 0) (head_in s).set (length s) ct refl z in
    let m : map_of (head_in s) ≡ map_in s = ap (λ (l : List ℕ). get_or l 0 0) (written_read s ct b z) in
    let long : length (ciphertext_in s) ≡ (params_of (head_in s).set).ct = rw length-drop (omega arith) in (
      own_number (head_in s).set w.set_some w.set_known,
      rw m (none_no _ (w.set_known and eq-eqb _ _ long and eq-eqb _ _ w.size_is and tt)),
    )

-- one encoding for each entry: two records that hold the same are the same
pub one_encoding : (s s' : List ℕ) {h : Head} {c : List ℕ} → Below 256 s → Below 256 s' → Holds s h c → Holds s' h c → s ≡ s'
one_encoding s s' {h} {c} b b' w w' =
    sym (written_read s (length c) b w.accepted)
    ∙ ap₂ record_of (w.head ∙ sym w'.head) (w.rest ∙ sym w'.rest)
    ∙ written_read s' (length c) b' w'.accepted
