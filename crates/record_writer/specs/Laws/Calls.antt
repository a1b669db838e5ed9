-- Laws of writing: with its steps made it keeps its promise.
use Rattle.std.specs.Prelude.{ℕ, ◌+◌, ◌<◌, Option, List, [], ◌∷◌, ◌++◌, ◌≡◌, refl, length}
use Rattle.std.proofs.Common.{append_assoc, sym, ap, ◌∙◌, mod-eq_of_lt, arith, eqb-true}
use Rattle.std.proofs.Math.ListN.{length-append}
use Rattle.lists.specs.Numbers.{digits}
use Rattle.lists.proofs.Laws.Numbers.{length_digits}
use Rattle.questions.specs.Answers.{earliest}
use Rattle.questions.specs.Laws.Answers.{all_yes, wrote, wrote_none}
use Rattle.sets.specs.declared.Params.{Params}
use Rattle.sets.specs.Sets.{params_of}
use Rattle.record_format.specs.declared.Head.{Head}
use Rattle.record_format.specs.Records.{Field, fields, head_length, short_door, wide_door, numbers_of, bits_of, laid}
use Rattle.record_format.specs.Records.{map_of, headed, record_of, write_questions}
use Rattle.record_format.specs.Promises.{Recorded}
use Rattle.record_format.proofs.Laws.Fields.{length_laid}
use Rattle.record_format.proofs.Laws.Records.{mapped}
use Rattle.record_writer.specs.declared.Part.{Part}
use Rattle.record_writer.specs.Requires.{WriteLengths}
use Rattle.record_writer.specs.Ensures.{Lays}

-- the bytes of numbers are as many as their part says
part_long : {fs : List Field} {xs : List (Option ℕ)} {x : Part} → Lays fs xs x → length (laid fs xs) ≡ x.size
part_long {fs} {xs} {x} l = sym (ap length l.bytes) ∙ length_digits 256 x.size x.number

module _ (d t : Option ℕ) (set : ℕ) {p q : Part}
    (ip : Lays ((0, 2) ∷ (4, 4) ∷ []) (short_door d ∷ wide_door d ∷ []) p) (iq : Lays ((1, 8) ∷ []) (t ∷ []) q) where
  abbrev h : Head
  h = headed d t set

  -- the map, and how many bytes come before the ciphertext
  abbrev m : ℕ
  m = p.bit + q.bit + 12

  abbrev n : ℕ
  n = 2 + p.size + q.size

  map_is : m ≡ map_of h
  unfolding fields bits_of
  map_is = omega (arith, ip.bit, iq.bit)

  pub head_is : n ≡ head_length (map_of h)
  unfolding fields laid
  head_is =
      let w = length_laid (map_of h) fields (numbers_of h) (mapped t (params_of set).number d).agree in
      let x = part_long ip in
      let y = part_long iq in
      omega (arith, simp (length-append, length_digits) at w, simp length-append at x, simp length-append at y)

  -- the map, the numbers and the ciphertext one behind the other are the record
  pub record_is :
      {x : Params} (c : List ℕ) → x ≡ params_of set →
      digits 256 1 m ++ (digits 256 p.size p.number ++ (digits 256 q.size q.number ++ (digits 256 1 x.number ++ c))) ≡ record_of h c
  unfolding fields laid record_of digits
  record_is c ix =
      let byte : m < 256 = omega (arith, ip.bit_few, iq.bit_few) in
      rw (mod-eq_of_lt byte, map_is, ix, ip.bytes, iq.bytes) (simp append_assoc)

  module _ (c old : List ℕ) {r : ℕ} (a : r ≡ earliest (write_questions n set (length c) (length old))) where
    answered : r ≡ earliest (write_questions (head_length (map_of h)) set (length c) (length old))
    answered = a ∙ rw head_is

    pub write_refused : (r ≡ 0 → ⊥) → Recorded d t set c old r old
    write_refused e = wrote_none answered e

    pub write_lengths : r ≡ 0 → WriteLengths p.size q.size (length c) (length old)
    write_lengths z =
        let y = all_yes (write_questions n set (length c) (length old)) refl a z in
        let ct = eqb-true (length c) (params_of set).ct y.1.0 in
        let size = eqb-true (length old) (n + (params_of set).ct) y.1.1.0 in
        record { door_few = ip.few; time_few = iq.few; size_is = omega arith }

    pub write_done :
        {x : Params} {new : List ℕ} → x ≡ params_of set → r ≡ 0 →
        new
        ≡ digits 256 1 m ++ (digits 256 p.size p.number ++ (digits 256 q.size q.number ++ (digits 256 1 x.number ++ c))) →
        Recorded d t set c old 0 new
    write_done ix z e = wrote answered z (e ∙ record_is c ix)
