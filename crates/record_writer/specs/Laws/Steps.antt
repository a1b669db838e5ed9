-- The steps of writing: what the code writes into a record, one number after another, is the definition.
use Rattle.std.specs.Prelude.{ℕ, ◌+◌, ◌*◌, ◌/◌, ◌%◌, ◌^◌, ◌<◌, ◌≤◌, Option, None, Some, unwrap_or, List, [], ◌∷◌, ◌++◌, ◌≡◌, refl, length}
use Rattle.std.proofs.Common.{append_assoc, sym, ◌∙◌}
use Rattle.std.proofs.Math.Nat.{pow-le-pow_right}
use Rattle.std.proofs.lemmas.List.{append-nil}
use Rattle.std.proofs.Math.Decide.{dec_lt}
use native.Mathlib.Omega.{arith}
use Rattle.lists.specs.Numbers.{digits}
use Rattle.lists.specs.Strings.{placed}
use Rattle.lists.proofs.Laws.Numbers.{length_digits}
use Rattle.lists.proofs.Laws.Parts.{prefix_none, prefix_copy, prefix_all}
use Rattle.record_format.specs.Records.{wide_from, short_door, wide_door, bits_of, laid}
use Rattle.record_format.proofs.Laws.Doors.{is_short, is_wide}
use Rattle.record_writer.specs.declared.Part.{Part}
use Rattle.record_writer.specs.Requires.{WriteLengths}
use Rattle.record_writer.specs.Ensures.{Lays}

-- a number in its field, where it is missing and where it is there
module _ (k n : ℕ) {o : Option ℕ} where
  pub lays_none : o ≡ None → Lays ((k, n) ∷ []) (o ∷ []) (record { bit = 0; size = 0; number = 0 })
  unfolding digits bits_of laid
  lays_none e = rw e (record { bit = refl; bit_few = omega arith; bytes = refl; few = omega arith })

  pub lays_some : {x : ℕ} → o ≡ Some x → k ≤ 4 → n ≤ 8 → Lays ((k, n) ∷ []) (o ∷ []) (record { bit = 1 * 2 ^ k % 256; size = n; number = x })
  unfolding bits_of laid
  lays_some e h l =
      let few : 2 ^ k ≤ 16 = pow-le-pow_right (omega arith) h in
      rw e (record { bit = omega arith; bit_few = omega arith; bytes = sym (append-nil _); few = l })

-- a door in its two fields, by the one that has it: w is 0 for a short one and 1 for a wide one
pub lays_door :
    (o : Option ℕ) {n : Option ℕ} {x w : ℕ} {r : Part} → n ≡ o → x ≡ unwrap_or o 0 → x < 2 ^ 32 → w ≡ (x / 65536 + 65535) / 65536 →
    Lays ((4 * w, 2 + 2 * w) ∷ []) (n ∷ []) r → Lays ((0, 2) ∷ (4, 4) ∷ []) (short_door o ∷ wide_door o ∷ []) r
unfolding digits bits_of laid
lays_door None {n} i d m e l = let k = rw i at l in record { bit = k.bit; bit_few = k.bit_few; bytes = k.bytes; few = k.few }
lays_door (Some y) {n} {x} {w} {r} i d m e l = go (dec_lt y wide_from)
  where
    go : Dec (y < wide_from) → Lays ((0, 2) ∷ (4, 4) ∷ []) (short_door (Some y) ∷ wide_door (Some y) ∷ []) r
    go (yes h) =
        let f = is_short y h in
        let z : w ≡ 0 = omega arith in
        let k = rw (i, z) at l in
        rw (f.0, f.1) (record { bit = k.bit; bit_few = k.bit_few; bytes = k.bytes; few = k.few })
    go (no h) =
        let f = is_wide y (omega arith) in
        let z : w ≡ 1 = omega arith in
        let k = rw (i, z) at l in
        rw (f.0, f.1) (record { bit = k.bit; bit_few = k.bit_few; bytes = k.bytes; few = k.few })

-- how a door is written, a missing one and one that is there
abbrev LaysDoor : Option ℕ → Option ℕ → Part → Type 0
LaysDoor a b = Lays ((0, 2) ∷ (4, 4) ∷ []) (a ∷ b ∷ [])

module _ {o : Option ℕ} where
  pub lays_no_door : o ≡ None → LaysDoor (short_door o) (wide_door o) (record { bit = 0; size = 0; number = 0 })
  unfolding digits bits_of laid
  lays_no_door e = rw e (record { bit = refl; bit_few = omega arith; bytes = refl; few = omega arith })

  -- w is 0 for a short one and 1 for a wide one
  pub lays_some_door :
      {x w : ℕ} → o ≡ Some x → (x < wide_from → w ≡ 0) → (wide_from ≤ x → w ≡ 1) →
      LaysDoor (short_door o) (wide_door o) (record { bit = 1 + 15 * w; size = 2 + 2 * w; number = x })
  unfolding digits bits_of laid
  lays_some_door {x} {w} e short wide = rw e (go (dec_lt x wide_from))
    where
      go : Dec (x < wide_from) → LaysDoor (short_door (Some x)) (wide_door (Some x)) (record { bit = 1 + 15 * w; size = 2 + 2 * w; number = x })
      go (yes l) =
          let f = is_short x l in
          rw (f.0, f.1, short l) (record { bit = refl; bit_few = omega arith; bytes = refl; few = omega arith })
      go (no l) =
          let g : wide_from ≤ x = omega arith in
          let f = is_wide x g in
          rw (f.0, f.1, wide g) (record { bit = refl; bit_few = omega arith; bytes = refl; few = omega arith })

  -- and a time
  pub lays_no_time : o ≡ None → Lays ((1, 8) ∷ []) (o ∷ []) (record { bit = 0; size = 0; number = 0 })
  lays_no_time e = lays_none 1 8 e

  pub lays_time : {x : ℕ} → o ≡ Some x → Lays ((1, 8) ∷ []) (o ∷ []) (record { bit = 2; size = 8; number = x })
  lays_time e = lays_some 1 8 e (omega arith) (omega arith)

-- what stands in a record that is written from the front
pub record_steps :
    (map door door_size time time_size set : ℕ) (c old : List ℕ) {s0 s1 s2 s3 s : List ℕ} → WriteLengths door_size time_size (length c) (length old) →
    s0 ≡ placed 0 (digits 256 1 map) old → s1 ≡ placed 1 (digits 256 door_size door) s0 →
    s2 ≡ placed (1 + door_size) (digits 256 time_size time) s1 → s3 ≡ placed (1 + door_size + time_size) (digits 256 1 set) s2 →
    s ≡ placed (1 + door_size + time_size + 1) c s3 →
    s ≡ digits 256 1 map ++ (digits 256 door_size door ++ (digits 256 time_size time ++ (digits 256 1 set ++ c)))
record_steps map door door_size time time_size set c old w e0 e1 e2 e3 e =
    let long = length_digits 256 in
    let a = prefix_copy {e = 1} (digits 256 1 map) (prefix_none old) (rw (long 1 map)) (omega arith) in
    let b = prefix_copy {e = 1 + door_size} (digits 256 door_size door) a (rw (long door_size door)) (omega arith) in
    let d = prefix_copy {e = 1 + door_size + time_size} (digits 256 time_size time) b (rw (long time_size time)) (omega arith) in
    let n = prefix_copy {e = 1 + door_size + time_size + 1} (digits 256 1 set) d (rw (long 1 set)) (omega arith) in
    let whole = prefix_copy {e = 1 + door_size + time_size + 1 + length c} c n refl (omega arith) in
    rw (e, e3, e2, e1, e0) (prefix_all whole (omega arith) ∙ simp append_assoc)
