-- Laws of the fields that are numbers, for every list of fields: what was laid out is read back, and what was read is laid out as it was.
use Rattle.std.specs.Prelude.{ℕ, zero, suc, ◌*◌, ◌/◌, ◌^◌, ◌<◌, ◌≤◌, Option, None, Some, List, [], ◌∷◌, ◌++◌, ◌≡◌, refl, eqb, length, take, drop}
use Rattle.std.proofs.Common.{append_assoc, sym, ap, ap₂, ◌∙◌, mod-lt, zero-mul, one-mul, arith, length-append, length-drop, take_at, drop_at, take-add, length-take-le}
use Rattle.std.specs.Bool.{then_some}
use Rattle.lists.specs.Numbers.{number, digits, digit, Below}
use Rattle.lists.proofs.Laws.Numbers.{length_digits, below_take, below_drop, digits_number, number_digits}
use Rattle.record_format.specs.Records.{Field, fields, taken, taken_by, head_length, bytes_of, laid, numbers_in, Fits}

-- the bits of a map say which numbers are there
abbrev pub Agree : ℕ → List Field → List (Option ℕ) → Type 0
Agree m [] [] = Unit {0}
Agree m [] (x ∷ xs) = ⊥
Agree m (f ∷ fs) [] = ⊥
Agree m (f ∷ fs) (None ∷ xs) = (digit 2 m f.0 ≡ 0) × Agree m fs xs
Agree m (f ∷ fs) (Some x ∷ xs) = (digit 2 m f.0 ≡ 1) × Agree m fs xs

-- each number fits its field
abbrev pub FitAll : List Field → List (Option ℕ) → Type 0
FitAll (f ∷ fs) (x ∷ xs) = Fits f.1 x × FitAll fs xs
FitAll [] xs = Unit {0}
FitAll (f ∷ fs) [] = Unit {0}

-- numbers that were laid out take as many bytes as the map says
pub length_laid : (m : ℕ) (fs : List Field) (xs : List (Option ℕ)) → Agree m fs xs → length (laid fs xs) ≡ taken_by m fs
unfolding taken_by laid
length_laid m [] [] h = refl
length_laid m [] (x ∷ xs) h = absurd h
length_laid m (f ∷ fs) [] h = absurd h
length_laid m (f ∷ fs) (None ∷ xs) h = rw (h.0, zero-mul) (omega (arith, length_laid m fs xs h.1))
length_laid m (f ∷ fs) (Some x ∷ xs) h =
    rw (h.0, one-mul, length-append, length_digits) (omega (arith, length_laid m fs xs h.1))

-- and are read back, whatever follows
pub numbers_laid :
    (m : ℕ) (fs : List Field) (xs : List (Option ℕ)) (rest : List ℕ) → Agree m fs xs → FitAll fs xs → numbers_in m fs (laid fs xs ++ rest) ≡ xs
unfolding numbers_in laid
numbers_laid m [] [] rest h w = refl
numbers_laid m [] (x ∷ xs) rest h w = absurd h
numbers_laid m (f ∷ fs) [] rest h w = absurd h
numbers_laid m (f ∷ fs) (None ∷ xs) rest h w = rw (h.0, zero-mul) (ap (λ l. None ∷ l) (numbers_laid m fs xs rest h.1 w.1))
numbers_laid m (f ∷ fs) (Some x ∷ xs) rest h w =
    let long = length_digits 256 f.1 x in
    rw (
      h.0,
      one-mul,
      append_assoc,
      take_at (digits 256 f.1 x) (laid fs xs ++ rest) f.1 long,
      drop_at (digits 256 f.1 x) (laid fs xs ++ rest) f.1 long,
      number_digits 256 f.1 x (omega arith) w.0,
    )
    (ap (λ l. Some x ∷ l) (numbers_laid m fs xs rest h.1 w.1))

-- the bytes of a field that was read, where its bit is b
laid_field :
    (b : ℕ) (f : Field) (s : List ℕ) → b < 2 → b * f.1 ≤ length s → Below 256 s →
    bytes_of f (then_some (eqb b 1) (number 256 (take f.1 s))) ≡ take (b * f.1) s
laid_field zero f s l h w = rw (zero-mul f.1)
laid_field (suc zero) f s l h w =
    let fits = rw one-mul at h in
    rw one-mul
    (ap (λ (k : ℕ). digits 256 k (number 256 (take f.1 s))) (sym (length-take-le f.1 s fits))
    ∙ digits_number 256 (take f.1 s) (omega arith) (below_take 256 f.1 s fits w))
laid_field (suc (suc b)) f s l h w = absurd (omega arith)

-- what was read is laid out as it was
pub laid_numbers :
    (m : ℕ) (fs : List Field) (s : List ℕ) → taken_by m fs ≤ length s → Below 256 s → laid fs (numbers_in m fs s) ≡ take (taken_by m fs) s
unfolding numbers_in laid taken_by
laid_numbers m [] s h b = refl
laid_numbers m (f ∷ fs) s h b =
    ap₂ ◌++◌ (laid_field (digit 2 m f.0) f s (mod-lt _ (omega arith)) (omega arith) b)
    (laid_numbers m fs (drop (taken m f) s) (simp length-drop (omega arith)) (below_drop 256 (taken m f) s b))
    ∙ sym (take-add (taken m f) (taken_by m fs) s)

-- no map puts more than two doors, a time and a set before a ciphertext
pub head_few : (m : ℕ) → head_length m ≤ 16
unfolding taken_by fields
head_few m =
    let bit : (k : ℕ) → digit 2 m k < 2 = λ k. mod-lt (m / 2 ^ k) (omega arith) in
    omega (arith, bit 0, bit 4, bit 1, bit 2)
