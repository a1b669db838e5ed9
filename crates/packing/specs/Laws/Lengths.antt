-- An answer of 0 says that the polynomial fills the bytes.
use Rattle.std.specs.Prelude.{ℕ, ◌*◌, ◌≤◌, Bool, true, ◌||◌, List, ◌≡◌, refl, eqb, length}
use Rattle.std.proofs.Common.{⊎_elim, arith, rules, eqb-true}
use Rattle.questions.specs.Answers.{earliest}
use Rattle.questions.specs.Laws.Answers.{all_yes}
use Rattle.lists.proofs.Laws.Booleans.{or_cases}
use Rattle.packing.specs.Packing.{is_width, pack_questions, unpack_questions}
use Rattle.packing.specs.Requires.{Fills}
use Rattle.packing.specs.Laws.Packing.{polynomials_fill}

pub record Width (w : ℕ) : Type 0 where
  pub least : 1 ≤ w
  pub most : w ≤ 13

-- each of the six is between the bounds
module _ (w : ℕ) where
  is : (n : ℕ) → Width n → eqb w n ≡ true → Width w
  is n h e = rw (eqb-true w n e) h

  or : (n : ℕ) (b : Bool) → Width n → (b ≡ true → Width w) → eqb w n || b ≡ true → Width w
  or n b h f e = ⊎_elim (is n h) f (or_cases (eqb w n) b e)

  pub width_bounds : is_width w ≡ true → Width w
  width_bounds =
      or 1 _ (search rules) (or 3 _ (search rules) (or 4 _ (search rules) (or 6 _ (search rules) (or 10 _ (search rules) (is 13 (search rules))))))

  pub polynomial_fills : (n m : ℕ) → is_width w ≡ true → eqb n 256 ≡ true → eqb m (32 * w) ≡ true → Fills w n m
  polynomial_fills n m h p q =
      let b = width_bounds h in
      polynomials_fill w 1 n m b.least (omega arith) (eqb-true n 256 p) (omega (arith, eqb-true m (32 * w) q))

pub pack_lengths : (w : ℕ) (cs : List ℕ) (out : ℕ) {r : ℕ} → r ≡ earliest (pack_questions w cs out) → r ≡ 0 → Fills w (length cs) out
pack_lengths w cs out a z =
    let y = all_yes (pack_questions w cs out) refl a z in
    polynomial_fills w (length cs) out y.0 y.1.0 y.1.1.1.0

pub unpack_lengths : (w bytes out : ℕ) {r : ℕ} → r ≡ earliest (unpack_questions w bytes out) → r ≡ 0 → Fills w out bytes
unpack_lengths w bytes out a z =
    let y = all_yes (unpack_questions w bytes out) refl a z in
    polynomial_fills w out bytes y.0 y.1.1.0 y.1.0
