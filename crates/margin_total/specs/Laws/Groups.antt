-- The figures of many groups, one group a turn.
use Prim.Native.Nat.{ℕ, ◌+◌, ◌*◌, ◌-◌, ◌<◌, ◌≤◌, max}
use Rattle.std.specs.Prelude.{true, false, cond, ◌≡◌, ℤ, pos, negsuc, nat_abs, ◌-ℤ◌, length, get_or, take, drop}
use mathlib.Core.List.{List, [], ◌∷◌, map}
use Rattle.std.proofs.Math.Option.{some}
use Rattle.std.proofs.Math.Path.{refl, sym, ap}
use Rattle.std.proofs.Common.{◌∙◌, lt-ltb, le-ltb}
use Rattle.std.proofs.Math.Decide.{dec_lt}
use native.Mathlib.Omega.{arith}
use Rattle.std.proofs.lemmas.List.{length-map}
use Rattle.std.specs.Int.Signed.{lt_z}
use Rattle.lists.specs.Lists.{from}
use Rattle.lists.proofs.Laws.Lists.{from_at, length_from, map_from}
use Rattle.lists.proofs.Laws.Parts.{mid_part}
use Rattle.sets.specs.declared.Params.{Params}
use Rattle.algebra.specs.Integers.{up, dn}
use Rattle.algebra.specs.Ring.{at, nat}
use Rattle.algebra.proofs.Laws.Reduced.{at_nat}
use Rattle.noise.specs.Noise.{bound}
use Rattle.noise.proofs.Laws.Errors.{sub_split}
use Rattle.margin_noise.specs.Ensures.{least_of}
use Rattle.margin_noise.specs.Norm.{norm}
use Rattle.margin_noise.specs.Laws.Exact.{norm_none, norm_more, norm_all}
use Rattle.margin_total.specs.declared.Figures.{Figures}
use Rattle.margin_total.specs.declared.Totals.{Totals}
use Rattle.margin_group.specs.Margin
use Rattle.margin_group.specs.Margin.{cases, groups, smaller, smallest, total, margin, wrong_bits, least, wrong}
use Rattle.margin_total.specs.Ensures.{Measured, Totalled}
use Rattle.margin_group.specs.Laws.Counts.{total_more, total_all}

-- the smallest margin is that of the largest norm
less_yes : (x y : ℤ) → up x + dn y < up y + dn x → lt_z x y ≡ true
less_yes (pos a) (pos b) h = lt-ltb a b (omega arith)
less_yes (pos a) (negsuc b) h = absurd (omega arith)
less_yes (negsuc a) (pos b) h = refl
less_yes (negsuc a) (negsuc b) h = lt-ltb b a (omega arith)

less_no : (x y : ℤ) → up y + dn x ≤ up x + dn y → lt_z x y ≡ false
less_no (pos a) (pos b) h = le-ltb a b (omega arith)
less_no (pos a) (negsuc b) h = refl
less_no (negsuc a) (pos b) h = absurd (omega arith)
less_no (negsuc a) (negsuc b) h = le-ltb b a (omega arith)

module _ (m : ℕ) where
  abbrev away : ℕ → ℤ
  away x = pos m -ℤ pos x

  smaller_is : (x y : ℕ) → smaller (away x) (some (away y)) ≡ away (max x y)
  smaller_is x y = go (dec_lt x y)
    where
      go : Dec (x < y) → cond (lt_z (away y) (away x)) (away y) (away x) ≡ away (max x y)
      go (yes h) =
          let e : y ≡ max x y = omega arith in
          rw (less_yes (away y) (away x) (omega (arith, sub_split (pos m) (pos x), sub_split (pos m) (pos y)))) (ap away e)
      go (no h) =
          let e : x ≡ max x y = omega arith in
          rw (less_no (away y) (away x) (omega (arith, sub_split (pos m) (pos x), sub_split (pos m) (pos y)))) (ap away e)

  smallest_is : (x : ℕ) (xs : List ℕ) → smallest (map away (x ∷ xs)) ≡ some (away (norm (nat (x ∷ xs))))
  unfolding smallest norm
  smallest_is x [] = let alone : x ≡ max x 0 = omega arith in ap (λ (n : ℕ). some (away n)) alone
  smallest_is x (y ∷ xs) = ap some (ap (smaller (away x)) (smallest_is y xs) ∙ smaller_is x (norm (nat (y ∷ xs))))

module _ (p : Params) (bytes : List ℕ) where
  abbrev group : ℕ → List ℕ
  group i = take 96 (drop (96 * i) bytes)

  abbrev norms : List ℕ
  norms = from (cases bytes) (λ i. Margin.norm p (group i))

  abbrev wrongs : List ℕ
  wrongs = from (cases bytes) (λ i. wrong_bits p (group i))

  least_is : (xs : List ℕ) → smallest (map (away (bound p.margin)) xs) ≡ least_of p (length xs) (norm (nat xs))
  unfolding smallest
  least_is [] = refl
  least_is (x ∷ xs) = smallest_is (bound p.margin) x xs

  -- after i groups
  pub record Partly (i largest_norm wrong_so_far : ℕ) : Type 0 where
    pub within : i ≤ cases bytes
    pub norms_so : max largest_norm (norm (drop i (nat norms))) ≡ norm (nat norms)
    pub wrongs_so : wrong_so_far + total (drop i wrongs) ≡ total wrongs
    pub fits : largest_norm < 65536
    pub few : wrong_so_far ≤ 256 * i

  pub partly_none : Partly 0 0 0
  partly_none = record { within = omega arith; norms_so = norm_none (nat norms); wrongs_so = omega arith; fits = omega arith; few = omega arith }

  pub partly_more :
      {i m n w : ℕ} {f : Figures} → i < cases bytes → Partly i m w → Measured p (take (96 * i + 96 - 96 * i) (drop (96 * i) bytes)) f →
      n ≡ max m f.norm → Partly (i + 1) n (w + f.wrong)
  partly_more {i} {m} {n} {w} {f} h q found e =
      record {
        within = omega arith;
        norms_so = norm_more (nat norms) i m (rw (length-map, length_from) h) q.norms_so (e ∙ ap (max m) (g.norm ∙ sym norm_at));
        wrongs_so = rw (g.wrong, ← wrong_at) (total_more wrongs i w (rw length_from h) q.wrongs_so);
        fits = omega (arith, q.fits, g.norm_fits);
        few = omega (arith, q.few, g.wrong_few);
      }
    where
      g : Measured p (group i) f
      g = rw (mid_part (96 * i) 96 bytes) at found

      norm_at : nat_abs (at (nat norms) i) ≡ Margin.norm p (group i)
      norm_at = rw (at_nat norms i) (from_at (cases bytes) (λ j. Margin.norm p (group j)) 0 i h)

      wrong_at : get_or wrongs i 0 ≡ wrong_bits p (group i)
      wrong_at = from_at (cases bytes) (λ j. wrong_bits p (group j)) 0 i h

  pub partly_all : {i : ℕ} {t : Totals} → t.cases ≡ cases bytes → cases bytes ≤ i → Partly i t.norm t.wrong → Totalled p bytes t
  unfolding least wrong groups
  partly_all {i} {t} ec h q =
      record {
        cases = ec;
        least =
            sym
            (ap smallest (map_from (margin p) (cases bytes) group ∙ sym (map_from (away (bound p.margin)) (cases bytes) (λ i. Margin.norm p (group i))))
            ∙ least_is norms
            ∙ rw (length_from, ec, ← norm_all (nat norms) i t.norm (rw (length-map, length_from) h) q.norms_so));
        wrong = total_all wrongs i (rw length_from h) q.wrongs_so ∙ ap total (sym (map_from (wrong_bits p) (cases bytes) group));
        norm_fits = q.fits;
        wrong_few = omega (arith, q.few, q.within, ec);
      }
