-- Laws of a line's text: what is written one behind the other is the line, and its words are short enough.
use Prim.Native.Nat.{ℕ, zero, suc, ◌+◌, ◌-◌, ◌<◌, ◌≤◌}
use Rattle.std.specs.Prelude.{◌^◌, List, [], ◌∷◌, ◌++◌, ◌≡◌, ℤ, pos, ◌-ℤ◌, Option, Some, None, length, take}
use Rattle.std.specs.Fmt as std
use Rattle.std.proofs.Common.{append_assoc, ap, length-append, lt-ltb, le-ltb}
use Rattle.std.proofs.Math.Path.{refl}
use Rattle.std.proofs.Math.Decide.{dec_lt}
use native.Mathlib.Omega.{arith}
use lib.Signed.{mag}
use Rattle.lists.specs.Lists.{from}
use Rattle.lists.specs.Strings.{placed}
use Rattle.lists.proofs.Laws.Strings.{placed_next}
use Rattle.sets.specs.declared.Params.{Params}
use Rattle.decimals.specs.Decimals.{decimal}
use Rattle.decimals.specs.Signed.{minus, number_text}
use Rattle.decimals.specs.Ensures.{Appended}
use Rattle.decimals.specs.Laws.Decimals.{decimal_long}
use Rattle.decimals.specs.Laws.Texts.{printed, number_printed, appended_as, appended_two}
use Rattle.noise.specs.Noise.{bound}
use Rattle.margin_noise.specs.Ensures.{least_of}
use Rattle.margin_line.specs.Requires.{LineLengths}
use Rattle.margin_line.specs.declared.Line.{Line}
use Rattle.margin_line.specs.Line.{ascii, held, least_text, line, line_text}

pub appended_copy : (at : ℕ) (s old : List ℕ) {new : List ℕ} → at + length s ≤ length old → new ≡ placed at s old → Appended old at s new (at + length s)
appended_copy at s old h e = record { front = rw e (placed_next at s old h (take at old) (at + length s) refl refl); place = refl }

-- ---- a - b

pub negative_text : (a b : ℕ) → a < b → number_text (pos a -ℤ pos b) ≡ minus ∷ decimal (b - a)
unfolding number_text
negative_text a zero h = absurd (omega arith)
negative_text a (suc b) h = rw (lt-ltb a (suc b) h) (ap (λ (n : ℕ). minus ∷ decimal n) (omega arith))

pub plain_text : (a b : ℕ) → b ≤ a → number_text (pos a -ℤ pos b) ≡ decimal (a - b)
unfolding number_text
plain_text a zero h = ap decimal (omega arith)
plain_text a (suc b) h = rw (le-ltb a (suc b) h)

difference_long : (a b : ℕ) → a < 100000 → b < 100000 → length (number_text (pos a -ℤ pos b)) ≤ 6
difference_long a b h k = go (dec_lt a b)
  where
    go : Dec (a < b) → length (number_text (pos a -ℤ pos b)) ≤ 6
    go (yes l) = rw (negative_text a b l) (omega (arith, decimal_long 4 (b - a) (omega arith)))
    go (no l) = rw (plain_text a b (omega arith)) (omega (arith, decimal_long 4 (a - b) (omega arith)))

-- ---- the smallest margin of a number of groups

module _ (p : Params) where
  pub none_text : (cases norm : ℕ) → cases ≡ 0 → least_text (least_of p cases norm) ≡ ascii "none"
  unfolding least_text
  none_text zero norm h = refl
  none_text (suc n) norm h = absurd (omega arith)

  pub some_text : (cases norm : ℕ) → (cases ≡ 0 → ⊥) → least_text (least_of p cases norm) ≡ number_text (pos (bound p.margin) -ℤ pos norm)
  unfolding least_text
  some_text zero norm h = absurd (h refl)
  some_text (suc n) norm h = refl

  least_long_lem : (cases norm : ℕ) → p.margin ≤ 256 → norm < 65536 → length (least_text (least_of p cases norm)) ≤ 6
  unfolding least_text ascii from
  least_long_lem zero norm h k = omega arith
  least_long_lem (suc n) norm h k = difference_long (bound p.margin) norm (omega arith) (omega arith)

-- ---- the line, word by word

pub words_place :
    {old new : List ℕ} {a e : ℕ} (v w : List ℕ) (end : ℕ) → Appended old a ((v ++ 32 ∷ []) ++ (w ++ end ∷ [])) new e →
    e ≡ a + length v + length w + 2
words_place v w end p =
    omega (arith, p.place, length-append (v ++ 32 ∷ []) (w ++ end ∷ []), length-append v (32 ∷ []), length-append w (end ∷ []))

-- the longest words of a line
pub record Lengths (set cases wrong rest : ℕ) (least : List ℕ) : Type 0 where
  pub set_long : length (decimal set) ≤ 3
  pub cases_long : length (decimal cases) ≤ 4
  pub least_long : length least ≤ 6
  pub wrong_long : length (decimal wrong) ≤ 7
  pub rest_long : length (decimal rest) ≤ 2

pub lengths :
    {cases norm wrong rest at long : ℕ} (set : ℕ) (p : Params) → set < 256 → LineLengths p.margin cases norm wrong rest at long →
    Lengths set cases wrong rest (least_text (least_of p cases norm))
lengths {cases} {norm} {wrong} {rest} set p h r =
    record {
      set_long = decimal_long 2 set (omega arith);
      cases_long = decimal_long 3 cases (omega (arith, r.cases_few));
      least_long = least_long_lem p cases norm r.margin_few r.norm_few;
      wrong_long = decimal_long 6 wrong r.wrong_few;
      rest_long = decimal_long 1 rest (omega (arith, r.rest_few));
    }

pub line_appended :
    {old x y z new : List ℕ} {a b c d e : ℕ} (set cases least wrong rest : List ℕ) → Appended old a ((set ++ 32 ∷ []) ++ (cases ++ 32 ∷ [])) x b →
    Appended x b least y c → Appended y c (32 ∷ []) z d → Appended z d ((wrong ++ 32 ∷ []) ++ (rest ++ 10 ∷ [])) new e →
    Appended old a (line (set ∷ cases ∷ least ∷ wrong ∷ rest ∷ [])) new e
unfolding line ascii from
line_appended set cases least wrong rest p q r s =
    appended_as (simp append_assoc) (appended_two (appended_two (appended_two p q) r) s)

-- ---- what the library writes of a line's figures is the line

module _ (least : Option ℤ) where
  pub none_written : least ≡ None → 110 ∷ 111 ∷ 110 ∷ 101 ∷ [] ≡ least_text (held least)
  unfolding least_text ascii from
  none_written h = rw h

  pub some_written : (z : ℤ) → least ≡ Some z → mag z < 2 ^ 63 → std.signed_decimal z ≡ least_text (held least)
  unfolding least_text
  some_written z h fits = rw h (number_printed z fits)

pub line_written :
    (l : Line) → l.set < 2 ^ 64 → l.cases < 2 ^ 64 → l.wrong < 2 ^ 64 → l.rest < 2 ^ 64 →
    std.decimal l.set
    ++ (32 ∷ (std.decimal l.cases ++ (32 ∷ (least_text (held l.least.0) ++ (32 ∷ (std.decimal l.wrong ++ (32 ∷ (std.decimal l.rest ++ 10 ∷ []))))))))
    ≡ line_text l
unfolding line_text line ascii from
line_written l set cases wrong rest = rw (printed l.set set, printed l.cases cases, printed l.wrong wrong, printed l.rest rest) (simp append_assoc)
