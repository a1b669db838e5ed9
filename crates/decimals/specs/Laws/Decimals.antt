-- Laws of decimal numbers: the digits of a number spell it, and digits are read one after the other.
use Prim.Native.Nat.{ℕ, zero, suc, ◌+◌, ◌-◌, ◌*◌, ◌/◌, ◌%◌, ◌^◌, ◌<◌, ◌≤◌}
use Rattle.std.specs.Prelude.{true, ◌&&◌, ◌≡◌, Ok, Err, Bool, ltb, leb, length, drop}
use Rattle.std.specs.List.{list_all}
use Rattle.std.proofs.Math.Bool.{false}
use mathlib.Core.List.{List, [], ◌∷◌, ◌++◌}
use Rattle.std.proofs.Common.{ap, ◌∙◌, arith, length-append, drop_of_length-le, lt-ltb, le-ltb, le-leb, leb-true, leb-false}
use Rattle.std.proofs.Math.Path.{refl, sym}
use Rattle.std.proofs.Math.Decide.{dec_lt}
use Rattle.std.proofs.Math.ListN.{get_or}
use Rattle.std.proofs.lemmas.Bool.{lt-leb, false≢true}
use Rattle.std.proofs.lemmas.List.Recursion.{and_at}
use Rattle.decimals.specs.declared.Fault.{Fault}
use Rattle.decimals.specs.declared.Fault.TheVariants.{BadDigit}
use Rattle.decimals.specs.Decimals.{is_digit, is_decimal, value_behind, value, digit, digits_within, decimal, read_as, number_read}
use Rattle.lists.proofs.Laws.Booleans.{and_left, and_right, and_true, and_assoc}
use Rattle.lists.proofs.Laws.Lists.{drop_next}

pub digit_yes : (b : ℕ) → 48 ≤ b → b ≤ 57 → is_digit b ≡ true
digit_yes b low high = rw (le-leb 48 b low, le-leb b 57 high)

pub digit_below : (b : ℕ) → b < 48 → is_digit b ≡ false
digit_below b h = rw (lt-leb 48 b h)

pub digit_above : (b : ℕ) → 57 < b → is_digit b ≡ false
digit_above b h = rw (le-leb 48 b (omega arith), lt-leb b 57 h)

-- ---- the digits of a number

-- every bound above the number gives the same digits
same_digits : (f g n : ℕ) → n < f → n < g → digits_within f n ≡ digits_within g n
unfolding digits_within
same_digits zero g n h k = absurd (omega arith)
same_digits (suc f) zero n h k = absurd (omega arith)
same_digits (suc f) (suc g) n h k = go (same_digits f g (n / 10)) (dec_lt n 10)
  where
    go :
        (n / 10 < f → n / 10 < g → digits_within f (n / 10) ≡ digits_within g (n / 10)) → Dec (n < 10) →
        digits_within (suc f) n ≡ digits_within (suc g) n
    go tenth (yes l) = rw (lt-ltb n 10 l)
    go tenth (no l) = rw (le-ltb n 10 (omega arith), tenth (omega arith) (omega arith))

module _ (n : ℕ) where
  pub one_digit : n < 10 → decimal n ≡ digit n ∷ []
  unfolding decimal digits_within
  one_digit h = rw (lt-ltb n 10 h)

  pub more_digits : 10 ≤ n → decimal n ≡ decimal (n / 10) ++ digit (n % 10) ∷ []
  unfolding decimal digits_within
  more_digits h = rw (le-ltb n 10 h, same_digits n (suc (n / 10)) (n / 10) (omega arith) (omega arith))

  pub one_more : 10 ≤ n → length (decimal n) ≡ length (decimal (n / 10)) + 1
  one_more h = ap length (more_digits h) ∙ length-append (decimal (n / 10)) (digit (n % 10) ∷ [])

-- a number below 10 ^ suc k has no more than suc k digits
pub decimal_long : (k n : ℕ) → n < 10 ^ suc k → length (decimal n) ≤ suc k
decimal_long zero n h = rw (one_digit n (omega arith)) (omega arith)
decimal_long (suc k) n h = go (decimal_long k (n / 10) (omega arith)) (dec_lt n 10)
  where
    go : length (decimal (n / 10)) ≤ suc k → Dec (n < 10) → length (decimal n) ≤ suc (suc k)
    go tenth (yes l) = rw (one_digit n l) (omega arith)
    go tenth (no l) = omega (arith, one_more n (omega arith))

-- they spell the number
pub record Spells (n : ℕ) (digits : List ℕ) : Type 0 where
  pub decimal : is_decimal digits ≡ true
  pub number : value digits ≡ n

digit_is : (x : ℕ) → x < 10 → is_digit (digit x) ≡ true
digit_is x h = digit_yes (digit x) (omega arith) (omega arith)

-- a digit more
module _ (d : ℕ) where
  every_more : (ds : List ℕ) → list_all is_digit (ds ++ d ∷ []) ≡ list_all is_digit ds && is_digit d
  every_more [] = and_true (is_digit d)
  every_more (b ∷ ds) = rw (every_more ds) (and_assoc (is_digit b) (list_all is_digit ds) (is_digit d))

  value_more : (v : ℕ) (ds : List ℕ) → value_behind v (ds ++ d ∷ []) ≡ value_behind v ds * 10 + (d - digit 0)
  unfolding value_behind
  value_more v [] = refl
  value_more v (b ∷ ds) = value_more (v * 10 + (b - digit 0)) ds

pub all_digits : (ds : List ℕ) → is_decimal ds ≡ true → list_all is_digit ds ≡ true
unfolding is_decimal
all_digits ds h = and_right (ltb 0 (length ds)) (list_all is_digit ds) h

-- a word of digits is one digit or more, and none of its bytes is below `0`
pub decimal_some : (word : List ℕ) → 0 < length word → list_all is_digit word ≡ is_decimal word
unfolding is_decimal
decimal_some word h = rw (lt-ltb 0 (length word) h)

pub digit_least : (word : List ℕ) (k : ℕ) → is_decimal word ≡ true → k < length word → 48 ≤ get_or word k 0
digit_least word k h l =
    let yes = and_at (list_all is_digit) is_digit refl (λ _ _. refl) word k 0 l (all_digits word h) in
    leb-true 48 (get_or word k 0) (and_left (leb 48 (get_or word k 0)) (leb (get_or word k 0) 57) yes)

spells_one : (n : ℕ) → n < 10 → Spells n (digit n ∷ [])
unfolding is_decimal value_behind
spells_one n l = record { decimal = rw (digit_is n l); number = omega arith }

spells_more : (n : ℕ) (ds : List ℕ) → Spells (n / 10) ds → Spells n (ds ++ digit (n % 10) ∷ [])
unfolding is_decimal
spells_more n ds s =
    let d = digit (n % 10) in
    record {
      decimal =
          rw (
            lt-ltb 0 (length (ds ++ d ∷ [])) (omega (arith, length-append ds (d ∷ []))),
            every_more d ds,
            all_digits ds s.decimal,
            digit_is (n % 10) (omega arith),
          );
      number = omega (arith, value_more d 0 ds, s.number);
    }

spelled_below : (m n : ℕ) → n < m → Spells n (decimal n)
spelled_below zero n h = absurd (omega arith)
spelled_below (suc m) n h = go (spelled_below m (n / 10)) (dec_lt n 10)
  where
    go : (n / 10 < m → Spells (n / 10) (decimal (n / 10))) → Dec (n < 10) → Spells n (decimal n)
    go tenth (yes l) = rw (one_digit n l) (spells_one n l)
    go tenth (no l) = rw (more_digits n (omega arith)) (spells_more n (decimal (n / 10)) (tenth (omega arith)))

pub spelled : (n : ℕ) → Spells n (decimal n)
spelled n = spelled_below (suc n) n (omega arith)

-- a number only grows by further digits
value_grows : (v : ℕ) (digits : List ℕ) → v ≤ value_behind v digits
unfolding value_behind
value_grows v [] = omega arith
value_grows v (b ∷ bs) = omega (arith, value_grows (v * 10 + (b - 48)) bs)

-- a word of which all is read but `rest`, and v spells the digits before it
pub record Partly (most : ℕ) (word : List ℕ) (v : ℕ) (rest : List ℕ) : Type 0 where
  pub within : v ≤ most
  pub number : value_behind v rest ≡ value word

pub partly_none : (most : ℕ) (word : List ℕ) → Partly most word 0 word
partly_none most word = record { within = omega arith; number = refl }

pub read_none : (most : ℕ) (word : List ℕ) → is_decimal word ≡ false → Err BadDigit ≡ number_read most word
unfolding number_read
read_none most word h = rw h

pub none_read : (most : ℕ) (word : List ℕ) → length word ≡ 0 → Err BadDigit ≡ number_read most word
unfolding is_decimal
none_read most [] h = read_none most [] refl
none_read most (b ∷ bs) h = absurd (omega arith)

pub partly_bad : (most : ℕ) (word : List ℕ) (i : ℕ) → i < length word → is_digit (get_or word i 0) ≡ false → Err BadDigit ≡ number_read most word
partly_bad most word i h bad = go (is_decimal word) refl
  where
    go : (t : Bool) → is_decimal word ≡ t → Err BadDigit ≡ number_read most word
    go true e =
        let digit = and_at (list_all is_digit) is_digit refl (λ _ _. refl) word i 0 h (all_digits word e) in
        absurd (false≢true (sym bad ∙ digit))
    go false e = read_none most word e

module _ {most : ℕ} {word : List ℕ} {v : ℕ} where
  next : (i : ℕ) → i < length word → Partly most word v (drop i word) → value_behind (v * 10 + (get_or word i 0 - 48)) (drop (i + 1) word) ≡ value word
  unfolding value_behind
  next i h p = rw (drop_next word i 0 h) at p.number

  pub partly_more :
      {v' : ℕ} (i : ℕ) → i < length word → v' ≡ v * 10 + (get_or word i 0 - 48) → v' ≤ most → Partly most word v (drop i word) →
      Partly most word v' (drop (i + 1) word)
  partly_more i h e l p = record { within = l; number = rw e (next i h p) }

  pub partly_large :
      {e : Fault} (i : ℕ) → i < length word → is_decimal word ≡ true →
      Err e ≡ read_as true (leb (v * 10 + (get_or word i 0 - 48)) most) (v * 10 + (get_or word i 0 - 48)) → Partly most word v (drop i word) →
      Err e ≡ number_read most word
  unfolding number_read
  partly_large {e} i h formed r p = go (leb (v * 10 + (get_or word i 0 - 48)) most) refl r
    where
      go :
          (t : Bool) → leb (v * 10 + (get_or word i 0 - 48)) most ≡ t → Err e ≡ read_as true t (v * 10 + (get_or word i 0 - 48)) →
          Err e ≡ read_as (is_decimal word) (leb (value word) most) (value word)
      go true s r = cc
      go false s r =
          let grows = value_grows (v * 10 + (get_or word i 0 - 48)) (drop (i + 1) word) in
          let large : most < value word = omega (arith, next i h p, grows, leb-false (v * 10 + (get_or word i 0 - 48)) most s) in
          rw (formed, lt-leb (value word) most large) r

  pub partly_all : (i : ℕ) → is_decimal word ≡ true → length word ≤ i → Partly most word v (drop i word) → Ok v ≡ number_read most word
  unfolding number_read value_behind
  partly_all i formed h p =
      let e : v ≡ value word = rw (drop_of_length-le word h) at p.number in
      let l : value word ≤ most = omega (arith, p.within) in
      rw (formed, le-leb (value word) most l, e)
