-- Laws of numbers and their digits, for every base.
use Rattle.std.specs.Prelude.{ℕ, zero, suc, ◌+◌, ◌-◌, ◌*◌, ◌/◌, ◌%◌, ◌^◌, ◌<◌, ◌≤◌, List, [], ◌∷◌, ◌++◌, ◌≡◌, refl, length, get_or, take, drop}
use Rattle.std.proofs.Common.{sym, ap, ◌∙◌, arith, div-lt_iff_lt-mul, mod-eq_of_lt, div-one, mod-lt, mul-add, mul_assoc, mul-le-mul_left, mul-suc, mul-zero, pow-suc, suc-add, zero-add, length-drop, take-append-drop, pow-add, drop-cons, drop-drop, get_or-drop, get_or-take, length-take-le, take-add}
use Rattle.std.proofs.Math.Nat.{add-mul-div_left, add-mul-mod_self_left, div-div-eq-div-mul, div-eq_of_lt, mod-add-div, pow-succ', pow-zero}
use Rattle.lists.specs.Lists.{from}
use Rattle.lists.specs.Numbers.{number, digits, digit, Below}
use Rattle.lists.proofs.Laws.Lists.{from_cong}

pub length_digits : (B n v : ℕ) → length (digits B n v) ≡ n
unfolding digits
length_digits B zero v = refl
length_digits B (suc n) v = ap suc (length_digits B n (v / B))

-- each digit is below the base
pub digits_below : (B n v : ℕ) → 0 < B → Below B (digits B n v)
unfolding digits
digits_below B zero v p k q = absurd (omega arith)
digits_below B (suc n) v p zero q = mod-lt v p
digits_below B (suc n) v p (suc k) q = digits_below B n (v / B) p k (omega arith)

-- parts of a list whose elements are below the base
pub below_take : (B n : ℕ) (xs : List ℕ) → n ≤ length xs → Below B xs → Below B (take n xs)
below_take B n xs h b k q =
    let l = length-take-le n xs h in
    rw (get_or-take n xs k 0 (omega arith)) (b k (omega arith))

pub below_drop : (B n : ℕ) (xs : List ℕ) → Below B xs → Below B (drop n xs)
below_drop B n xs b k q = rw (get_or-drop n xs k 0) (b (n + k) (omega (arith, length-drop n xs)))

-- digits below the base are those of their number
pub digits_number : (B : ℕ) (xs : List ℕ) → 0 < B → Below B xs → digits B (length xs) (number B xs) ≡ xs
unfolding digits number
digits_number B [] p h = refl
digits_number B (x ∷ xs) p h =
    let l = h 0 (omega arith) in
    rw (
      add-mul-mod_self_left x B (number B xs),
      add-mul-div_left x (number B xs) p,
      mod-eq_of_lt l,
      div-eq_of_lt l,
      zero-add,
      digits_number B xs p (λ k q. h (suc k) (omega arith)),
    )

-- a number below B ^ n is that of its n digits
pub number_digits : (B n v : ℕ) → 0 < B → v < B ^ n → number B (digits B n v) ≡ v
unfolding digits number
number_digits B zero v p h = omega (arith, pow-zero B)
number_digits B (suc n) v p h =
    rw (number_digits B n (v / B) p ((div-lt_iff_lt-mul p).1 (rw (← pow-suc B n) h))) (mod-add-div v B)

-- the number of n digits below B is below B ^ n
pub number_lt : (B : ℕ) (xs : List ℕ) → Below B xs → number B xs < B ^ length xs
unfolding number
number_lt B [] h = omega (arith, pow-zero B)
number_lt B (x ∷ xs) h =
    rw (pow-succ' B (length xs))
    (omega (arith, h 0 (omega arith), mul-le-mul_left B (number_lt B xs (λ k q. h (suc k) (omega arith))), mul-suc B (number B xs)))

pub number_append : (B : ℕ) (xs ys : List ℕ) → number B (xs ++ ys) ≡ number B xs + B ^ length xs * number B ys
unfolding number
number_append B [] ys = rw (pow-zero B) (omega arith)
number_append B (x ∷ xs) ys =
    let n = B ^ length xs in
    rw (number_append B xs ys, pow-succ' B (length xs), mul_assoc B n (number B ys), mul-add B (number B xs) (n * number B ys)) (omega arith)

-- the m lowest digits, and then those of what stands above them
pub digits_split : (B m k v u : ℕ) → 0 < B → digits B (m + k) (v + B ^ m * u) ≡ digits B m v ++ digits B k (v / B ^ m + u)
unfolding digits
digits_split B zero k v u p = rw (pow-zero B, zero-add k) (ap (digits B k) (omega arith))
digits_split B (suc m) k v u p =
    rw (
      suc-add m k,
      pow-succ' B m,
      mul_assoc B (B ^ m) u,
      add-mul-mod_self_left v B (B ^ m * u),
      add-mul-div_left v (B ^ m * u) p,
      digits_split B m k (v / B) u p,
      div-div-eq-div-mul v B (B ^ m),
    )

-- the first n digits, and then the others above them
pub number_split : (B n : ℕ) (xs : List ℕ) → n ≤ length xs → number B xs ≡ number B (take n xs) + B ^ n * number B (drop n xs)
number_split B n xs h =
    ap (number B) (sym (take-append-drop n xs)) ∙ number_append B (take n xs) (drop n xs) ∙ rw (length-take-le n xs h)

-- a number read from place i on, in two parts
pub number_parts :
    (B m k i : ℕ) (xs : List ℕ) → i + m ≤ length xs →
    number B (take (m + k) (drop i xs)) ≡ number B (take m (drop i xs)) + B ^ m * number B (take k (drop (i + m) xs))
number_parts B m k i xs h =
    rw (take-add m k (drop i xs), drop-drop m i xs, number_append B, length-take-le m (drop i xs) (omega (arith, length-drop i xs)))

-- the lowest digit, and the others
pub number_next :
    (B n i : ℕ) (xs : List ℕ) → i < length xs → number B (take (suc n) (drop i xs)) ≡ get_or xs i 0 + B * number B (take n (drop (suc i) xs))
unfolding number
number_next B n i xs h = rw (drop-cons xs i 0 h)

-- one digit more below those from place i on
pub number_more :
    (B i : ℕ) (xs : List ℕ) {x : ℕ} → 0 < i → i ≤ length xs → x ≡ number B (drop i xs) → get_or xs (i - 1) 0 + B * x ≡ number B (drop (i - 1) xs)
unfolding number
number_more B zero xs h l e = absurd (omega arith)
number_more B (suc i) xs h l e =
    let before : suc i - 1 ≡ i = omega arith in
    rw (before, e, drop-cons xs i 0)

-- the digits by their places
pub digits_from : (B n v : ℕ) → digits B n v ≡ from n (digit B v)
unfolding digits from
digits_from B zero v = refl
digits_from B (suc n) v =
    rw (pow-zero B, div-one v)
    (ap (λ (l : List ℕ). v % B ∷ l)
    (digits_from B n (v / B) ∙ from_cong n _ _ (λ k h. rw (div-div-eq-div-mul v B (B ^ k), ← pow-succ' B k))))

-- a power of a power of two
pub pow_mul : (a n : ℕ) → 2 ^ (a * n) ≡ (2 ^ a) ^ n
pow_mul a zero = rw (mul-zero a) (sym (pow-zero (2 ^ a)))
pow_mul a (suc n) = rw (mul-suc a n, pow-add 2 (a * n) a, pow-suc (2 ^ a) n, pow_mul a n)
