-- Document 02, A3: the product of polynomials with no X^n = -1, and the same product by halves.
-- A polynomial is here the function from an exponent to its coefficient.
use Rattle.std.specs.Prelude.{ℕ, zero, suc, ◌+◌, ◌*◌, ◌-◌, ◌^◌, ◌≤◌, cond, ◌≡◌, ltb, ℤ, pos, ◌+ℤ◌, ◌*ℤ◌, ◌-ℤ◌}
use Rattle.algebra.specs.Integers.{sum}

-- f + g
abbrev pub plus : (ℕ → ℤ) → (ℕ → ℤ) → ℕ → ℤ
plus f g k = f k +ℤ g k

-- X f, and X^h f
abbrev pub slide : (ℕ → ℤ) → ℕ → ℤ
slide f zero = pos 0
slide f (suc k) = f k

unfoldable pub slides : ℕ → (ℕ → ℤ) → ℕ → ℤ
slides zero f = f
slides (suc h) f = slide (slides h f)

-- f g
unfoldable pub conv : (ℕ → ℤ) → (ℕ → ℤ) → ℕ → ℤ
conv f g k = sum (suc k) (λ i. f i *ℤ g (k - i))

-- the h lowest coefficients of f, and those from X^h on
unfoldable pub low : ℕ → (ℕ → ℤ) → ℕ → ℤ
low h f k = cond (ltb k h) (f k) (pos 0)

abbrev pub high : ℕ → (ℕ → ℤ) → ℕ → ℤ
high h f k = f (h + k)

-- L + X^h (M - L - H) + X^(2 h) H
unfoldable pub joined : ℕ → (ℕ → ℤ) → (ℕ → ℤ) → (ℕ → ℤ) → ℕ → ℤ
joined h L M H k = L k +ℤ (slides h (λ j. M j -ℤ L j -ℤ H j) k +ℤ slides h (slides h H) k)

-- f g for m 2^j coefficients each, by halves: three half products in place of four, down to the plain one of m
unfoldable pub split : ℕ → ℕ → (ℕ → ℤ) → (ℕ → ℤ) → ℕ → ℤ
split m zero f g = conv f g
split m (suc j) f g =
    let h = m * 2 ^ j in
    joined h
    (split m j (low h f) (low h g))
    (split m j (plus (low h f) (high h f)) (plus (low h g) (high h g)))
    (split m j (high h f) (high h g))

-- no coefficient from X^n on
abbrev pub Degree : ℕ → (ℕ → ℤ) → Type 0
Degree n f = (i : ℕ) → n ≤ i → f i ≡ pos 0

-- eight terms of f g, where g stands in R from place 8 on
unfoldable pub window : (ℕ → ℤ) → (ℕ → ℤ) → ℕ → ℤ
window f R t = sum 8 (λ i. f i *ℤ R (t + 8 - i))
