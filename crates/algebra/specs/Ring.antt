-- Document 01, "Ring and sampling": polynomials over the whole numbers with X^n = -1, vectors of them, and their residues.
-- A polynomial is the list of its coefficients, that of X^0 first.
use Rattle.std.specs.Prelude.{ℕ, zero, suc, ◌+◌, ◌*◌, ◌-◌, List, [], ◌++◌, map, ℤ, pos, ◌*ℤ◌, ◌-ℤ◌, get_or, take, drop}
use Rattle.lists.specs.Lists.{from}
use Rattle.algebra.specs.Integers.{modℤ, sum}

-- the coefficient of X^k
abbrev pub at : List ℤ → ℕ → ℤ
at a k = get_or a k (pos 0)

-- the coefficient of X^k in a b, where X^n = -1: the a_i b_j with i + j = k, less those with i + j = k + n
unfoldable pub coef : ℕ → List ℤ → List ℤ → ℕ → ℤ
coef n a b k = sum (suc k) (λ i. at a i *ℤ at b (k - i)) -ℤ sum (n - suc k) (λ i. at a (suc k + i) *ℤ at b (n - suc i))

-- the ring product a b
unfoldable pub mul : ℕ → List ℤ → List ℤ → List ℤ
mul n a b = from n (coef n a b)

-- the inner product a_0 b_0 + .. + a_(l-1) b_(l-1) of two vectors of l polynomials, given by their index
unfoldable pub inner : ℕ → ℕ → (ℕ → List ℤ) → (ℕ → List ℤ) → List ℤ
inner n l a b = from n (λ k. sum l (λ i. coef n (a i) (b i) k))

-- numbers as whole numbers, and whole numbers modulo m
abbrev pub nat : List ℕ → List ℤ
nat = map pos

abbrev pub residues : ℕ → List ℤ → List ℕ
residues m = map (λ z. modℤ z m)

-- a vector as one flat list: its polynomial i, and the list made of the polynomials f 0, .., f (l - 1)
abbrev pub poly : {A : Type 0} → List A → ℕ → List A
poly s i = take 256 (drop (256 * i) s)

unfoldable pub blocks : {A : Type 0} → ℕ → (ℕ → List A) → List A
blocks zero f = []
blocks (suc l) f = blocks l f ++ f l
