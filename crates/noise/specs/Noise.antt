-- Document 01, "Noise": the errors of rounding, the noise and its bounds, computed from a matrix A, given by row and column, and the secrets s
-- and s' as whole numbers, each of l polynomials of n coefficients.
use Rattle.std.specs.Prelude.{ℕ, ◌+◌, ◌*◌, ◌/◌, ◌%◌, ◌<◌, ◌≤◌, List, map, ◌≡◌, ℤ, pos, ◌+ℤ◌, ◌-ℤ◌, length, get_or}
use Rattle.lists.specs.Lists.{from}
use Rattle.algebra.specs.Integers.{up, dn, modℤ, quotℤ}
use Rattle.algebra.specs.Ring.{at, inner, nat, residues}
use Rattle.rounding.specs.Rounding.{round}
use Rattle.reconciliation.specs.Reconciliation.{masked}

-- z modulo m, taken into -m/2 .. m/2 - 1, for an even m
abbrev pub around : ℕ → ℤ → ℤ
around m z = pos (modℤ (z +ℤ pos (m / 2)) m) -ℤ pos (m / 2)

-- z lies in -low .. high, both ends counted
pub record Lies (low high : ℕ) (z : ℤ) : Type 0 where
  pub below : dn z ≤ low
  pub above : up z ≤ high

-- the error of rounding t: 8 × its rounding minus t, modulo 8192, taken about zero, where it is in -3 .. 4
abbrev pub error : ℤ → ℤ
error t = around 8192 (pos (8 * round (modℤ t 8192)) -ℤ t)

module _ (n l : ℕ) (A : ℕ → ℕ → List ℕ) (s : ℕ → List ℤ) where
  -- polynomial i of the product A s, over the whole numbers
  unfoldable pub times : ℕ → List ℤ
  times i = inner n l (λ j. nat (A i j)) s

  -- the same rounded, and the errors of its rounding, coefficient by coefficient
  unfoldable pub rounded : ℕ → List ℕ
  rounded i = map round (residues 8192 (times i))

  unfoldable pub errors : ℕ → List ℤ
  errors i = map error (times i)

abbrev pub transposed : (ℕ → ℕ → List ℕ) → ℕ → ℕ → List ℕ
transposed A i j = A j i

module _ (n l : ℕ) (A : ℕ → ℕ → List ℕ) (s s' : ℕ → List ℤ) where
  -- b and e of keygen, b' and e' of encryption
  abbrev pub b : ℕ → List ℕ
  b = rounded n l (transposed A) s

  abbrev pub e : ℕ → List ℤ
  e = errors n l (transposed A) s

  abbrev pub b' : ℕ → List ℕ
  b' = rounded n l A s'

  abbrev pub e' : ℕ → List ℤ
  e' = errors n l A s'

  -- v of decryption, v' of encryption
  unfoldable pub v : List ℕ
  v = residues 1024 (inner n l (λ j. nat (b' j)) s)

  unfoldable pub v' : List ℕ
  v' = residues 1024 (inner n l (λ i. nat (b i)) s')

  -- N: the inner product of e' and s minus that of e and s', never reduced
  unfoldable pub noise : List ℤ
  noise = from n (λ k. at (inner n l e' s) k -ℤ at (inner n l e s') k)

-- the bounds are 8 × M
abbrev pub bound : ℕ → ℕ
bound margin = 8 * margin

-- every coefficient of N lies within them
abbrev pub Within : ℕ → List ℤ → Type 0
Within margin N = (k : ℕ) → k < length N → Lies (bound margin) (bound margin) (at N k)

-- what the step g, M, which bounds the noise, and what recovery adds must meet: g is even and not 0, and both others are 256 - g/2
pub record Fits (g margin added : ℕ) : Type 0 where
  pub some : 0 < g
  pub even : g % 2 ≡ 0
  pub bounds : margin + g / 2 ≡ 256
  pub adds : added + g / 2 ≡ 256

-- w carries the message m, of n bits
pub record Carries (n : ℕ) (v' m w : List ℕ) : Type 0 where
  pub bits : length m ≡ n
  pub bit : (k : ℕ) → k < n → get_or m k 0 < 2
  pub carried : (k : ℕ) → k < n → get_or w k 0 ≡ masked (get_or v' k 0) (get_or m k 0)

-- N/8 + r - g/2, for a coefficient N of the noise, always a multiple of 8, and the remainder r of w by g
abbrev pub offset : ℕ → ℤ → ℕ → ℤ
offset g N r = quotℤ N 8 +ℤ pos r -ℤ pos (g / 2)

-- the exact condition for a bit that comes back: z modulo 1024, taken into -512 .. 511, lies in -256 .. 255
abbrev pub Near : ℤ → Type 0
Near z = Lies 256 255 (around 1024 z)
