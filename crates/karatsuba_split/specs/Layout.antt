-- Where the products and the quarters of their join stand in the scratch, laid out as in `karatsuba_base`.
use Rattle.std.specs.Prelude.{ℕ, ◌+◌, ◌*◌, ◌<◌, List, ℤ, ◌+ℤ◌, ◌-ℤ◌}
use Rattle.algebra.specs.Integers.{Same}
use Rattle.karatsuba_base.specs.Layout.{reads, offset}

-- the products at out, of `chunks` chunks each: that of row i is f i, modulo 65536
abbrev pub Product : (rows chunks : ℕ) → (ℕ → ℕ → ℤ) → List ℕ → (out : ℕ) → Type 0
Product rows chunks f w out = (i k : ℕ) → i < rows → k < 16 * chunks → Same 65536 (reads w (out + 16 * i + offset (16 * rows) k)) (f i k)

-- place t of the second and of the third quarter of the join: low_1 + (mid_0 - low_0 - high_0), high_0 + (mid_1 - low_1 - high_1)
abbrev pub second : (out low q : ℕ) → List ℕ → ℕ → ℤ
second out low q w t = reads w (low + q + t) +ℤ (reads w (out + t) -ℤ reads w (low + t) -ℤ reads w (out + q + q + t))

abbrev pub third : (out low q : ℕ) → List ℕ → ℕ → ℤ
third out low q w t = reads w (out + q + q + t) +ℤ (reads w (out + q + t) -ℤ reads w (low + q + t) -ℤ reads w (out + q + q + q + t))
