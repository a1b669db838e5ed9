-- What `split` requires: for the halves, and for one chunk.
use Rattle.std.specs.Prelude.{◌≡◌, ℕ, zero, suc, ◌+◌, ◌*◌, ◌/◌, ◌%◌, ◌^◌, ◌<◌, ◌≤◌, List, length, ◌≢◌}
use Rattle.std.proofs.Common.{inl, inr, mul-add, mul-le-mul_left, mul-one, arith}
use Rattle.std.proofs.Math.Nat.{one-le-pow, two-pow-succ}
use Rattle.algebra.specs.Integers.{Same}
use Rattle.algebra.specs.Halves.{split}
use Rattle.algebra.proofs.Laws.Halves.{split_conv}
use Rattle.karatsuba_base.specs.Layout.{reads, offset, operand, Blank, Apart}
use Rattle.karatsuba_base.specs.Ensures.{Plain}
use Rattle.karatsuba_base.specs.Requires.{PlainScratch}
use Rattle.karatsuba_split.specs.Ensures.{Halved}
use Rattle.karatsuba_split.specs.Requires.{SumScratch, JoinScratch, SplitScratch}
use Rattle.karatsuba_split.specs.Laws.Level.{Fields}

-- half of more than one chunk
pub record Half (chunks c : ℕ) : Type 0 where
  pub even : chunks ≡ c + c
  pub depth : ℕ
  pub sized : c ≡ 2 ^ depth

pub half : (chunks depth : ℕ) → chunks ≡ 2 ^ depth → (chunks ≢ 1) → Half chunks (chunks / 2)
half chunks zero e n = absurd (n e)
half chunks (suc d) e n =
    let t = two-pow-succ d in
    record { even = omega (arith, t); depth = d; sized = omega (arith, t) }

module _ {rows chunks a out free : ℕ} {w : List ℕ} (r : SplitScratch rows chunks a out free w) where
  -- one chunk
  module _ (e : chunks ≡ 1) where
    all : rows * chunks ≡ rows
    all = rw e (mul-one rows)

    pub plain_scratch : PlainScratch rows a out w
    plain_scratch = record {
      apart = go r.apart;
      operands = omega (arith, r.operands, all, r.left);
      product = omega (arith, r.product, all, r.left);
      blank = λ p h z. r.blank p (omega (arith, all)) z;
    }
      where
        go : Apart a (24 * (rows * chunks + chunks)) out (32 * (rows * chunks)) → Apart a (24 * (rows + 1)) out (32 * rows)
        go (inl h) = inl (omega (arith, all))
        go (inr h) = inr (omega (arith, all))

    pub plain_halved : {w' : List ℕ} → Plain rows rows a out w w' → Halved rows chunks a out free w w'
    plain_halved {w'} h = record {
      size = h.size;
      value = value_of;
      below = h.below;
      above = λ p l m. h.above p (omega (arith, all));
    }
      where
        value_of :
            (j : ℕ) → chunks ≡ 2 ^ j → (i k : ℕ) → i < rows → k < 16 * (2 * chunks) →
            Same 65536 (reads w' (out + 16 * i + offset (16 * rows) k)) (split 16 j (operand rows chunks w a rows) (operand rows chunks w a i) k)
        value_of zero d i k hi hk = rw e (rw (split_conv 16 0 (operand rows 1 w a rows) (operand rows 1 w a i) k) (h.value i k hi (omega arith)))
        value_of (suc j) d i k hi hk = absurd (omega (arith, two-pow-succ j))

  module _ {c : ℕ} (x : Half chunks c) where
    -- the places in terms of rows c
    twice : rows * chunks ≡ rows * c + rows * c
    twice = rw x.even (mul-add rows c c)

    most : rows * c ≤ 4 * c
    most = omega (arith, mul-le-mul_left c r.most)

    pub least : 1 ≤ c
    least = rw x.sized (one-le-pow x.depth 2 (omega arith))

    some : rows ≤ rows * c
    some = omega (arith, mul-le-mul_left rows least)

    pub fields : Fields (24 * (rows * c + c)) (16 * (rows * c)) a out free (free + 24 * (rows * c + c) + 8 * c)
    fields = record {
      apart = go r.apart;
      operands = omega (arith, r.operands, twice, x.even);
      product = omega (arith, r.product, twice);
      sums = omega arith;
      lower = omega (arith, most);
    }
      where
        go : Apart a (24 * (rows * chunks + chunks)) out (32 * (rows * chunks)) →
            Apart a (24 * (rows * c + c) + 24 * (rows * c + c)) out (16 * (rows * c) + 16 * (rows * c) + 16 * (rows * c) + 16 * (rows * c))
        go (inl h) = inl (omega (arith, twice, x.even))
        go (inr h) = inr (omega (arith, twice))

    pub blank_both : Blank (24 * (rows * c + c) + 24 * (rows * c + c)) w a
    blank_both p hp hz = r.blank p (omega (arith, twice, x.even)) hz

    module _ {size : ℕ} (same : size ≡ length w) where
      pub scratch_left : free + 24 * (rows * c + c) + 8 * c + 24 * (rows * c) + 32 * c ≤ size + 24 * rows + 32
      scratch_left = omega (arith, r.left, twice, x.even, same)

      pub sum_scratch : SumScratch a (a + 24 * (rows * c + c)) free (24 * (rows * c + c)) size
      sum_scratch = record { first = omega (arith, fields); second = omega (arith, fields); left = omega (arith, scratch_left, some, least) }

      -- the sums are whole chunks with their zeros
      pub sum_whole : 24 * (rows * c + c) % 24 ≡ 0
      sum_whole = omega arith

      pub join_scratch : JoinScratch out free (16 * (rows * c)) size
      join_scratch = record { whole = omega arith; apart = omega (arith, fields); left = omega (arith, scratch_left, fields, some, least) }

    module _ {w' : List ℕ} (same : length w' ≡ length w) where
      pub scratch_high :
          Blank (24 * (rows * c + c)) w' (a + 24 * (rows * c + c)) →
          SplitScratch rows c (a + 24 * (rows * c + c)) (out + 16 * (rows * c) + 16 * (rows * c)) (free + 24 * (rows * c + c) + 8 * c) w'
      scratch_high z = record {
        most = r.most;
        depth = x.depth;
        sized = x.sized;
        apart = go r.apart;
        operands = omega (arith, fields);
        product = omega (arith, fields);
        left = scratch_left same;
        blank = z;
      }
        where
          go : Apart a (24 * (rows * chunks + chunks)) out (32 * (rows * chunks)) →
              Apart (a + 24 * (rows * c + c)) (24 * (rows * c + c)) (out + 16 * (rows * c) + 16 * (rows * c)) (32 * (rows * c))
          go (inl h) = inl (omega (arith, twice, x.even))
          go (inr h) = inr (omega (arith, twice))

      pub scratch_mid : Blank (24 * (rows * c + c)) w' free → SplitScratch rows c free out (free + 24 * (rows * c + c) + 8 * c) w'
      scratch_mid z = record {
        most = r.most;
        depth = x.depth;
        sized = x.sized;
        apart = inr (omega (arith, fields));
        operands = omega arith;
        product = omega (arith, fields);
        left = scratch_left same;
        blank = z;
      }

      pub scratch_low : Blank (24 * (rows * c + c)) w' a → SplitScratch rows c a free (free + 24 * (rows * c + c) + 8 * c) w'
      scratch_low z = record {
        most = r.most;
        depth = x.depth;
        sized = x.sized;
        apart = inl (omega (arith, fields));
        operands = omega (arith, fields);
        product = omega (arith, fields);
        left = scratch_left same;
        blank = z;
      }
