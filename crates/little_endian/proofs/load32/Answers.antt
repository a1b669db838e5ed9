-- `little_endian::load32` meets its contract: the four bytes are the digits of the number.
use Prim.Native.Nat.{ℕ, suc, ◌+◌, ◌*◌, ◌≤◌}
use mathlib.Core.List.{List}
use mathlib.Core.Path.{◌≡◌}
use native.Mathlib.Omega.{arith}
use native.Mathlib.Numerals.{add-one, add-two, add-three}
use lib.ListN.{length, get_or, take, drop}
use Rattle.lists.specs.Numbers.{number}
use Rattle.lists.proofs.Laws.Numbers.{number_next}
use Rattle.little_endian.proofs.load32.Goals as goal

word_is :
    (bs : List ℕ) (i : ℕ) → i + 4 ≤ length bs →
    number 256 (take 4 (drop i bs)) ≡ get_or bs i 0 + 256 * (get_or bs (i + 1) 0 + 256 * (get_or bs (i + 2) 0 + 256 * get_or bs (i + 3) 0))
unfolding number
word_is bs i h =
    rw (
      add-one i,
      add-two i,
      add-three i,
      number_next 256 3 i bs (omega arith),
      number_next 256 2 (suc i) bs (omega arith),
      number_next 256 1 (suc (suc i)) bs (omega arith),
      number_next 256 0 (suc (suc (suc i))) bs (omega arith),
    )
    (omega arith)

pub returns : goal.returns
returns c = (omega (arith, word_is c.args.bytes.now c.args.at (omega arith)), omega arith)
