-- `packing::pack_into` meets its contract: each turn reads a coefficient, and writes four bytes once 32 bits are held.
use Prim.Native.Nat.{ℕ, ◌+◌, ◌-◌, ◌*◌, ◌/◌, ◌%◌, ◌^◌, ◌≤◌, ◌<◌}
use mathlib.Core.List.{List}
use mathlib.Core.Path.{◌≡◌, refl}
use native.Mathlib.Omega.{arith}
use native.Mathlib.Nat.{mul-zero, mul-le-mul_left, lt_of_lt_of_le}
use lib.ListN.{length, get_or, take, drop}
use lib.Pow.{pow_mono, shl_exact}
use lib.Seq.{drop-cons}
use Rattle.lists.specs.Numbers.{number, digits}
use Rattle.lists.specs.Strings.{placed}
use Rattle.lists.proofs.Laws.Numbers.{length_digits}
use Rattle.lists.proofs.Laws.Strings.{placed_next}
use Rattle.packing.specs.Laws.Cutting.{Cutting, read, write, to_write, done}
use Rattle.packing.proofs.pack_into.Invariants.{Turn}
use Rattle.packing.proofs.pack_into.Goals as goal
use Rattle.packing.proofs.pack_into.Goals.{then-held-ge32, else-held-ge32}

one : (a : ℕ) (xs : List ℕ) (i : ℕ) → i < length xs → get_or xs i 0 ≡ number (2 ^ a) (take 1 (drop i xs))
unfolding number
one a xs i h = rw (drop-cons xs i 0 h) (omega (arith, mul-zero (2 ^ a)))

-- the coefficient of a turn is read
more :
    {w : ℕ} {cs bytes : List ℕ} {acc held i j : ℕ} (t : Turn w cs bytes acc held i j) → 1 ≤ w → i < length cs → get_or cs i 0 < 2 ^ 16 →
    Cutting w 8 cs bytes (acc + get_or cs i 0 * 2 ^ held % 2 ^ 64) (held + w) (i + 1) j
more {w} {cs} {held = held} {i} t p h l =
    rw (shl_exact 16 held 64 l (omega (arith, t.few)))
    (read t.cut 1 w _ (omega arith) p (omega arith) (lt_of_lt_of_le l (pow_mono {i = 16} (omega arith))) (one w cs i h))

-- where 32 bits are held then, there is room for four bytes, and they are the digits of `acc`
four :
    {w : ℕ} {cs bytes new : List ℕ} {acc held i j : ℕ} → Cutting w 8 cs bytes acc held i j → i ≤ length cs → j % 4 ≡ 0 → 32 ≤ held → held ≤ 63 →
    length new ≡ length bytes → new ≡ placed j (digits 256 4 acc) bytes → Turn w cs new (acc / 2 ^ 32) (held - 32) i (j + 4)
four {bytes = bytes} {acc = acc} {j = j} m p z h k l e =
    let d = length_digits 256 4 acc in
    let f : j + 4 ≤ length bytes = to_write m 4 (omega arith) p h in
    record {
      few = omega arith;
      fours = omega arith;
      cut = write m 4 32 refl h f l (rw e (placed_next j (digits 256 4 acc) bytes (omega arith) (take j bytes) (j + 4) (omega arith) refl));
    }

pub loop-x-preserved : goal.loop-x-preserved
loop-x-preserved c =
    let t = c.loop-x in
    let m = more t.invariant c.requires.least c.loop-x-test.true (c.type_inv.coefficients t.x-index).fits in
    elim c.if-held-ge32.branch [
      | then-held-ge32 w ↦
          rw (w.bytes-is, w.acc-is, w.held-is, w.j-is)
          (four m (omega arith) t.invariant.fours w.if-held-ge32.true (omega arith) w.store32.auto.bytes w.store32.ensures)
      | else-held-ge32 w ↦
          rw (w.bytes-is, w.acc-is, w.held-is, w.j-is) (record { few = omega arith; fours = t.invariant.fours; cut = m })
    ]

-- with all read and fewer than 32 bits held, all is written
pub returns : goal.returns
returns c =
    let t = c.loop-x in
    let l = mul-le-mul_left c.args.width c.loop-x-test.false in
    done t.invariant.cut (omega arith) (omega arith)
