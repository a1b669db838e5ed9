-- `packing::unpack_into` meets its contract: each turn writes a number, once four bytes are read where too few bits were held.
use Prim.Native.Nat.{ℕ, ◌+◌, ◌-◌, ◌*◌, ◌/◌, ◌%◌, ◌^◌, ◌<◌, ◌≤◌}
use mathlib.Core.List.{List}
use mathlib.Core.Path.{◌≡◌, refl}
use native.Mathlib.Omega.{arith}
use native.Mathlib.Nat.{one-mul}
use native.Mathlib.Numerals.{add-one}
use lib.ListN.{length, length-set, set, take, drop}
use lib.Pow.{shl_exact}
use lib.Seq.{take-suc-set}
use Rattle.lists.specs.Numbers.{number, digits}
use Rattle.packing.specs.Laws.Cutting.{read, write, to_read, done}
use Rattle.packing.proofs.unpack_into.Invariants.{Turn}
use Rattle.packing.proofs.unpack_into.Goals as goal
use Rattle.packing.proofs.unpack_into.Goals.{then-held-width, else-held-width}

-- with too few bits held there are four bytes to read, and they are read
more :
    {w : ℕ} {bytes cs : List ℕ} {acc held i j : ℕ} (t : Turn w bytes cs acc held i j) {x : ℕ} → w ≤ 16 → length bytes % 4 ≡ 0 → j < length cs →
    held < w → (x ≡ number 256 (take 4 (drop i bytes))) × (x < 2 ^ 32) → Turn w bytes cs (acc + x * 2 ^ held % 2 ^ 64) (held + 32) (i + 4) j
more {w} {bytes} {held = held} {i} t m f h k e =
    let l = to_read t.cut h k in
    rw (shl_exact 32 held 64 e.1 (omega arith))
    (record { fours = omega (arith, t.fours); cut = read t.cut 4 32 _ refl (omega arith) (omega (arith, t.fours)) (omega (arith, e.1)) e.0 })

-- with enough bits held a number is written
written :
    {w : ℕ} {bytes cs : List ℕ} {acc held i j : ℕ} (t : Turn w bytes cs acc held i j) → w ≤ 16 → j < length cs → w ≤ held →
    Turn w bytes (set cs j (acc % (1 * 2 ^ w % 2 ^ 64))) (acc / 2 ^ w) (held - w) i (j + 1)
unfolding digits
written {w} {cs = cs} {acc} {j = j} t m h k =
    rw (shl_exact {a = 1} 1 w 64 (omega arith) (omega arith), one-mul (2 ^ w))
    (record {
      fours = t.fours;
      cut = write t.cut 1 _ (omega arith) k (omega arith) (length-set cs j _) (rw add-one (take-suc-set cs j _ h));
    })

pub loop-x-preserved : goal.loop-x-preserved
loop-x-preserved c =
    let a = c.args in
    let t = c.loop-x in
    let v = c.if-held-width in
    let r : Turn a.width a.bytes.now t.coefficients v.acc v.held v.i t.x-index =
    elim v.branch [
      | then-held-width w ↦
          rw (w.acc-is, w.held-is, w.i-is)
          (more t.invariant c.requires.most c.requires.fours (omega arith) w.if-held-width.true w.load32.ensures)
      | else-held-width w ↦ rw (w.acc-is, w.held-is, w.i-is) t.invariant
    ] in
    let enough : a.width ≤ v.held = elim v.branch [ then-held-width w ↦ omega arith | else-held-width w ↦ omega arith ] in
    written r c.requires.most (omega arith) enough

pub returns : goal.returns
returns c = done c.loop-x.invariant.cut c.requires.least (omega arith)
