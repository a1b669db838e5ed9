-- `sponge::last_block` meets its contract: the padding is stored over the zeros behind s, as one byte or as two.
use mathlib.Core.Path.{◌≡◌}
use Prim.Native.Nat.{suc, ◌+◌, ◌-◌}
use native.Mathlib.Omega.{arith}
use lib.ListN.{length}
use Rattle.sponge.specs.Laws.Sponge.{pad_one, pad_more}
use Rattle.sponge.proofs.last_block.Goals as goal

pub returns-then-n-rate : goal.returns-then-n-rate
returns-then-n-rate c =
    let a = c.args in
    let s = a.s.now in
    let z = 200 - a.rate in
    let e : 200 - length s ≡ suc z = omega arith in
    let q : a.rate - length s ≡ 1 = omega arith in
    rw (c.block_of-block.ensures, e, q) (pad_one s a.domain z)

pub returns-else-n-rate : goal.returns-else-n-rate
returns-else-n-rate c =
    let a = c.args in
    let s = a.s.now in
    let z = 200 - a.rate in
    let k = a.rate - length s - 2 in
    let e : 200 - length s ≡ suc (k + suc z) = omega arith in
    let q : a.rate - length s ≡ suc (suc k) = omega arith in
    let at : a.rate - 1 ≡ length s + suc k = omega arith in
    rw (c.block_of-block.ensures, q, e, at) (pad_more s a.domain k z)
