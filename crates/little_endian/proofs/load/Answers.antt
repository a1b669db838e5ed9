-- `little_endian::load` meets its contract: the eight bytes are the string, and zeros behind it.
use Rattle.std.proofs.Common.{◌≡◌, refl, length, replicate, arith, ◌∙◌, w64}
use Rattle.std.proofs.Math.Seq.{take-length}
use Rattle.std.specs.Int.{from_le_bytes}
use Rattle.lists.specs.Numbers.{number}
use Rattle.lists.proofs.Laws.Numbers.{number_lt}
use Rattle.little_endian.proofs.Bytes.{loaded, copied}
use Rattle.little_endian.proofs.load.Goals as goal

pub loop-i-init : goal.loop-i-init
loop-i-init c = refl

pub loop-i-preserved : goal.loop-i-preserved
loop-i-preserved c = rw c.loop-i.invariant (copied (replicate 8 0) c.args.bytes.now c.loop-i.i (omega arith) (omega arith))

pub returns : goal.returns
returns c =
    let s = c.args.bytes.now in
    let i : c.loop-i.i ≡ length s = omega arith in
    let eight : c.from_le_bytes.result ≡ from_le_bytes w64 c.loop-i.all = c.from_le_bytes.ensures in
    let e : c.from_le_bytes.result ≡ number 256 s = rw (c.loop-i.invariant, i, take-length s) at eight ∙ loaded s (omega arith) in
    (e, rw e (number_lt 256 s (λ k q. omega (arith, c.type_inv.bytes k))))
