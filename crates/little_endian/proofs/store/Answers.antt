-- `little_endian::store` meets its contract: the first bytes of eight are the digits.
use Rattle.std.proofs.Common.{◌≡◌, ◌∙◌, length, take, arith, append-nil}
use Rattle.std.proofs.Math.Seq.{drop-length}
use Rattle.little_endian.proofs.Bytes.{stored, copied}
use Rattle.little_endian.proofs.store.Goals as goal

pub loop-k-preserved : goal.loop-k-preserved
loop-k-preserved c =
    let l = c.loop-k in
    rw l.invariant (copied c.args.bytes.now c.to_le_bytes-all.result l.k (omega arith) (omega arith))

pub returns : goal.returns
returns c =
    let b = c.args.bytes.now in
    let e : c.loop-k.k ≡ length b = omega arith in
    c.loop-k.invariant
    ∙ rw (e, drop-length b, append-nil (take (length b) c.to_le_bytes-all.result), c.to_le_bytes-all.ensures)
    (stored (length b) c.args.x (omega arith))
