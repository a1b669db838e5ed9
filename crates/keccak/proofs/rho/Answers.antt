-- `keccak::rho` meets its contract: each lane is turned by its offset.
use mathlib.Core.Path.{◌≡◌}
use Rattle.std.proofs.Common.{rules, w64}
use Rattle.std.specs.Int.{rotate_left}
use Rattle.keccak.specs.Keccak.{rot, lane, offsets}
use Rattle.keccak.proofs.Lanes.{turned, offset_small}
use Rattle.keccak.proofs.rho.Goals as goal

pub returns : goal.returns
returns c =
    let a = c.args.a in
    c.state.ensures (λ x y. rot (lane a x y) (lane offsets x y))
    (λ x y v p q b e.
    let made : v ≡ rotate_left w64 (lane a x y) (lane offsets x y) = search rules in
    turned _ _ v (offset_small x y p q) b made)
