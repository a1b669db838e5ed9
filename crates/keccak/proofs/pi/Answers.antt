-- `keccak::pi` meets its contract: each lane is what the definition takes there.
use Rattle.std.proofs.Common.{rules}
use Rattle.keccak.specs.Keccak.{pi_at}
use Rattle.keccak.proofs.pi.Goals as goal

pub returns : goal.returns
returns c = c.state.ensures (pi_at c.args.a) (λ x y v p q b e. search rules)
