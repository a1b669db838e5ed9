-- `keccak::chi` meets its contract: each lane is what the definition makes there.
use Rattle.std.proofs.Common.{rules}
use Rattle.keccak.specs.Keccak.{chi_at}
use Rattle.keccak.proofs.chi.Goals as goal

pub returns : goal.returns
returns c = c.state.ensures (chi_at c.args.a) (λ x y v p q b e. search rules)
