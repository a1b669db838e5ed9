-- `keccak::effect` meets its contract: it is the definition, from what its calls ensure.
use mathlib.Core.Path.{ap, ◌∙◌}
use Prim.Native.Nat.{ℕ}
use lib.Bits.{bit_xor}
use Rattle.std.proofs.Common.{ap₂}
use Rattle.keccak.specs.Keccak.{rot, effect}
use Rattle.keccak.proofs.effect.Goals as goal

pub returns : goal.returns
unfolding rot effect
returns c = ap₂ bit_xor c.parity.ensures (c.rotate_left.ensures ∙ ap (λ (p : ℕ). rot p 1) c.parity-2.ensures)
