-- `keccak::theta_sheet` meets its contract: d is the effect that the definition names.
use Rattle.keccak.proofs.theta_sheet.Goals as goal

pub returns : goal.returns
returns c = cc
