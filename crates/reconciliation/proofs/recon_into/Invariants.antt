-- `reconciliation::recon_into` meets its contract: after i turns the first i places hold their data.
use Rattle.std.proofs.Common.{◌≡◌, map, take}
use Rattle.reconciliation.specs.Reconciliation.{data_of}
use Rattle.reconciliation.proofs.recon_into.Given as goal

abbrev pub invariant-loop-i : goal.invariant-loop-i
invariant-loop-i l = take l.i l.data ≡ map (data_of l.g) (take l.i l.w)
