-- `pke::data_at` meets its contract: the steps of the definition, one after another.
use mathlib.Core.Path.{sym, ap, ◌∙◌}
use lib.ListN.{length}
use Rattle.reconciliation.specs.Laws.Reconciliation.{length_masked}
use Rattle.pke.proofs.data_at.Goals as goal

pub slice_bounds-recon_into-end : goal.slice_bounds-recon_into-end
slice_bounds-recon_into-end c = sym (ap length c.mask_into.ensures ∙ length_masked _ _)

pub returns : goal.returns
returns c =
    rw (c.recon_into.ensures, c.mask_into.ensures, c.unpack_into.ensures) at
    c.pack_at.ensures
