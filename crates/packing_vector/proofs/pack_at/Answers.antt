-- `packing_vector::pack_at` meets its contract: the part that is lent has as many bytes as the packed polynomials.
use Rattle.packing_vector.specs.Laws.Places.{part_fills}
use Rattle.packing_vector.proofs.pack_at.Goals as goal

pub pack_into-requires : goal.pack_into-requires
pack_into-requires c = part_fills _ _ _ _ c.requires
