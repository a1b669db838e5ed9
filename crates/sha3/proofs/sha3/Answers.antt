-- `sha3::sha3` meets its contract: a digest that is taken is as long as the hash.
use Rattle.std.proofs.Common.{arith}
use borrow.Author.Tests.{eqb-true}
use Rattle.sha3.proofs.sha3.Goals as goal

pub copy_from_slice-requires : goal.copy_from_slice-requires
copy_from_slice-requires g c = omega (arith, eqb-true)
