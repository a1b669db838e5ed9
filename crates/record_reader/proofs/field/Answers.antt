-- `record_reader::field` meets its contract: so few bytes hold no larger number.
use Rattle.std.proofs.Common.{lt_of_lt_of_le, arith}
use Rattle.std.proofs.Math.Nat.{pow-le-pow_right}
use Rattle.record_reader.proofs.field.Goals as goal

pub returns-clause-few : goal.returns-clause-few
returns-clause-few c = lt_of_lt_of_le c.load.ensures.1 (pow-le-pow_right (omega arith) (omega arith))
