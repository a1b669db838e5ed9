-- `marginreport::fill`: what is read stands within the buffer.
use Rattle.std.proofs.Common.{arith}
use Rattle.marginreport.proofs.fill.Goals as goal

pub returns : goal.returns
returns g c = omega (arith, c.in_ok-rest.ensures)
