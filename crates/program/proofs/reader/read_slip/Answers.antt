-- One entry is read, and one less is left.
use Rattle.std.proofs.Common.{arith}
use Rattle.program.proofs.Shows.{slip_next}
use Rattle.program.proofs.reader.read_slip.Goals as goal

pub loop-preserved : goal.loop-preserved
loop-preserved c = grind (arith, slip_next)
