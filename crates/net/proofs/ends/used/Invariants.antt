-- From here on there are only zeros.
use Rattle.net.specs.Ends.{ZerosFrom}
use Rattle.net.proofs.ends.used.Given as goal

abbrev pub invariant-loop-at : goal.invariant-loop-at
invariant-loop-at l = ZerosFrom l.tree l.at
