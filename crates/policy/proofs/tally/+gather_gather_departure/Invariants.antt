-- The measure of both is how many bytes are left.
use Rattle.std.proofs.Common.{◌-◌, length}
use Rattle.policy.proofs.tally.+gather_gather_departure.Given as goal

abbrev pub decreases-gather : goal.decreases-gather
decreases-gather l = length l.tree.now - l.at

abbrev pub decreases-gather_departure : goal.decreases-gather_departure
decreases-gather_departure l = length l.tree.now - l.at
