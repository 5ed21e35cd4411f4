-- The ends are right from here on.
use Rattle.std.proofs.Common.{◌≡◌, ◌≤◌, length}
use Rattle.net.specs.Ends.{Behind}
use Rattle.net.proofs.ends.read_ends.Given as goal

abbrev pub invariant-loop-at : goal.invariant-loop-at
invariant-loop-at l = (l.at ≤ 384) × (length l.ends ≡ 385) × Behind l.tree l.ends l.at
