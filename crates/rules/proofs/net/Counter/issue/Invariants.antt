-- So many candidates are passed over, and the search goes on from there: `Passing`. Assumes nothing.
use Rattle.std.proofs.Common.{◌-◌}
use Rattle.rules.proofs.Issues.{Passing}
use Rattle.rules.proofs.net.Counter.issue.Given as goal

abbrev pub invariant-candidates : goal.invariant-candidates
invariant-candidates l = Passing l.threads l.initial.candidate l.over l.candidate

abbrev pub decreases-candidates : goal.decreases-candidates
decreases-candidates l = 65 - l.over
