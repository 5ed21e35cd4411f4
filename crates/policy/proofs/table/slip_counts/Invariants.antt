-- The answer is what the entries that are left, from here on, make of the counts.
use Rattle.std.proofs.Common.{◌≡◌, ◌-◌}
use Rattle.policy.specs.Bytes.{none, slip_counts}
use Rattle.policy.proofs.table.slip_counts.Given as goal

abbrev pub invariant-loop : goal.invariant-loop
invariant-loop l = slip_counts l.tree l.fn.n l.at none ≡ slip_counts l.rest (l.fn.n - l.counter) 0 l.counts
