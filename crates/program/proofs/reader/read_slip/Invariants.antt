-- The answer is what the entries that are left, from here on, say. Assumes nothing.
use Rattle.std.proofs.Common.{◌≡◌, ◌-◌}
use Rattle.program.specs.Reading.{slip_at}
use Rattle.program.specs.Shown.{shown}
use Rattle.program.proofs.reader.read_slip.Given as goal

abbrev pub invariant-loop : goal.invariant-loop
invariant-loop l = shown (slip_at l.tree l.fn.n 0 l.at) ≡ shown (slip_at l.tree (l.fn.n - l.counter) l.low l.k)
