-- The measure of both is how many bytes are left. Assumes nothing.
use Rattle.std.proofs.Common.{◌-◌, length}
use Rattle.program.proofs.reader.+departure_end_program_end.Given as goal

abbrev pub decreases-departure_end : goal.decreases-departure_end
decreases-departure_end l = length l.tree.now - l.at

abbrev pub decreases-program_end : goal.decreases-program_end
decreases-program_end l = length l.tree.now - l.at
