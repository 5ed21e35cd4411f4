use Rattle.std.proofs.Common.{rules}
use Rattle.net.proofs.Endings.{program_is}
use Rattle.net.proofs.ends.Reads.has_program.Goals as goal

pub returns-in-Some-clause-found : goal.returns-in-Some-clause-found
returns-in-Some-clause-found c = search (rules, program_is)
