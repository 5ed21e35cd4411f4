-- What issuing a pass gives: the pass, the counter moved on to it, and the number passed over. Definitions only.
use Rattle.std.specs.Prelude.{List}
use Rattle.rules.specs.declared.net.Thread.{Thread}
use Rattle.rules.specs.declared.net.Counter.{Counter}
use Rattle.rules.specs.declared.net.Issued.{Issued}
use Rattle.rules.specs.Nets.{pass_in, over_in}

abbrev pub issued_by : Counter → List Thread → Issued
issued_by counter threads =
    record { pass = pass_in threads counter.last; counter = record { last = pass_in threads counter.last }; over = over_in threads counter.last }
