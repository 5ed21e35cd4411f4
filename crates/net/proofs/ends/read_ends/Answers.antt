use Rattle.std.proofs.Common.{arith, rules}
use Rattle.net.specs.Ends.{zero_end}
use Rattle.net.proofs.Filled.{made}
use Rattle.net.proofs.Endings.{unread, fits}
use Rattle.net.proofs.ends.read_ends.Goals as goal

pub loop-at-init : goal.loop-at-init
loop-at-init c =
    let begun = unread _ _ c.requires c.used-at.ensures.zeros (made _ zero_end _ (λ x b q k. search rules) c.from_fn-ends.ensures.items) in
    (omega (arith, c.requires, c.used-at.ensures.low), begun.0, begun.1)

pub overflow_cast-ends : goal.overflow_cast-ends
overflow_cast-ends c = omega (arith, fits _ _ (omega (arith, c.requires)) c.end_at.ensures)
