use Rattle.std.proofs.Common.{rules}
use Rattle.rules.specs.Calls.{trust_byte, policy_byte}
use Rattle.net.proofs.Filled.{made}
use Rattle.net.proofs.SetUps.{fresh_is}
use Rattle.net.proofs.setting_up.fresh.Goals as goal

pub returns : goal.returns
returns c =
    fresh_is _ c.byte_at-n.ensures (made _ (trust_byte c.args.bytes.now c.byte_at-n.result) _ (λ x b q k. search rules) c.from_fn.ensures.items)
    (made _ (policy_byte c.args.bytes.now c.byte_at-n.result) _ (λ x b q k. search rules) c.from_fn-2.ensures.items) (search rules)
