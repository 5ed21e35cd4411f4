-- The bytes that are left begin as those from the slip on.
use Rattle.std.proofs.Common.{◌≡◌, drop, arith}
use Rattle.std.proofs.lemmas.Grind.{common_steps}
use Rattle.policy.specs.Bytes.{none}
use Rattle.policy.proofs.Tables.{counts_start}
use Rattle.policy.proofs.table.slip_counts.Goals as goal

pub loop-init : goal.loop-init
loop-init c =
    let e : c.unwrap_or-rest.result.now ≡ drop c.args.at c.args.tree.now = grind (arith, common_steps) in
    counts_start c.args.tree.now c.unwrap_or-rest.result.now c.args.n _ c.args.at none e (omega arith)
