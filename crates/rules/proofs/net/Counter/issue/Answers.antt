-- Each way through the loop is a law of `Issues`. Assumes nothing.
use Rattle.std.proofs.Common.{rules, tests}
use Rattle.std.proofs.lemmas.Iterator.{YieldsList-from_slice}
use Rattle.std.proofs.lemmas.Iterator.Search.{any_from_yields_List}
use Rattle.rules.specs.Nets.{has}
use Rattle.rules.proofs.Issues.{p_holds, p_again, p_done}
use Rattle.rules.proofs.net.Counter.issue.Goals as goal

pub candidates-init : goal.candidates-init
candidates-init c = search (rules, p_holds)

pub candidates-preserved : goal.candidates-preserved
candidates-preserved c =
    let said = any_from_yields_List (has (λ t. t.pass) c.candidates.candidate) _ _ _ c.any.ensures.ran (YieldsList-from_slice c.args.threads c.iter.ensures.rest) (λ x b q k. search (rules, tests)) in
    p_again _ _ c.candidates.invariant said c.if-not-any.false (search rules)

pub returns : goal.returns
returns c =
    let said = any_from_yields_List (has (λ t. t.pass) c.candidates.candidate) _ _ c.any.result c.any.ensures.ran (YieldsList-from_slice c.args.threads c.iter.ensures.rest) (λ x b q k. search (rules, tests)) in
    p_done _ _ c.candidates.invariant said c.args.self.last (search rules) (search rules)
