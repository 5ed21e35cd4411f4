-- The pairs of the two tables, one for each name, all pass.
use Rattle.std.proofs.Common.{◌∙◌, leb, rules, tests}
use Rattle.std.proofs.lemmas.Iterator.{YieldsList-from_slice, YieldsList-from_zip}
use Rattle.std.proofs.lemmas.Iterator.Search.{all_from_yields_List}
use Rattle.policy.proofs.Tables.{pairs_fit}
use Rattle.policy.proofs.table.fits_all.Goals as goal

pub returns : goal.returns
returns c =
    all_from_yields_List (λ p. leb p.0 p.1) c.all.new.self _ _ c.all.ensures.ran
    (YieldsList-from_zip (YieldsList-from_slice c.args.counts cc) (YieldsList-from_slice c.args.allowed cc)) (λ x b q k. search (rules, tests))
    ∙ pairs_fit c.args.counts c.args.allowed (search rules) (search rules)
