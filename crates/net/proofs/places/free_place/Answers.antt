use Rattle.std.specs.List.{list_any}
use Rattle.std.proofs.Common.{not, rules}
use Rattle.rules.specs.Nets.{has}
use Rattle.net.proofs.Searches.{lowest_found}
use Rattle.net.proofs.places.free_place.Goals as goal

pub returns : goal.returns
returns c = lowest_found (λ place. not (list_any (has (λ t. t.place) place) c.args.threads.now)) _ _ _ _ c.find.ensures.ran (λ x b q k. search rules)
