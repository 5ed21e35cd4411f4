use Rattle.std.proofs.Common.{slice_index_or, rules}
use Rattle.rules.specs.Nets.{zero_thread, free}
use Rattle.net.proofs.Searches.{lowest_found}
use Rattle.net.proofs.slots.free_slot.Goals as goal

pub returns : goal.returns
returns c = lowest_found (λ slot. free (slice_index_or c.args.threads.now slot zero_thread)) _ _ _ _ c.find.ensures.ran (λ x b q k. search rules)
