-- Every slot before this one is sound; the places that are read are the net's.
use Rattle.std.proofs.Common.{◌≡◌, true, take}
use Rattle.std.specs.List.{list_all}
use Rattle.net.specs.Ends.{slot_holds}
use Rattle.net.proofs.sound.slots_sound.Given as goal

abbrev pub invariant-loop-t : goal.invariant-loop-t
invariant-loop-t l = (list_all (slot_holds l.n l.places) (take l.t-index l.threads) ≡ true) × (l.reads.places.now ≡ l.places)
