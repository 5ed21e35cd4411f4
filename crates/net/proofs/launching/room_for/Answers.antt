use Rattle.std.proofs.Common.{◌≡◌, Err, sym, ◌∙◌, rules}
use Rattle.net.proofs.Launches.{l_tree, l_entry, l_slot, l_place, l_room}
use Rattle.net.proofs.launching.room_for.Goals as goal

pub returns-in_err-tree_check : goal.returns-in_err-tree_check
returns-in_err-tree_check c =
    let refused : c.from_residual-in_err-tree_check.result ≡ Err c.in_err-tree_check.field-0.0 = search rules in
    refused ∙ sym (l_tree _ _ _ (search rules) (search rules) (search rules))

pub returns-in_err-enter : goal.returns-in_err-enter
returns-in_err-enter c =
    let refused : c.from_residual-in_err-enter.result ≡ Err c.in_err-enter.field-0.0 = search rules in
    refused
    ∙ sym (l_entry _ _ _ (search rules) (search rules) (search rules) (search rules) c.at_launch-look.ensures c.policy_of-policy.ensures c.body.ensures c.enter.ensures (search rules))

pub returns-in_default : goal.returns-in_default
returns-in_default c =
    sym (l_slot _ _ _ (search rules) (search rules) (search rules) (search rules) c.at_launch-look.ensures c.policy_of-policy.ensures c.body.ensures c.enter.ensures (search rules) c.free_slot.ensures (search rules))

pub returns-in_default-free_place : goal.returns-in_default-free_place
returns-in_default-free_place c =
    sym (l_place _ _ _ (search rules) (search rules) (search rules) (search rules) c.at_launch-look.ensures c.policy_of-policy.ensures c.body.ensures c.enter.ensures (search rules) c.free_slot.ensures c.in-Some.is c.free_place.ensures (search rules))

pub returns : goal.returns
returns c =
    sym (l_room _ _ _ (search rules) (search rules) (search rules) (search rules) c.at_launch-look.ensures c.policy_of-policy.ensures c.body.ensures c.enter.ensures (search rules) c.free_slot.ensures c.in-Some.is c.free_place.ensures (search rules))
