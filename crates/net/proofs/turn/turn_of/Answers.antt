use Rattle.std.proofs.Common.{rules, sym}
use Rattle.net.proofs.Launches.{sound_few}
use Rattle.net.proofs.Turns.{u_none, u_near, u_turn}
use Rattle.net.proofs.turn.turn_of.Goals as goal

pub returns-in_default : goal.returns-in_default
returns-in_default c =
    sym (u_none _ _ (search rules) (search rules) (search rules) c.thread_at-t.ensures c.place_bytes-tree.ensures.bytes c.from.ensures c.node_at.ensures (search rules))

pub turn_at-requires : goal.turn_at-requires
turn_at-requires c =
    (search (rules, sound_few), u_near c.args.net.now c.args.slot (search rules) (search rules) (search rules) c.thread_at-t.ensures c.place_bytes-tree.ensures.bytes c.from.ensures c.node_at.ensures (search rules))

pub returns : goal.returns
returns c =
    u_turn _ _ (search rules) (search rules) (search rules) c.thread_at-t.ensures c.place_bytes-tree.ensures.bytes c.from.ensures c.node_at.ensures (search rules) c.turn_at.ensures
