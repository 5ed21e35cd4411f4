-- What a step does, by the node at the thread's position, and found out before anything is changed. Definitions only.
use Rattle.std.specs.Prelude.{ℕ, ◌+◌, ◌<◌, cond, not, [], ◌∷◌, ◌==◌, length, Option, Some, None, Result, Ok, Err, ⊤}
use Rattle.program.specs.declared.names.Controller.{Controller}
use Rattle.program.specs.declared.reader.Departure.{Departure}
use Rattle.program.specs.declared.node.Node.{Node}
use Rattle.program.specs.declared.node.Node.TheVariants.{End, Act, Split, Repeat, Depart}
use Rattle.program.specs.Tree.{Program, end, act, split, repeat, depart, entries, encode}
use Rattle.rules.specs.declared.net.Thread.{Thread}
use Rattle.rules.specs.declared.net.Net.{Net}
use Rattle.rules.specs.declared.reply.Refusal.{Refusal}
use Rattle.rules.specs.declared.reply.Refusal.TheVariants as refusal
use Rattle.rules.specs.declared.reply.Fields.{Fields}
use Rattle.rules.specs.declared.reply.Name.{Name}
use Rattle.rules.specs.declared.reply.Name.TheVariants as name
use Rattle.rules.specs.declared.reply.Outcome.{Outcome}
use Rattle.rules.specs.Nets.{zero_thread, thread_at, free_slot, new_pass, passed_over, place_bytes, program_at, in_net, policy_of}
use Rattle.rules.specs.Calls.{in_slot, with_last, done, slot_row, goes, moved, acts, step, rows_of}
use Rattle.net.specs.declared.turn.Turn.{Turn}
use Rattle.net.specs.declared.turn.Turn.TheVariants as turn
use Rattle.net.specs.Checks.{first_row, unless, entry_look, entered}

-- what the rules do with the program at k
abbrev pub turn_by : Net → ℕ → Program → Turn
turn_by net k end = turn.Ends
turn_by net k (act a p) = turn.Acts a (k + 1 + 1)
turn_by net k (split p q) = turn.Splits (free_slot net) (k + 1) (k + 1 + length (encode p))
turn_by net k (repeat p) = turn.Repeats (free_slot net) (k + 1)
turn_by net k (depart l slip p) = turn.Departs l (k + 1 + 1 + 1 + length (entries slip))

-- a step of a slot: its rows, or else that
unfoldable pub turned : Net → ℕ → Result Turn Refusal
turned net slot = unless (first_row (rows_of net (step slot))) (turn_by net (thread_at net slot).position (program_at net (thread_at net slot)))

-- the whole outcome of a turn
abbrev pub done_by : Net → ℕ → Thread → Turn → Outcome
done_by net slot t turn.Ends = acts t None (in_slot net slot zero_thread)
done_by net slot t (turn.Acts a next) = acts t (Some (name.Acted a)) (in_slot net slot (goes t next))
done_by net slot t (turn.Splits free first second) = acts t None (in_slot (in_slot net slot (goes t first)) free (goes t second))
done_by net slot t (turn.Repeats free body) = acts t None (in_slot net free (goes t body))
done_by net slot t (turn.Departs l carried) =
    done (Some t.pass) (Some t.controller) (Some (name.Went l)) (Some (new_pass net)) (passed_over net)
    (with_last (in_slot net slot (moved net t l carried)) (new_pass net))

-- the same by the node: a departure's rows over the bytes, and what is done
abbrev pub depart_check : Net → Thread → Departure → Result ⊤ Refusal
depart_check net t own =
    cond (own.controller.0 == t.controller.0) (Err refusal.AlreadyHere)
    (cond (not (in_net net own.controller)) (Err refusal.NoController)
    (entered (entry_look net.trust own.controller t.controller) (policy_of net own.controller) (place_bytes net.places t.place)
    own.slip own.entries own.carried))

abbrev pub turn_at : Net → Thread → Node → Result Turn Refusal
turn_at net t End = Ok turn.Ends
turn_at net t (Act a next) = Ok (turn.Acts a next)
turn_at net t (Split first second) = unless (first_row (slot_row net ∷ [])) (turn.Splits (free_slot net) first second)
turn_at net t (Repeat body) = unless (first_row (slot_row net ∷ [])) (turn.Repeats (free_slot net) body)
turn_at net t (Depart own) = unless (depart_check net t own) (turn.Departs own.controller own.carried)

-- the positions inside a node are those of a thread
abbrev pub Near : Node → Type 0
Near End = Unit {0}
Near (Act a next) = next < 65536
Near (Split first second) = (first < 65536) × (second < 65536)
Near (Repeat body) = body < 65536
Near (Depart own) = own.carried < 65536

-- a thread at its target, and a done step's fields
abbrev pub arrived : Thread → Controller → ℕ → ℕ → Thread
arrived t target carried pass = record { place = t.place; position = carried; controller = target; pass = pass }

abbrev pub shows : Thread → Option Name → Option ℕ → ℕ → Fields
shows t name fresh over = record { pass = Some t.pass; controller = Some t.controller; name = name; fresh = fresh; over = over }
