-- The three calls: the rows of each in the document's order, and the whole net and reply where none of them holds. Definitions only.
use Rattle.std.specs.Prelude.{ℕ, ◌+◌, ◌-◌, ◌*◌, ◌/◌, ◌%◌, Bool, true, false, cond, not, ◌&&◌, ◌||◌, List, [], ◌∷◌, ◌++◌, map, length, take, drop, replicate, ◌==◌, nat_eq, nat_le, nat_lt, slice_index, slice_set, Option, Some, None, Ok, Result, Err, ⊤}
use Rattle.std.specs.List.{list_all, range_with_len}
use Rattle.program.specs.declared.names.Controller.{Controller}
use Rattle.program.specs.declared.envelope.EnvelopeFault.{EnvelopeFault}
use Rattle.program.specs.declared.envelope.EnvelopeFault.TheVariants.{Fewer, Length, Version}
use Rattle.program.specs.Names.{controller}
use Rattle.program.specs.Tree.{Slip, Program, end, act, split, repeat, depart, entries, encode}
use Rattle.program.specs.Reading.{Found, whole, cut, bad, read_at}
use Rattle.program.specs.Envelope.{stated, envelope}
use Rattle.policy.specs.Counts.{Policy}
use Rattle.policy.specs.Tests.{fits_allb, honestb, slip_fitsb}
use Rattle.rules.specs.declared.net.Thread.{Thread}
use Rattle.rules.specs.declared.net.Net.{Net}
use Rattle.rules.specs.declared.reply.Name.{Name}
use Rattle.rules.specs.declared.reply.Name.TheVariants as name
use Rattle.rules.specs.declared.reply.Refusal.TheVariants as refusal
use Rattle.rules.specs.declared.reply.Outcome.{Outcome}
use Rattle.rules.specs.Rows.{Row, ◌gives◌, no_fields, answer}
use Rattle.rules.specs.Nets.{zero_thread, free, thread_at, free_slot, free_place, passed_over, new_pass, program_of, program_at, in_net, trust, good, trustworthy, allows}
use Rattle.rules.specs.Sound.{soundb}

-- a net with a thread in a slot, with other place bytes, and with another last pass
abbrev pub in_slot : Net → ℕ → Thread → Net
in_slot net slot t =
    record { n = net.n; trust = net.trust; policies = net.policies; threads = slice_set net.threads slot t; places = net.places; counter = net.counter }

abbrev pub with_places : Net → List ℕ → Net
with_places net places =
    record { n = net.n; trust = net.trust; policies = net.policies; threads = net.threads; places = places; counter = net.counter }

abbrev pub with_last : Net → ℕ → Net
with_last net last =
    record { n = net.n; trust = net.trust; policies = net.policies; threads = net.threads; places = net.places; counter = record { last = last } }

-- a done reply shows pass of the acting stay, its controller, the name used, the new pass; and the number passed over
abbrev pub done : Option ℕ → Option Controller → Option Name → Option ℕ → ℕ → Net → Outcome
done pass controller name fresh over net =
    record { reply = Ok (record { pass = pass; controller = controller; name = name; fresh = fresh; over = over }); net = net }

-- ENVELOPE: 1, 2, 3, in the order that `envelope` has
abbrev pub is_fewer : Result ⊤ EnvelopeFault → Bool
is_fewer (Ok right) = false
is_fewer (Err Fewer) = true
is_fewer (Err Length) = false
is_fewer (Err Version) = false

abbrev pub is_length : Result ⊤ EnvelopeFault → Bool
is_length (Ok right) = false
is_length (Err Fewer) = false
is_length (Err Length) = true
is_length (Err Version) = false

abbrev pub is_version : Result ⊤ EnvelopeFault → Bool
is_version (Ok right) = false
is_version (Err Fewer) = false
is_version (Err Length) = false
is_version (Err Version) = true

abbrev pub envelope_rows : Result ⊤ EnvelopeFault → List Row
envelope_rows e = is_fewer e gives refusal.Fewer ∷ is_length e gives refusal.Length ∷ is_version e gives refusal.Version ∷ []

-- TREE: 4, 5, 6
abbrev pub tree : List ℕ → List ℕ
tree bytes = drop 3 bytes

abbrev pub read_tree : List ℕ → Found Program
read_tree bytes = read_at (tree bytes) 0

abbrev pub code_of : List ℕ → Program
code_of bytes = program_of (read_tree bytes)

abbrev pub is_cut : Found Program → Bool
is_cut (whole p m) = false
is_cut cut = true
is_cut (bad o) = false

abbrev pub is_bad : Found Program → Bool
is_bad (whole p m) = false
is_bad cut = false
is_bad (bad o) = true

abbrev pub leaves_over : Found Program → ℕ → Bool
leaves_over (whole p m) size = nat_lt m size
leaves_over cut size = false
leaves_over (bad o) size = false

abbrev pub tree_rows : List ℕ → List Row
tree_rows bytes =
    is_cut (read_tree bytes) gives refusal.Cut
    ∷ is_bad (read_tree bytes) gives refusal.Bad
    ∷ leaves_over (read_tree bytes) (length (tree bytes)) gives refusal.LeftOver
    ∷ []

-- ENTRY of code at a controller: what it looks at, and the rows 12, or 8 before 7
pub data Look : Type 0 where
  bytes_only : Look
  the_slip : Look
  the_code : Look

abbrev pub entry_rows : Look → Policy → Slip → Program → List Row
entry_rows bytes_only allowed slip p = []
entry_rows the_slip allowed slip p = not (slip_fitsb allowed slip) gives refusal.SlipNotFitting ∷ []
entry_rows the_code allowed slip p = not (honestb p) gives refusal.NotHonest ∷ not (fits_allb allowed p) gives refusal.NotFitting ∷ []

-- "If the controller is trustworthy the code is tested against its policy; otherwise only the bytes are read"
abbrev pub at_launch : Net → Controller → Look
at_launch net c = cond (trustworthy net c) the_code bytes_only

-- "if the target's trust in the present controller is good, only the slip is compared with the target's policy. Otherwise the carried code is tested"
abbrev pub at_entry : Net → Controller → Controller → Look
at_entry net target present = cond (good net target present) the_slip the_code

-- ROOM: 9, and 10
abbrev pub slot_row : Net → Row
slot_row net = nat_le 64 (free_slot net) gives refusal.NoSlot

abbrev pub place_row : Net → Row
place_row net = nat_le 8 (free_place net) gives refusal.NoPlace

-- LAUNCH: 99, then 1, 2, 3, 4 or 5, 6, 16, 8, 7, 9, 10
abbrev pub launch_rows : Net → Controller → List ℕ → List Row
launch_rows net c bytes =
    not (soundb net) gives refusal.NotSound
    ∷ envelope_rows (envelope 2 385 bytes)
    ++ (tree_rows bytes
    ++ (not (in_net net c) gives refusal.NoController
    ∷ entry_rows (at_launch net c) (allows net c) [] (code_of bytes)
    ++ (slot_row net ∷ place_row net ∷ [])))

-- "A launch writes the tree and fills the rest of its place with zeros"
unfoldable pub written : List ℕ → ℕ → List ℕ → List ℕ
written places place tree = take (384 * place) places ++ (tree ++ replicate (384 - length tree) 0 ++ drop (384 * place + 384) places)

-- "the lowest free place and the lowest free slot, at the tree's root, with a new pass"
abbrev pub begun : Net → Controller → Thread
begun net c = record { place = free_place net; position = 0; controller = c; pass = new_pass net }

unfoldable pub launch_done : Net → Controller → List ℕ → Outcome
launch_done net c bytes =
    done None (Some c) None (Some (new_pass net)) (passed_over net)
    (with_last (with_places (in_slot net (free_slot net) (begun net c)) (written net.places (free_place net) (tree bytes))) (new_pass net))

-- STEP: 99, 11, then by node 9, or 13, 16, then 12 alone or 8 before 7
abbrev pub node_rows : Net → Controller → Program → List Row
node_rows net k end = []
node_rows net k (act a p) = []
node_rows net k (split p q) = slot_row net ∷ []
node_rows net k (repeat p) = slot_row net ∷ []
node_rows net k (depart l slip p) =
    nat_eq l.0 k.0 gives refusal.AlreadyHere
    ∷ not (in_net net l) gives refusal.NoController
    ∷ entry_rows (at_entry net l k) (allows net l) slip p

abbrev pub step_rows : Net → ℕ → Thread → Program → List Row
step_rows net slot t p =
    not (soundb net) gives refusal.NotSound
    ∷ (nat_lt 63 slot || free t) gives refusal.NoThread
    ∷ node_rows net t.controller p

-- a thread at another position of its tree; and at a target, with a new pass
abbrev pub goes : Thread → ℕ → Thread
goes t position = record { place = t.place; position = position; controller = t.controller; pass = t.pass }

abbrev pub moved : Net → Thread → Controller → ℕ → Thread
moved net t l position = record { place = t.place; position = position; controller = l; pass = new_pass net }

-- a step without a new pass
abbrev pub acts : Thread → Option Name → Net → Outcome
acts t name net = done (Some t.pass) (Some t.controller) name None 0 net

-- "end: the slot becomes free; act: the action is used by this stay, the thread goes on; split: the thread takes the first side, the lowest
-- free slot the second, same pass; repeat: the thread stays, the lowest free slot gets the body, same pass; depart: .. the thread stands at
-- the target, at the carried program, with a new pass"
unfoldable pub step_done : Net → ℕ → Thread → Program → Outcome
step_done net slot t end = acts t None (in_slot net slot zero_thread)
step_done net slot t (act a p) = acts t (Some (name.Acted a)) (in_slot net slot (goes t (t.position + 1 + 1)))
step_done net slot t (split p q) =
    acts t None (in_slot (in_slot net slot (goes t (t.position + 1))) (free_slot net) (goes t (t.position + 1 + length (encode p))))
step_done net slot t (repeat p) = acts t None (in_slot net (free_slot net) (goes t (t.position + 1)))
step_done net slot t (depart l slip p) =
    done (Some t.pass) (Some t.controller) (Some (name.Went l)) (Some (new_pass net)) (passed_over net)
    (with_last (in_slot net slot (moved net t l (t.position + 1 + 1 + 1 + length (entries slip)))) (new_pass net))

-- SET-UP: a byte, or zero, at each index of a table; "number of controllers n, n × n trust bytes row by row (row: who
-- trusts), n × 32 policy counts"
abbrev pub controllers_of : List ℕ → ℕ
controllers_of bytes = slice_index bytes 3

abbrev pub trust_byte : List ℕ → ℕ → ℕ → ℕ
trust_byte bytes n x = cond (nat_lt (x / 16) n && nat_lt (x % 16) n) (slice_index bytes (4 + n * (x / 16) + x % 16)) 0

abbrev pub policy_byte : List ℕ → ℕ → ℕ → ℕ
policy_byte bytes n x = cond (nat_lt (x / 32) n) (slice_index bytes (4 + n * n + x)) 0

-- "a fresh net, zero beyond n; the last pass issued counts as 65,535"
abbrev pub fresh : ℕ → List ℕ → Net
fresh n bytes = record {
  n = n;
  trust = map (trust_byte bytes n) (range_with_len 0 256);
  policies = map (policy_byte bytes n) (range_with_len 0 512);
  threads = replicate 64 zero_thread;
  places = replicate 3072 0;
  counter = record { last = 65535 };
}

unfoldable pub set_up_net : List ℕ → Net
set_up_net bytes = fresh (controllers_of bytes) bytes

-- "for every trustworthy k and every l, if k's trust in l is not unknown it equals l's trust in itself"
abbrev pub agreesb : Net → Controller → Controller → Bool
agreesb net k l = not (trustworthy net k) || (trust net k l == 0 || trust net k l == trust net l l)

abbrev pub controllers : Net → List ℕ
controllers net = range_with_len 16 net.n

unfoldable pub coherentb : Net → Bool
coherentb net = list_all (λ k. list_all (λ l. agreesb net (controller k) (controller l)) (controllers net)) (controllers net)

-- 1, 2, 3, then 14 for n, for the length and for a trust byte, then 15
abbrev pub set_up_rows : List ℕ → List Row
set_up_rows bytes =
    envelope_rows (envelope 2 770 bytes)
    ++ ((nat_lt (controllers_of bytes) 1 || nat_lt 16 (controllers_of bytes)) gives refusal.BadSetUp
    ∷ not (stated bytes == 2 + controllers_of bytes * controllers_of bytes + 32 * controllers_of bytes) gives refusal.BadSetUp
    ∷ not (list_all (λ b. nat_le b 2) (set_up_net bytes).trust) gives refusal.BadSetUp
    ∷ not (coherentb (set_up_net bytes)) gives refusal.NotCoherent
    ∷ [])

unfoldable pub set_up_done : List ℕ → Outcome
set_up_done bytes = record { reply = Ok no_fields; net = set_up_net bytes }

-- THE CALLS: their rows, and the outcome where none holds
pub data Call : Type 0 where
  set_up : List ℕ → Call
  launch : Controller → List ℕ → Call
  step : ℕ → Call

unfoldable pub rows_of : Net → Call → List Row
rows_of net (set_up bytes) = set_up_rows bytes
rows_of net (launch c bytes) = launch_rows net c bytes
rows_of net (step slot) = step_rows net slot (thread_at net slot) (program_at net (thread_at net slot))

unfoldable pub done_of : Net → Call → Outcome
done_of net (set_up bytes) = set_up_done bytes
done_of net (launch c bytes) = launch_done net c bytes
done_of net (step slot) = step_done net slot (thread_at net slot) (program_at net (thread_at net slot))

-- what a call means: this equation is the promise of the code
abbrev pub called : Net → Call → Outcome
called net call = answer (rows_of net call) net (done_of net call)
