-- What a step does: by the tests on a departure, by the node, and that on a sound net this is what the rules do. Assumes nothing.
use Rattle.std.proofs.Common.{◌≡◌, ℕ, ◌+◌, ◌≤◌, ◌<◌, Bool, true, false, cond, not, ◌||◌, List, length, ◌==◌, nat_lt, Option, Some, None, is_some, unwrap_or, Result, Ok, Err, refl, sym, ap, ◌∙◌, arith}
use Rattle.std.specs.Prelude.{⊤}
use borrow.Author.Tests.{lt-ltb, le-ltb}
use Rattle.program.specs.declared.reader.Departure.{Departure}
use Rattle.program.specs.declared.node.Node.{Node}
use Rattle.program.specs.Tree.{Program, end, act, split, repeat, depart, entries, encode}
use Rattle.program.specs.Reading.{whole, read_at}
use Rattle.program.specs.Nodes.{node_of, node_at}
use Rattle.program.proofs.Laws.{grows, in_act, in_split, in_repeat, in_depart}
use Rattle.program.proofs.Nodes.{node_is}
use Rattle.rules.specs.declared.net.Thread.{Thread}
use Rattle.rules.specs.declared.net.Net.{Net}
use Rattle.rules.specs.declared.reply.Refusal.{Refusal}
use Rattle.rules.specs.declared.reply.Refusal.TheVariants as refusal
use Rattle.rules.specs.Nets.{free, thread_at, place_bytes, program_at, located, in_net, policy_of}
use Rattle.rules.specs.Sound.{soundb}
use Rattle.rules.specs.Calls.{node_rows, step_done, step, rows_of, done_of, called}
use Rattle.rules.proofs.Rows.{never, T_true, T_not}
use Rattle.rules.proofs.Sound.{sound_test}
use Rattle.net.specs.declared.entry.Look.{Look}
use Rattle.net.specs.declared.turn.Turn.{Turn}
use Rattle.net.specs.Parts.{stands_in, policy_in}
use Rattle.net.specs.Checks.{first_row, unless, entry_look, entered}
use Rattle.net.specs.Turns.{turn_by, turned, done_by, depart_check, turn_at, Near}
use Rattle.net.proofs.Writes.{place_short}
use Rattle.net.proofs.Entries.{depart_rows}
use Rattle.net.proofs.Launches.{sound_few}
use Rattle.net.proofs.Effects.{refuses, passes, does}

-- a departure that is let in or not by the target
pub d_enters : (net : Net) (t : Thread) (own : Departure) {r : Result ⊤ Refusal} {look : Look} {policy tree : List ℕ} → (own.controller.0 == t.controller.0) ≡ false →
    stands_in net.n own.controller ≡ true → look ≡ entry_look net.trust own.controller t.controller → policy ≡ policy_in net.policies own.controller →
    tree ≡ place_bytes net.places t.place → r ≡ entered look policy tree own.slip own.entries own.carried → r ≡ depart_check net t own
unfolding policy_of
d_enters net t own other stands i j k w = w ∙ rw (other, stands, i, j, k) refl

-- what the rules do, by the node of the program that is read
module _ (net : Net) (t : Thread) (k : ℕ) where
  by_node : (p : Program) {m : ℕ} → read_at (place_bytes net.places t.place) k ≡ whole p m → turn_at net t (node_of k p) ≡ unless (first_row (node_rows net t.controller p)) (turn_by net k p)
  unfolding node_of
  by_node end e = refl
  by_node (act a p) e = refl
  by_node (split p q) e = refl
  by_node (repeat p) e = refl
  by_node (depart l slip p) e =
      let h = in_depart (place_bytes net.places t.place) k e in
      ap (λ y. unless (cond (l.0 == t.controller.0) (Err refusal.AlreadyHere) (cond (not (in_net net l)) (Err refusal.NoController) y)) (turn_by net k (depart l slip p)))
      (depart_rows (policy_of net l) (place_bytes net.places t.place) (k + 1) (k + 1 + 1 + 1 + length (entries slip)) slip h.0 h.1 net.trust l t.controller)

  node_near : (s : List ℕ) (p : Program) {m : ℕ} → length s ≤ 384 → read_at s k ≡ whole p m → Near (node_of k p)
  unfolding node_of
  node_near s end l e = tt
  node_near s (act a p) l e = omega (arith, grows s (k + 1 + 1) (in_act s k e))
  node_near s (split p q) l e =
      let h = in_split s k e in
      (omega (arith, grows s (k + 1) h.0), omega (arith, grows s (k + 1 + length (encode p)) h.1))
  node_near s (repeat p) l e = omega (arith, grows s (k + 1) (in_repeat s k e))
  node_near s (depart c slip p) l e = omega (arith, grows s (k + 1 + 1 + 1 + length (entries slip)) (in_depart s k e).1)

-- the tests of a step, in their order
module _ (net : Net) (slot : ℕ) where
  pub u_unsound : soundb net ≡ false → turned net slot ≡ Err refusal.NotSound
  unfolding turned rows_of
  u_unsound h = rw h refl

  module _ (sound : soundb net ≡ true) where
    pub u_free : free (thread_at net slot) ≡ true → turned net slot ≡ Err refusal.NoThread
    unfolding turned rows_of
    u_free h = rw (sound, h, either (nat_lt 63 slot)) refl
      where
        either : (b : Bool) → (b || true) ≡ true
        either true = refl
        either false = refl

    pub u_high : 63 < slot → turned net slot ≡ Err refusal.NoThread
    unfolding turned rows_of
    u_high h = rw (sound, lt-ltb 63 slot h) refl

    module _ (low : slot ≤ 63) (runs : free (thread_at net slot) ≡ false) where
      read : (p : Program) × (m : ℕ) × (located net (thread_at net slot) ≡ whole p m)
      read = (((sound_test net).0 (T_true sound)).runs slot (T_not runs)).reads

      -- t is its thread, s the bytes of the place, x the node that is found there
      module _ {t : Thread} (k : t ≡ thread_at net slot) {s : List ℕ} (j : s ≡ place_bytes net.places t.place) {a : ℕ} (i : a ≡ t.position) {x : Option Node} (is : x ≡ node_at s a) where
        found : x ≡ Some (node_of (thread_at net slot).position read.0)
        found =
            let e : node_at s a ≡ node_at (place_bytes net.places (thread_at net slot).place) (thread_at net slot).position = rw (j, i, k) refl in
            is ∙ e ∙ node_is _ (thread_at net slot).position read.2

        pub u_none : x ≡ None → turned net slot ≡ Err refusal.NotSound
        u_none h = never (ap is_some (sym h ∙ found))

        module _ {node : Node} (h : x ≡ Some node) where
          same : node ≡ node_of (thread_at net slot).position read.0
          same = ap (λ o. unwrap_or o node) (sym h ∙ found)

          pub u_near : Near node
          u_near = rw same (node_near net (thread_at net slot) (thread_at net slot).position (place_bytes net.places (thread_at net slot).place) read.0 (place_short net.places (thread_at net slot).place) read.2)

          pub u_turn : {r : Result Turn Refusal} → r ≡ turn_at net t node → r ≡ turned net slot
          unfolding turned rows_of
          u_turn w =
              w ∙ rw k refl ∙ ap (turn_at net (thread_at net slot)) same ∙ by_node net (thread_at net slot) (thread_at net slot).position read.0 read.2
              ∙ rw (sound, le-ltb 63 slot low, runs, read.2) refl

-- the outcome, by the turn
module _ (net : Net) (slot : ℕ) where
  by_program : (t : Thread) (p : Program) → step_done net slot t p ≡ done_by net slot t (turn_by net t.position p)
  unfolding step_done
  by_program t end = refl
  by_program t (act a p) = refl
  by_program t (split p q) = refl
  by_program t (repeat p) = refl
  by_program t (depart l slip p) = refl

  pub z_refuses : {r : Refusal} → turned net slot ≡ Err r → called net (step slot) ≡ record { reply = Err r; net = net }
  unfolding turned
  z_refuses h = sym (refuses (rows_of net (step slot)) _ refl net (done_of net (step slot)) h)

  pub z_done : {x : Turn} → turned net slot ≡ Ok x → called net (step slot) ≡ done_by net slot (thread_at net slot) x
  unfolding turned done_of
  z_done h =
      sym (does (rows_of net (step slot)) _ refl net (done_of net (step slot)) h) ∙ by_program (thread_at net slot) (program_at net (thread_at net slot))
      ∙ ap (done_by net slot (thread_at net slot)) (sym (passes (rows_of net (step slot)) _ refl h).1)

pub ruleset turns = (sound_few, u_unsound, u_high, u_free, z_refuses, z_done)
