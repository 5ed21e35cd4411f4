-- The rows of a launch in their order, as the code tests them, and that its outcome is what the rules say. Assumes nothing.
use Rattle.std.proofs.Common.{◌≡◌, ℕ, ◌+◌, ◌≤◌, ◌<◌, Bool, true, false, cond, not, ◌&&◌, List, [], ◌∷◌, ◌++◌, length, drop, slice_set, nat_le, Option, Some, None, Result, Ok, Err, is_ok, is_some, unwrap_or, nat_lt, refl, sym, ap, ◌∙◌, arith}
use borrow.Author.Tests.{lt-leb, le-leb, leb-false, ltb-true, ltb-false}
use lib.ListN.{length-drop}
use Rattle.std.specs.Prelude.{⊤}
use Rattle.program.specs.declared.names.Controller.{Controller}
use Rattle.program.specs.declared.envelope.EnvelopeFault.{EnvelopeFault}
use Rattle.program.specs.declared.envelope.EnvelopeFault.TheVariants.{Fewer, Length, Version}
use Rattle.program.specs.Tree.{Program}
use Rattle.program.specs.Reading.{Found, whole, cut, bad}
use Rattle.program.specs.Envelope.{envelope}
use Rattle.program.proofs.Envelopes.{envelope_means}
use Rattle.rules.specs.declared.net.Net.{Net}
use Rattle.rules.specs.declared.reply.Refusal.{Refusal}
use Rattle.rules.specs.declared.reply.Refusal.TheVariants as refusal
use Rattle.rules.specs.Rows.{Row, ◌gives◌, NoneHolds, of_envelope}
use Rattle.rules.specs.Nets.{free_slot, free_place, program_of, in_net, policy_of, allows}
use Rattle.rules.specs.Sound.{soundb}
use Rattle.rules.specs.Issued.{issued_by}
use Rattle.rules.specs.Calls.{envelope_rows, tree, read_tree, code_of, is_cut, is_bad, leaves_over, tree_rows, at_launch, entry_rows, slot_row, place_row, launch_done, launch, rows_of, done_of, called, written}
use Rattle.rules.proofs.Rows.{never, T_true, none_front, none_back}
use Rattle.rules.proofs.Sound.{sound_test}
use Rattle.net.specs.declared.entry.Look.{Look}
use Rattle.net.specs.Parts.{stands_in, policy_in, below}
use Rattle.net.specs.Checks.{first_row, unless, room, launch_look, entered}
use Rattle.net.proofs.Entries.{launch_rows_lem}
use Rattle.net.proofs.Effects.{or_else, first_append, refuses, passes, does}

-- the envelope
pub envelope_first : (e : Result ⊤ EnvelopeFault) {x : EnvelopeFault} → e ≡ Err x → first_row (envelope_rows e) ≡ Err (of_envelope x)
envelope_first e {x} h = ap (λ e. first_row (envelope_rows e)) h ∙ go x
  where
    go : (x : EnvelopeFault) → first_row (envelope_rows (Err x)) ≡ Err (of_envelope x)
    go Fewer = refl
    go Length = refl
    go Version = refl

pub envelope_right : (e : Result ⊤ EnvelopeFault) {u : ⊤} → e ≡ Ok u → first_row (envelope_rows e) ≡ Ok tt
envelope_right e h = ap (λ e. first_row (envelope_rows e)) h

right_by : (e : Result ⊤ EnvelopeFault) → NoneHolds (envelope_rows e) → e ≡ Ok tt
right_by (Ok u) h = refl
right_by (Err Fewer) h = never (sym h.0)
right_by (Err Length) h = never (sym h.1.0)
right_by (Err Version) h = never (sym h.1.1.0)

-- the tree
whole_tree : (o : Found Program) (size : ℕ) {u : ⊤} → cond (is_cut o) (Err refusal.Cut) (cond (is_bad o) (Err refusal.Bad) (cond (leaves_over o size) (Err refusal.LeftOver) (Ok tt))) ≡ Ok u →
    (m : ℕ) × (o ≡ whole (program_of o) m)
whole_tree (whole p m) size h = (m, refl)
whole_tree cut size h = never (ap is_ok h)
whole_tree (bad o) size h = never (ap is_ok h)

-- the lowest number below an end, if there is one
module _ (end lowest : ℕ) where
  pub none_below : below end lowest ≡ None → nat_le end lowest ≡ true
  none_below h = go (nat_lt lowest end) refl h
    where
      go : (b : Bool) → nat_lt lowest end ≡ b → cond b (Some lowest) None ≡ None → nat_le end lowest ≡ true
      go true e h = never (sym (ap is_some h))
      go false e h = le-leb end lowest (ltb-false lowest end e)

  pub some_below : {m : ℕ} → below end lowest ≡ Some m → (lowest ≡ m) × (nat_le end lowest ≡ false)
  some_below {m} h = go (nat_lt lowest end) refl h
    where
      go : (b : Bool) → nat_lt lowest end ≡ b → cond b (Some lowest) None ≡ Some m → (lowest ≡ m) × (nat_le end lowest ≡ false)
      go true e h = (ap (λ o. unwrap_or o m) h, lt-leb end lowest (ltb-true lowest end e))
      go false e h = never (ap is_some h)

-- a sound net has at most 16 controllers, and a controller of such a net has a policy
pub sound_few : (net : Net) → soundb net ≡ true → net.n ≤ 16
sound_few net h = ((sound_test net).0 (T_true h)).few

pub stands_low : (n : ℕ) (k : Controller) → n ≤ 16 → stands_in n k ≡ true → k.0 < 32
stands_low n k few e = go (nat_le 16 k.0) (nat_lt k.0 (16 + n)) refl e
  where
    go : (t u : Bool) → nat_lt k.0 (16 + n) ≡ u → (t && u) ≡ true → k.0 < 32
    go true true q z = omega (arith, ltb-true k.0 (16 + n) q)
    go true false q z = never z
    go false u q z = never z

-- the rows, one after the other
module _ (net : Net) (c : Controller) (bytes : List ℕ) where
  abbrev filled : Result ⊤ Refusal → Result (ℕ × ℕ) Refusal
  filled w = unless w (free_slot net, free_place net)

  inside : Result ⊤ Refusal → Result ⊤ Refusal → Result ⊤ Refusal → Result ⊤ Refusal
  inside envelope tree entry =
      cond (not (soundb net)) (Err refusal.NotSound)
      (or_else envelope (or_else tree (cond (not (in_net net c)) (Err refusal.NoController) (or_else entry (first_row (slot_row net ∷ place_row net ∷ []))))))

  in_order : first_row (rows_of net (launch c bytes))
      ≡ inside (first_row (envelope_rows (envelope 2 385 bytes))) (first_row (tree_rows bytes)) (first_row (entry_rows (at_launch net c) (allows net c) [] (code_of bytes)))
  unfolding rows_of inside
  in_order = rw (first_append (envelope_rows (envelope 2 385 bytes)), first_append (tree_rows bytes), first_append (entry_rows (at_launch net c) (allows net c) [] (code_of bytes)))

  pub l_unsound : soundb net ≡ false → room net c bytes ≡ Err refusal.NotSound
  unfolding rows_of room
  l_unsound h = rw h refl

  module _ (sound : soundb net ≡ true) where
    pub l_envelope : {f : EnvelopeFault} → envelope 2 385 bytes ≡ Err f → room net c bytes ≡ Err (of_envelope f)
    unfolding inside room
    l_envelope {f} h =
        let e : first_row (rows_of net (launch c bytes)) ≡ Err (of_envelope f) = in_order ∙ rw (sound, envelope_first (envelope 2 385 bytes) h) refl in
        ap filled e

    module _ {u : ⊤} (right : envelope 2 385 bytes ≡ Ok u) where
      after_tree : Result ⊤ Refusal → Result ⊤ Refusal
      after_tree y = or_else y (cond (not (in_net net c)) (Err refusal.NoController) (or_else (first_row (entry_rows (at_launch net c) (allows net c) [] (code_of bytes))) (first_row (slot_row net ∷ place_row net ∷ []))))

      at_tree : first_row (rows_of net (launch c bytes)) ≡ after_tree (first_row (tree_rows bytes))
      unfolding inside after_tree
      at_tree = in_order ∙ rw (sound, envelope_right (envelope 2 385 bytes) right) refl

      pub l_tree : {r : Refusal} → first_row (tree_rows bytes) ≡ Err r → room net c bytes ≡ Err r
      unfolding after_tree room
      l_tree h = ap filled (at_tree ∙ ap after_tree h)

      module _ {v : ⊤} (read : first_row (tree_rows bytes) ≡ Ok v) where
        pub l_none : stands_in net.n c ≡ false → room net c bytes ≡ Err refusal.NoController
        unfolding after_tree room
        l_none h =
            let e : first_row (rows_of net (launch c bytes)) ≡ Err refusal.NoController = at_tree ∙ ap after_tree read ∙ rw h refl in
            ap filled e

        -- what the controller asks, and then room
        module _ (stands : stands_in net.n c ≡ true) {look : Look} {policy t : List ℕ} {asked : Result ⊤ Refusal} (m : look ≡ launch_look net.trust c) (n : policy ≡ policy_in net.policies c)
            (o : t ≡ drop 3 bytes) (q : asked ≡ entered look policy t 0 0 0) where
          at_entry_lem : first_row (rows_of net (launch c bytes)) ≡ or_else asked (first_row (slot_row net ∷ place_row net ∷ []))
          unfolding after_tree policy_of
          at_entry_lem =
              let w = whole_tree (read_tree bytes) (length (tree bytes)) read in
              let e : asked ≡ first_row (entry_rows (at_launch net c) (allows net c) [] (code_of bytes)) = q ∙ rw (m, n, o) (launch_rows_lem (policy_of net c) (tree bytes) 0 0 0 w.1 net.trust c) in
              at_tree ∙ ap after_tree read ∙ rw (stands, ← e) refl

          pub l_entry : {r : Refusal} → asked ≡ Err r → room net c bytes ≡ Err r
          unfolding room
          l_entry h = ap filled (at_entry_lem ∙ ap (λ z. or_else z (first_row (slot_row net ∷ place_row net ∷ []))) h)

          module _ {w : ⊤} (enters : asked ≡ Ok w) {free : Option ℕ} (s : free ≡ below 64 (free_slot net)) where
            at_room : first_row (rows_of net (launch c bytes)) ≡ first_row (slot_row net ∷ place_row net ∷ [])
            at_room = at_entry_lem ∙ ap (λ z. or_else z (first_row (slot_row net ∷ place_row net ∷ []))) enters

            pub l_slot : free ≡ None → room net c bytes ≡ Err refusal.NoSlot
            unfolding room
            l_slot h =
                let e : first_row (rows_of net (launch c bytes)) ≡ Err refusal.NoSlot = at_room ∙ rw (none_below 64 (free_slot net) (sym s ∙ h)) refl in
                ap filled e

            module _ {slot : ℕ} (held : free ≡ Some slot) {left : Option ℕ} (p : left ≡ below 8 (free_place net)) where
              pub l_place : left ≡ None → room net c bytes ≡ Err refusal.NoPlace
              unfolding room
              l_place h =
                  let e : first_row (rows_of net (launch c bytes)) ≡ Err refusal.NoPlace =
                  at_room ∙ rw ((some_below 64 (free_slot net) (sym s ∙ held)).1, none_below 8 (free_place net) (sym p ∙ h)) refl in
                  ap filled e

              pub l_room : {place : ℕ} → left ≡ Some place → room net c bytes ≡ Ok (slot, place)
              unfolding room
              l_room h =
                  let a = some_below 64 (free_slot net) (sym s ∙ held) in
                  let b = some_below 8 (free_place net) (sym p ∙ h) in
                  let e : first_row (rows_of net (launch c bytes)) ≡ Ok tt = at_room ∙ rw (a.1, b.1) refl in
                  ap filled e ∙ rw (a.0, b.0) refl

pub ruleset launches = (l_unsound, l_envelope, l_tree, l_none, l_entry, l_slot, l_place, l_room, sound_few, stands_low)

-- the outcome, by the room that there is
module _ (net : Net) (c : Controller) (bytes : List ℕ) where
  pub q_refuses : {r : Refusal} → room net c bytes ≡ Err r → called net (launch c bytes) ≡ record { reply = Err r; net = net }
  unfolding room
  q_refuses h = sym (refuses (rows_of net (launch c bytes)) _ refl net (done_of net (launch c bytes)) h)

  module _ {slot place : ℕ} (h : room net c bytes ≡ Ok (slot, place)) where
    none : NoneHolds (rows_of net (launch c bytes))
    unfolding room
    none = (passes (rows_of net (launch c bytes)) _ refl h).0

    same : ◌≡◌ {A = ℕ × ℕ} (slot, place) (free_slot net, free_place net)
    unfolding room
    same = (passes (rows_of net (launch c bytes)) _ refl h).1

    -- the rows behind the envelope's, behind the tree's, and behind the entry's
    abbrev behind_entry : List Row
    behind_entry = slot_row net ∷ place_row net ∷ []

    abbrev behind_tree : List Row
    behind_tree = not (in_net net c) gives refusal.NoController ∷ (entry_rows (at_launch net c) (allows net c) [] (code_of bytes) ++ behind_entry)

    abbrev behind_envelope : List Row
    behind_envelope = tree_rows bytes ++ behind_tree

    room_left : NoneHolds behind_entry
    unfolding rows_of
    room_left =
        none_back (entry_rows (at_launch net c) (allows net c) [] (code_of bytes)) behind_entry
        (none_back (tree_rows bytes) behind_tree (none_back (envelope_rows (envelope 2 385 bytes)) behind_envelope none.1)).1

    pub q_place : place < 8
    q_place = omega (arith, leb-false 8 (free_place net) room_left.1.0, ap (λ p. p.1) same)

    pub q_short : length (drop 3 bytes) ≤ 384
    unfolding rows_of
    q_short =
        let right = none_front (envelope_rows (envelope 2 385 bytes)) behind_envelope none.1 in
        let means = rw (right_by (envelope 2 385 bytes) right) at (envelope_means 2 385 bytes) in
        omega (arith, length-drop 3 bytes, means.1, means.2)

    pub q_done : called net (launch c bytes) ≡ record {
      reply = Ok (record { pass = None; controller = Some c; name = None; fresh = Some (issued_by net.counter net.threads).pass; over = (issued_by net.counter net.threads).over });
      net = record {
        n = net.n;
        trust = net.trust;
        policies = net.policies;
        threads = slice_set net.threads slot (record { place = place; position = 0; controller = c; pass = (issued_by net.counter net.threads).pass });
        places = written net.places place (drop 3 bytes);
        counter = (issued_by net.counter net.threads).counter;
      };
    }
    unfolding done_of launch_done room
    q_done = rw (ap (λ p. p.0) same, ap (λ p. p.1) same) (sym (does (rows_of net (launch c bytes)) _ refl net (done_of net (launch c bytes)) h))

pub ruleset launched = (q_refuses, q_place, q_short, q_done)
