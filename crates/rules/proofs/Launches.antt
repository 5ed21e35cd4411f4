-- What a done launch makes of the slots. Assumes nothing.
use Rattle.std.proofs.Common.{◌≡◌, ℕ, ◌-◌, ◌<◌, ◌≤◌, Bool, true, false, cond, not, T, ◌≢◌, List, [], ◌∷◌, ◌++◌, length, drop, replicate, sym, refl, ap, ◌∙◌, subst, append_assoc, arith, length-drop, length-set, get_or-set_other, get_or-set_same, leb-false, Result, Ok, Err}
use Rattle.std.specs.Prelude.{⊤}
use Rattle.std.specs.List.{list_any}
use native.Mathlib.Decide.{ℕ_discrete}
use borrow.Author.Tests.{not-true}
use Rattle.program.specs.declared.names.Controller.{Controller}
use Rattle.program.specs.declared.envelope.EnvelopeFault.{EnvelopeFault}
use Rattle.program.specs.declared.envelope.EnvelopeFault.TheVariants.{Fewer, Length, Version}
use Rattle.program.specs.Tree.{Program, encode}
use Rattle.program.specs.Reading.{Found, whole, cut, bad, read_at}
use Rattle.program.specs.Envelope.{envelope, Means}
use Rattle.program.proofs.Laws.{bytes_are, moved}
use Rattle.program.proofs.Envelopes.{envelope_means}
use Rattle.rules.specs.declared.net.Net.{Net}
use Rattle.rules.specs.Rows.{NoneHolds}
use Rattle.rules.specs.Nets.{zero_thread, free, thread_at, has, free_slot, free_place, new_pass, place_bytes, located, program_of, in_net, allows}
use Rattle.rules.specs.Sound.{Placed, Sound, Sized, soundb}
use Rattle.rules.specs.Calls.{is_fewer, is_length, is_version, tree, read_tree, code_of, is_cut, is_bad, entry_rows, at_launch, slot_row, place_row, launch_rows, written, begun, launch_done}
use Rattle.rules.specs.Paper.{nobody, held, view_of, view}
use Rattle.rules.specs.Demands.{Runs}
use Rattle.rules.proofs.Rows.{never, true_T, passed, T_not, none_front, none_back}
use Rattle.rules.proofs.Search.{lowest_is, none_has}
use Rattle.rules.proofs.Pass.{has_not}
use Rattle.rules.proofs.Places.{Reads, written_long, written_here, written_other}
use Rattle.rules.proofs.Sound.{sound_test}
use Rattle.rules.proofs.Steps.{viewed, controller_not_zero}

pub right_of : (e : Result ⊤ EnvelopeFault) → is_fewer e ≡ false → is_length e ≡ false → is_version e ≡ false → e ≡ Ok tt
right_of (Ok right) f l v = refl
right_of (Err Fewer) f l v = never (sym f)
right_of (Err Length) f l v = never (sym l)
right_of (Err Version) f l v = never (sym v)

pub whole_of : (o : Found Program) → is_cut o ≡ false → is_bad o ≡ false → (m : ℕ) × (o ≡ whole (program_of o) m)
whole_of (whole p m) c b = (m, refl)
whole_of cut c b = never (sym c)
whole_of (bad k) c b = never (sym b)

-- what the rows of a launch say where none holds
module _ (net : Net) (c : Controller) (bytes : List ℕ) (h : NoneHolds (launch_rows net c bytes)) where
  pub launch_was_sound : Sound net
  launch_was_sound = (sound_test net).0 (passed (soundb net) h.0)

  launch_envelope : Means 2 385 bytes (Ok tt)
  launch_envelope = subst (Means 2 385 bytes) (right_of (envelope 2 385 bytes) h.1.0 h.1.1.0 h.1.1.1.0) (envelope_means 2 385 bytes)

  launch_whole : (m : ℕ) × (read_tree bytes ≡ whole (code_of bytes) m)
  launch_whole = let t = h.1.1.1.1 in whole_of (read_tree bytes) t.0 t.1.0

  pub launch_stands : T (in_net net c)
  launch_stands = let t = h.1.1.1.1 in passed (in_net net c) t.1.1.1.0

  pub launch_test : NoneHolds (entry_rows (at_launch net c) (allows net c) [] (code_of bytes))
  launch_test = let t = h.1.1.1.1 in none_front (entry_rows (at_launch net c) (allows net c) [] (code_of bytes)) (slot_row net ∷ place_row net ∷ []) t.1.1.1.1

  room : NoneHolds (slot_row net ∷ place_row net ∷ [])
  room = let t = h.1.1.1.1 in none_back (entry_rows (at_launch net c) (allows net c) [] (code_of bytes)) (slot_row net ∷ place_row net ∷ []) t.1.1.1.1

  slot_low : free_slot net < 64
  slot_low = leb-false 64 (free_slot net) room.0

  place_low : free_place net < 8
  place_low = leb-false 8 (free_place net) room.1.0

  short : length (tree bytes) ≤ 384
  short = let e = launch_envelope in omega (arith, e.1, e.2, length-drop 3 bytes)

module _ (net : Net) (sized : Sized net) (c : Controller) (bytes : List ℕ) (h : NoneHolds (launch_rows net c bytes)) where
  launch_reads : Reads (place_bytes (written net.places (free_place net) (tree bytes)) (free_place net)) 0 (code_of bytes)
  launch_reads =
      let w = launch_whole net c bytes h in
      let z : List ℕ = replicate (384 - length (tree bytes)) 0 in
      let b = (bytes_are (tree bytes) 0 w.1).0.bytes in (
        _,
        ap (λ s. read_at s 0) (written_here net.places (free_place net) (tree bytes) sized.bytes (place_low net c bytes h) (short net c bytes h))
            ∙ moved (tree bytes) (tree bytes ++ z) (drop w.0 (tree bytes) ++ z) 0 0 (code_of bytes) w.0 w.1
            (ap (λ s. s ++ z) b ∙ append_assoc (encode (code_of bytes)) (drop w.0 (tree bytes)) z),
      )

  after : Net
  after = (launch_done net c bytes).net

  -- a running thread has another place
  place_apart : (i : ℕ) → Runs net i → (thread_at net i).place ≢ free_place net
  place_apart i r e =
      has_not (λ t. t.place) net (free_place net) i
      (none_has (has (λ t. t.place) (free_place net)) zero_thread refl net.threads
      (not-true _ ((lowest_is (λ p. not (list_any (has (λ t. t.place) p) net.threads)) 0 8).passes (place_low net c bytes h))) i) r e

  same_located : (i : ℕ) → Runs net i → located after (thread_at net i) ≡ located net (thread_at net i)
  unfolding after launch_done
  same_located i r =
      ap (λ s. read_at s (thread_at net i).position)
      (written_other net.places (free_place net) (tree bytes) sized.bytes (place_low net c bytes h) (short net c bytes h) (thread_at net i).place ((launch_was_sound net c bytes h).runs i r).place (place_apart i r))

  same_view : (i : ℕ) → view_of after (thread_at net i) ≡ view net i
  same_view i = go (free (thread_at net i)) refl
    where
      go : (b : Bool) → free (thread_at net i) ≡ b → view_of after (thread_at net i) ≡ view net i
      go true e = rw e
      go false e = ap (λ o. cond (free (thread_at net i)) nobody (held (thread_at net i).controller (program_of o) (thread_at net i).pass)) (same_located i (T_not e))

  other_thread : (j : ℕ) → j ≢ free_slot net → thread_at after j ≡ thread_at net j
  unfolding after launch_done
  other_thread j n = get_or-set_other net.threads (free_slot net) j _ zero_thread n

  new_thread : thread_at after (free_slot net) ≡ (begun net c)
  unfolding after launch_done
  new_thread = get_or-set_same net.threads (free_slot net) _ zero_thread (omega (arith, (slot_low net c bytes h), sized.slots))

  begun_runs : free (begun net c) ≡ false
  begun_runs = controller_not_zero net c (launch_stands net c bytes h)

  pub launch_new : view (launch_done net c bytes).net (free_slot net) ≡ held c (code_of bytes) (new_pass net)
  unfolding after launch_done
  launch_new = ap (view_of after) new_thread ∙ viewed after (begun net c) (code_of bytes) begun_runs launch_reads

  pub launch_rest : (j : ℕ) → j ≢ free_slot net → view (launch_done net c bytes).net j ≡ view net j
  unfolding after
  launch_rest j n = ap (view_of after) (other_thread j n) ∙ same_view j

  pub launch_sized : Sized (launch_done net c bytes).net
  unfolding launch_done
  launch_sized = record {
    slots = length-set net.threads (free_slot net) _ ∙ sized.slots;
    bytes = written_long net.places (free_place net) (tree bytes) sized.bytes (place_low net c bytes h) (short net c bytes h);
  }

  pub launch_sound : Sound (launch_done net c bytes).net
  unfolding after launch_done
  launch_sound = record {
    few = (launch_was_sound net c bytes h).few;
    trusts = (launch_was_sound net c bytes h).trusts;
    frees = λ s. all_frees s (ℕ_discrete s (free_slot net));
    runs = λ s. all_runs s (ℕ_discrete s (free_slot net));
  }
    where
      all_frees : (s : ℕ) → Dec (s ≡ free_slot net) → T (free (thread_at after s)) → thread_at after s ≡ zero_thread
      all_frees s (yes e) t = never (sym begun_runs ∙ true_T (subst (λ u. T (free u)) (ap (thread_at after) e ∙ new_thread) t))
      all_frees s (no n) t = other_thread s n ∙ (launch_was_sound net c bytes h).frees s (subst (λ u. T (free u)) (other_thread s n) t)

      all_runs : (s : ℕ) → Dec (s ≡ free_slot net) → T (not (free (thread_at after s))) → Placed after (thread_at after s)
      all_runs s (yes e) t = subst (Placed after) (sym (ap (thread_at after) e ∙ new_thread)) here
        where
          here : Placed after (begun net c)
          here = record { place = (place_low net c bytes h); stands = (launch_stands net c bytes h); reads = (code_of bytes, launch_reads.0, launch_reads.1) }
      all_runs s (no n) t = subst (Placed after) (sym (other_thread s n)) there
        where
          run : Runs net s
          run = subst (λ u. T (not (free u))) (other_thread s n) t

          was : Placed net (thread_at net s)
          was = (launch_was_sound net c bytes h).runs s run

          there : Placed after (thread_at net s)
          there = record { place = was.place; stands = was.stands; reads = (was.reads.0, was.reads.1, same_located s run ∙ was.reads.2) }
