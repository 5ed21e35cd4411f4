-- The invariant of histories: the net is sound and coherent, and the books of its stays are kept. Assumes nothing.
use Rattle.std.proofs.Common.{◌≡◌, ℕ, ◌<◌, Bool, true, false, cond, not, T, ◌≢◌, List, [], get_or, sym, ap, ◌∙◌, subst, arith}
use native.Mathlib.Decide.{ℕ_discrete}
use Rattle.program.specs.declared.names.Controller.{Controller}
use Rattle.program.specs.Tree.{Program, end, act, split, repeat, depart}
use Rattle.policy.specs.Counts.{finite, join, often, Fits}
use Rattle.policy.specs.Needs.{need, same, Honest, FitsAll}
use Rattle.policy.proofs.Counts.{fits_refl, join_nothing, join_comm, join_often}
use Rattle.rules.specs.declared.net.Thread.{Thread}
use Rattle.rules.specs.declared.net.Net.{Net}
use Rattle.rules.specs.Rows.{NoneHolds}
use Rattle.rules.specs.Nets.{zero_thread, free, thread_at, free_slot, new_pass, place_bytes, program_at, in_net, trustworthy, policy_of, allows}
use Rattle.rules.specs.Sound.{Placed, Sound, Sized, soundb}
use Rattle.rules.specs.Calls.{code_of, entry_rows, node_rows, step_done, launch_rows, launch_done}
use Rattle.rules.specs.History.{Ledger, put, begins, joins, charges, step_entry}
use Rattle.rules.specs.Paper.{Held, nobody, held, view_of, view, Coherent}
use Rattle.rules.specs.Demands.{Runs}
use Rattle.rules.proofs.Rows.{passed, T_not}
use Rattle.rules.proofs.Search.{lowest_is}
use Rattle.rules.proofs.Pass.{fresh_for}
use Rattle.rules.proofs.Places.{Reads}
use Rattle.rules.proofs.Sound.{sound_test}
use Rattle.rules.proofs.Steps.{threads_of, Turns, viewed, free_nobody, run_low, not_the_free, turns, step_sized, step_sound}
use Rattle.rules.proofs.Launches.{launch_test, launch_new, launch_rest, launch_sized, launch_sound}
use Rattle.rules.proofs.Sums.{put_same, put_other, zero_join}
use Rattle.rules.proofs.Books.{Books, Leaves, none, some, Entered, enters_nothing, enters_charge, enters_join, need_of, nobody_held, works, begun_books}
use Rattle.rules.proofs.Entry.{code_passes, looks_code, admits_exactly, admitted_keeps}

pub record Inv (net : Net) (b : Ledger) : Type 0 where
  pub sized : Sized net
  pub sound : Sound net
  pub coherent : Coherent net
  pub books : Books (trustworthy net) (allows net) (view net) b

-- who holds a slot is who the view shows
runs_there : (net : Net) (i : ℕ) (k : Controller) (x : ℕ) (p : Program) → view net i ≡ held k p x → Runs net i × ((thread_at net i).pass ≡ x)
runs_there net i k x p e = go (free (thread_at net i)) e
  where
    go : (c : Bool) → cond c nobody (held (thread_at net i).controller (program_at net (thread_at net i)) (thread_at net i).pass) ≡ held k p x → T (not c) × ((thread_at net i).pass ≡ x)
    go true e = nobody_held e
    go false e = let z : (thread_at net i).pass ≡ x = cc in (tt, z)

module _ (net : Net) (b : Ledger) (inv : Inv net b) where
  slot_at_most : free_slot net < 65
  slot_at_most = omega (arith, (lowest_is (λ s. free (thread_at net s)) 0 64).high)

  -- a change of threads and the last pass alone
  kept : (ts : List Thread) (last : ℕ) (b' : Ledger) → Sized (threads_of net ts last) → T (soundb (threads_of net ts last)) →
      Books (trustworthy net) (allows net) (λ j. view_of net (get_or ts j zero_thread)) b' → Inv (threads_of net ts last) b'
  unfolding policy_of
  kept ts last b' z s books = record { sized = z; sound = (sound_test (threads_of net ts last)).0 s; coherent = record { agrees = inv.coherent.agrees }; books = books }

  module _ (s : ℕ) (run : free (thread_at net s) ≡ false) where
    abbrev t : Thread
    t = thread_at net s

    abbrev k : Controller
    k = (thread_at net s).controller

    abbrev x : ℕ
    x = (thread_at net s).pass

    placed : Placed net t
    placed = inv.sound.runs s (T_not run)

    low : s < 65
    low = omega (arith, run_low net inv.sized s run)

    -- work inside the stay of the thread, whose program is p
    module _ (p : Program) (e : Reads (place_bytes net.places t.place) t.position p) where
      worked : {h h' : Held} (v' : ℕ → Held) → Turns (view net) v' s (free_slot net) h h' → Leaves k x p h → Leaves k x p h' → (b' : Ledger) (d : ℕ → ℕ) → Entered b b' s (free_slot net) h' d →
          ((α : ℕ) → Fits (join (finite (d α)) (join (need_of h α) (need_of h' α))) (need p α)) → Books (trustworthy net) (allows net) v' b'
      worked v' turn one two b' d entered fits =
          works (trustworthy net) (allows net) (view net) b inv.books s (free_slot net) k x p _ _ v' (viewed net t p run e) (free_nobody net inv.sized) turn one two low slot_at_most b' d entered fits

      kept_step : NoneHolds (node_rows net k p) → T (soundb (step_done net s t p).net)
      kept_step h = step_sound net inv.sized s run p e h ((sound_test net).1 inv.sound) placed

    pub step_inv : (p : Program) → Reads (place_bytes net.places t.place) t.position p → NoneHolds (node_rows net k p) → Inv (step_done net s t p).net (step_entry b s (free_slot net) p)
    unfolding step_done
    step_inv end e h =
        kept _ _ _ (step_sized net s t end inv.sized) (kept_step end e h)
        (worked end e _ (turns net inv.sized s run end e h) none none b (λ α. 0) (enters_nothing b s (free_slot net)) (λ α. fits_refl (finite 0)))
    step_inv (act a p) e h =
        kept _ _ _ (step_sized net s t (act a p) inv.sized) (kept_step (act a p) e h)
        (worked (act a p) e _ (turns net inv.sized s run (act a p) e h) (some (λ y. y)) none (charges b s a.0) (same a.0) (enters_charge b s (free_slot net) a.0) (λ α. rw (join_nothing (need p α), join_comm (finite (same a.0 α)) (need p α)) (fits_refl _)))
    step_inv (split p q) e h =
        kept _ _ _ (step_sized net s t (split p q) inv.sized) (kept_step (split p q) e h)
        (worked (split p q) e _ (turns net inv.sized s run (split p q) e h) (some (λ y. y.0)) (some (λ y. y.1)) (joins b s (free_slot net)) (λ α. 0) (enters_join b s (free_slot net) _)
        (λ α. rw (zero_join (join (need p α) (need q α))) (fits_refl _)))
    step_inv (repeat p) e h =
        kept _ _ _ (step_sized net s t (repeat p) inv.sized) (kept_step (repeat p) e h)
        (worked (repeat p) e _ (turns net inv.sized s run (repeat p) e h) (some (λ y. y)) (some (λ y. y)) (joins b s (free_slot net)) (λ α. 0) (enters_join b s (free_slot net) _)
        (λ α. rw (zero_join (join (often (need p α)) (need p α)), join_comm (often (need p α)) (need p α), join_often (need p α)) (fits_refl _)))
    step_inv (depart l sl p) e h =
        kept _ _ _ (step_sized net s t (depart l sl p) inv.sized) (kept_step (depart l sl p) e h)
        (begun_books (trustworthy net) (allows net) left (charges b s l.0) gone s l (new_pass net) p _ low (put_same (view net) s nobody) turn.one
        (λ j n. others j n (ℕ_discrete j (free_slot net)) ∙ sym (put_other (view net) s nobody j n)) fresh (λ g. (keeps g).0) (λ g. (keeps g).1))
      where
        after : ℕ → Held
        after = view (step_done net s t (depart l sl p)).net

        turn : Turns (view net) after s (free_slot net) (held l p (new_pass net)) nobody
        turn = turns net inv.sized s run (depart l sl p) e h

        -- first the thread leaves, and its stay has used the target's name
        left : ℕ → Held
        left = put (view net) s nobody

        leaves : Turns (view net) left s (free_slot net) nobody nobody
        leaves = record {
          one = put_same (view net) s nobody;
          two = put_other (view net) s nobody (free_slot net) (λ i. not_the_free net inv.sized s run (sym i)) ∙ free_nobody net inv.sized;
          rest = λ j n m. put_other (view net) s nobody j n;
        }

        gone : Books (trustworthy net) (allows net) left (charges b s l.0)
        gone = worked (depart l sl p) e left leaves none none (charges b s l.0) (same l.0) (enters_charge b s (free_slot net) l.0) (λ α. rw (join_nothing (finite (same l.0 α))) (fits_refl _))

        -- then it begins a stay there
        others : (j : ℕ) → j ≢ s → Dec (j ≡ free_slot net) → after j ≡ view net j
        others j n (yes i) = ap after i ∙ turn.two ∙ sym (free_nobody net inv.sized) ∙ ap (view net) (sym i)
        others j n (no m) = turn.rest j n m

        fresh : (i : ℕ) (k : Controller) (y : ℕ) (q : Program) → left i ≡ held k q y → new_pass net ≢ y
        fresh i k y q f z = at (ℕ_discrete i s)
          where
            at : Dec (i ≡ s) → ⊥
            at (yes w) = nobody_held (sym (put_same (view net) s nobody) ∙ ap left (sym w) ∙ f)
            at (no n) = let r = runs_there net i k y q (sym (put_other (view net) s nobody i n) ∙ f) in fresh_for net inv.sized i r.0 (r.1 ∙ sym z)

        keeps : T (trustworthy net l) → Honest p × FitsAll (allows net l) p
        keeps = admitted_keeps net l k sl p inv.coherent (passed (in_net net l) h.1.0) placed.stands (inv.books.honest (viewed net t (depart l sl p) run e)) ((admits_exactly net l k sl p).0 h.1.1)

  -- code that a trustworthy controller launches was tested
  tested : (c : Controller) (bytes : List ℕ) → NoneHolds (launch_rows net c bytes) → T (trustworthy net c) → Honest (code_of bytes) × FitsAll (allows net c) (code_of bytes)
  tested c bytes h g =
      (code_passes (allows net c) [] (code_of bytes)).0
      (subst (λ look. NoneHolds (entry_rows look (allows net c) [] (code_of bytes))) (looks_code net c g) (launch_test net c bytes h))

  pub launch_inv : (c : Controller) (bytes : List ℕ) → NoneHolds (launch_rows net c bytes) → Inv (launch_done net c bytes).net (begins b (free_slot net) c)
  unfolding policy_of launch_done
  launch_inv c bytes h = record {
    sized = launch_sized net inv.sized c bytes h;
    sound = launch_sound net inv.sized c bytes h;
    coherent = record { agrees = inv.coherent.agrees };
    books = begun_books (trustworthy net) (allows net) (view net) b inv.books (free_slot net) c (new_pass net) (code_of bytes) _ slot_at_most (free_nobody net inv.sized)
        (launch_new net inv.sized c bytes h) (launch_rest net inv.sized c bytes h)
        (λ i k y q f z. let r = runs_there net i k y q f in fresh_for net inv.sized i r.0 (r.1 ∙ sym z))
        (λ g. (tested c bytes h g).0) (λ g. (tested c bytes h g).1);
  }
