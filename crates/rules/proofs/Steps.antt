-- What a done call makes of the slots. Assumes nothing.
use Rattle.std.proofs.Common.{◌≡◌, ℕ, ◌+◌, ◌<◌, true, false, T, eqb, ltb, leb, ◌≢◌, List, get_or, set, sym, refl, ap, ◌∙◌, arith, leb→le, length-set, get_or-set_other, get_or-set_same, ne_eqb, leb-false}
use Rattle.std.specs.List.{list_all}
use mathlib.Core.Logic.Iff
use native.Mathlib.Decide.{dec_lt}
use lib.ListN.{get_or-eq_default}
use Rattle.program.specs.declared.names.Controller.{Controller}
use Rattle.program.specs.Tree.{Program, end, act, split, repeat, depart}
use Rattle.policy.proofs.Tests.{both_test}
use Rattle.rules.specs.declared.net.Thread.{Thread}
use Rattle.rules.specs.declared.net.Net.{Net}
use Rattle.rules.specs.Rows.{NoneHolds}
use Rattle.rules.specs.Nets.{zero_thread, free, thread_at, free_slot, new_pass, place_bytes, in_net}
use Rattle.rules.specs.Sound.{Placed, Sized, slotb, soundb}
use Rattle.rules.specs.Calls.{goes, moved, node_rows, step_done}
use Rattle.rules.specs.Paper.{Held, nobody, held, view_of, view}
use Rattle.rules.proofs.Rows.{never, true_T, passed}
use Rattle.rules.proofs.Search.{lowest_is}
use Rattle.rules.proofs.Places.{Reads, reads_act, reads_first, reads_second, reads_repeat, reads_depart}
use Rattle.rules.proofs.Sound.{every_set, slot_test}

-- a net with other threads and another last pass
abbrev pub threads_of : Net → List Thread → ℕ → Net
threads_of net ts last = record { n = net.n; trust = net.trust; policies = net.policies; threads = ts; places = net.places; counter = record { last = last } }

-- slots s and f hold h and h' afterwards, and every other slot what it held
pub record Turns (before after : ℕ → Held) (s f : ℕ) (h h' : Held) : Type 0 where
  pub one : after s ≡ h
  pub two : after f ≡ h'
  pub rest : (j : ℕ) → j ≢ s → j ≢ f → after j ≡ before j

-- what a step puts into its slot, and into the lowest free one
abbrev pub first : ℕ → Controller → ℕ → Program → Held
first new k x end = nobody
first new k x (act a p) = held k p x
first new k x (split p q) = held k p x
first new k x (repeat p) = held k (repeat p) x
first new k x (depart l s p) = held l p new

abbrev pub second : Controller → ℕ → Program → Held
second k x end = nobody
second k x (act a p) = nobody
second k x (split p q) = held k q x
second k x (repeat p) = held k p x
second k x (depart l s p) = nobody

pub viewed : (net : Net) (t : Thread) (p : Program) → free t ≡ false → Reads (place_bytes net.places t.place) t.position p → view_of net t ≡ held t.controller p t.pass
viewed net t p r e = rw (r, e.1)

pub controller_not_zero : (net : Net) (k : Controller) → T (in_net net k) → eqb k.0 0 ≡ false
controller_not_zero net k h =
    let l = leb→le 16 k.0 ((both_test (leb 16 k.0) (ltb k.0 (16 + net.n)) Iff.rfl Iff.rfl).0 h).0 in
    ne_eqb k.0 0 (λ e. omega arith)

pub step_sized : (net : Net) (s : ℕ) (t : Thread) (p : Program) → Sized net → Sized (step_done net s t p).net
unfolding step_done
step_sized net s t end z = record { slots = simp length-set z.slots; bytes = z.bytes }
step_sized net s t (act a p) z = record { slots = simp length-set z.slots; bytes = z.bytes }
step_sized net s t (split p q) z = record { slots = simp length-set z.slots; bytes = z.bytes }
step_sized net s t (repeat p) z = record { slots = simp length-set z.slots; bytes = z.bytes }
step_sized net s t (depart l sl p) z = record { slots = simp length-set z.slots; bytes = z.bytes }

module _ (net : Net) (sized : Sized net) where
  pub free_is_free : free (thread_at net (free_slot net)) ≡ true
  free_is_free = elim (dec_lt (free_slot net) 64) [
    | yes l ↦ (lowest_is (λ s. free (thread_at net s)) 0 64).passes l
    | no g ↦ ap free (get_or-eq_default net.threads zero_thread (omega (arith, sized.slots)))
  ]

  pub free_nobody : view net (free_slot net) ≡ nobody
  free_nobody = rw free_is_free

  module _ (s : ℕ) (run : free (thread_at net s) ≡ false) where
    pub run_low : s < 64
    run_low = elim (dec_lt s 64) [ yes l ↦ l | no g ↦ never (sym run ∙ ap free (get_or-eq_default net.threads zero_thread (omega (arith, sized.slots)))) ]

    pub not_the_free : s ≢ free_slot net
    not_the_free e = never (sym run ∙ ap (λ i. free (thread_at net i)) e ∙ free_is_free)

    one_set : (a : Thread) (h : Held) → view_of net a ≡ h → Turns (view net) (λ j. view_of net (get_or (set net.threads s a) j zero_thread)) s (free_slot net) h nobody
    one_set a h e = record {
      one = ap (view_of net) (get_or-set_same net.threads s a zero_thread (omega (arith, run_low, sized.slots))) ∙ e;
      two = ap (view_of net) (get_or-set_other net.threads s (free_slot net) a zero_thread (λ i. not_the_free (sym i))) ∙ free_nobody;
      rest = λ j n m. ap (view_of net) (get_or-set_other net.threads s j a zero_thread n);
    }

    free_set : (b : Thread) (h h' : Held) → free_slot net < 64 → view net s ≡ h → view_of net b ≡ h' → Turns (view net) (λ j. view_of net (get_or (set net.threads (free_slot net) b) j zero_thread)) s (free_slot net) h h'
    free_set b h h' l e e' = record {
      one = ap (view_of net) (get_or-set_other net.threads (free_slot net) s b zero_thread not_the_free) ∙ e;
      two = ap (view_of net) (get_or-set_same net.threads (free_slot net) b zero_thread (omega (arith, sized.slots))) ∙ e';
      rest = λ j n m. ap (view_of net) (get_or-set_other net.threads (free_slot net) j b zero_thread m);
    }

    two_set : (a b : Thread) (h h' : Held) → free_slot net < 64 → view_of net a ≡ h → view_of net b ≡ h' →
        Turns (view net) (λ j. view_of net (get_or (set (set net.threads s a) (free_slot net) b) j zero_thread)) s (free_slot net) h h'
    two_set a b h h' l e e' = record {
      one = ap (view_of net) (get_or-set_other (set net.threads s a) (free_slot net) s b zero_thread not_the_free ∙ get_or-set_same net.threads s a zero_thread (omega (arith, run_low, sized.slots))) ∙ e;
      two = ap (view_of net) (get_or-set_same (set net.threads s a) (free_slot net) b zero_thread (omega (arith, sized.slots, length-set net.threads s a))) ∙ e';
      rest = λ j n m. ap (view_of net) (get_or-set_other (set net.threads s a) (free_slot net) j b zero_thread m ∙ get_or-set_other net.threads s j a zero_thread n);
    }

    -- the slots after a done step
    pub turns : (p : Program) → Reads (place_bytes net.places (thread_at net s).place) (thread_at net s).position p → NoneHolds (node_rows net (thread_at net s).controller p) →
        Turns (view net) (view (step_done net s (thread_at net s) p).net) s (free_slot net) (first (new_pass net) (thread_at net s).controller (thread_at net s).pass p) (second (thread_at net s).controller (thread_at net s).pass p)
    unfolding step_done
    turns end e h = one_set zero_thread nobody refl
    turns (act a p) e h = one_set _ _ (viewed net (goes (thread_at net s) _) p run (reads_act _ _ e))
    turns (split p q) e h =
        two_set _ _ _ _ (leb-false 64 (free_slot net) h.0) (viewed net (goes (thread_at net s) _) p run (reads_first _ _ e)) (viewed net (goes (thread_at net s) _) q run (reads_second _ _ e))
    turns (repeat p) e h = free_set _ _ _ (leb-false 64 (free_slot net) h.0) (viewed net (thread_at net s) (repeat p) run e) (viewed net (goes (thread_at net s) _) p run (reads_repeat _ _ e))
    turns (depart l sl p) e h = one_set _ _ (viewed net (moved net (thread_at net s) l _) p (controller_not_zero net l (passed (in_net net l) h.1.0)) (reads_depart _ _ e))

    -- and it leaves the net sound
    kept_sound : (ts : List Thread) (last : ℕ) → T (soundb net) → T (list_all (slotb net) ts) → T (soundb (threads_of net ts last))
    unfolding soundb
    kept_sound ts last h t =
        let (a, h') = (both_test (leb net.n 16) _ Iff.rfl Iff.rfl).0 h in
        let (b, c) = (both_test (list_all (λ b. leb b 2) net.trust) (list_all (slotb net) net.threads) Iff.rfl Iff.rfl).0 h' in
        (both_test (leb net.n 16) _ Iff.rfl Iff.rfl).1 (a, (both_test (list_all (λ b. leb b 2) net.trust) (list_all (slotb net) ts) Iff.rfl Iff.rfl).1 (b, t))

    every_slot : T (soundb net) → T (list_all (slotb net) net.threads)
    unfolding soundb
    every_slot h = ((both_test (list_all (λ b. leb b 2) net.trust) (list_all (slotb net) net.threads) Iff.rfl Iff.rfl).0 ((both_test (leb net.n 16) _ Iff.rfl Iff.rfl).0 h).1).1

    slot_ok : (t : Thread) (p : Program) → free t ≡ false → t.place < 8 → T (in_net net t.controller) → Reads (place_bytes net.places t.place) t.position p → T (slotb net t)
    slot_ok t p r l i e = (slot_test net t).1 (λ f. never (sym r ∙ true_T f), λ _. record { place = l; stands = i; reads = (p, e.0, e.1) })

    pub step_sound : (p : Program) → Reads (place_bytes net.places (thread_at net s).place) (thread_at net s).position p → NoneHolds (node_rows net (thread_at net s).controller p) →
        T (soundb net) → Placed net (thread_at net s) → T (soundb (step_done net s (thread_at net s) p).net)
    unfolding step_done
    step_sound end e h sound ok = kept_sound _ _ sound (every_set (slotb net) net.threads s zero_thread (every_slot sound) tt)
    step_sound (act a p) e h sound ok =
        kept_sound _ _ sound (every_set (slotb net) net.threads s _ (every_slot sound) (slot_ok (goes (thread_at net s) _) p run ok.place ok.stands (reads_act _ _ e)))
    step_sound (split p q) e h sound ok =
        kept_sound _ _ sound (every_set (slotb net) (set net.threads s _) (free_slot net) _
        (every_set (slotb net) net.threads s _ (every_slot sound) (slot_ok (goes (thread_at net s) _) p run ok.place ok.stands (reads_first _ _ e)))
        (slot_ok (goes (thread_at net s) _) q run ok.place ok.stands (reads_second _ _ e)))
    step_sound (repeat p) e h sound ok =
        kept_sound _ _ sound (every_set (slotb net) net.threads (free_slot net) _ (every_slot sound) (slot_ok (goes (thread_at net s) _) p run ok.place ok.stands (reads_repeat _ _ e)))
    step_sound (depart l sl p) e h sound ok =
        let i : T (in_net net l) = passed (in_net net l) h.1.0 in
        kept_sound _ _ sound (every_set (slotb net) net.threads s _ (every_slot sound)
        (slot_ok (moved net (thread_at net s) l _) p (controller_not_zero net l i) ok.place i (reads_depart _ _ e)))
