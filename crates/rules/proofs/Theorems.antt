-- The demands are met; what each row means is in `Meanings`. Assumes nothing.
use Rattle.std.proofs.Common.{◌≡◌, ℕ, ◌+◌, ◌<◌, Bool, true, false, cond, not, ◌||◌, T, eqb, ltb, leb, ◌≢◌, ◌⊎◌, ◌↔◌, List, [], ◌∷◌, ◌++◌, sym, refl, ap, ◌∙◌, subst, inl, inr, arith, le-ltb, eq-eqb, ne_eqb, Some, None, Ok, Err}
use mathlib.Core.Logic.Iff
use borrow.Author.Tests.{eqb-false}
use Rattle.program.specs.declared.names.Controller.{Controller}
use Rattle.program.specs.Tree.{Slip, Program, end, act, split, repeat, depart}
use Rattle.program.specs.Reading.{whole}
use Rattle.program.specs.Envelope.{envelope}
use Rattle.policy.specs.Counts.{finite, join, Fits, Policy}
use Rattle.policy.specs.Needs.{need}
use Rattle.policy.specs.Runs.{Keeps, KeepsSlips}
use Rattle.policy.specs.Tests.{fits_allb, honestb, slip_fitsb}
use Rattle.policy.proofs.Counts.{fits_trans, fits_left, fits_right}
use Rattle.policy.proofs.Tests.{honest_test, fits_all_test}
use Rattle.policy.proofs.Exact.{exact, exact_honest}
use Rattle.policy.proofs.Figures.{figure_6}
use Rattle.rules.specs.declared.net.Thread.{Thread}
use Rattle.rules.specs.declared.net.Net.{Net}
use Rattle.rules.specs.declared.reply.Fields.{Fields}
use Rattle.rules.specs.declared.reply.Refusal.{Refusal}
use Rattle.rules.specs.declared.reply.Refusal.TheVariants as refusal
use Rattle.rules.specs.declared.reply.Outcome.{Outcome}
use Rattle.rules.specs.Rows.{Row, ◌gives◌, answer, NoneHolds, fields}
use Rattle.rules.specs.Nets.{free, thread_at, free_slot, free_place, passed_over, new_pass, place_bytes, program_of, program_at, in_net, good, trustworthy, allows}
use Rattle.rules.specs.Sound.{Sound, Sized, soundb}
use Rattle.rules.specs.Calls.{code_of, envelope_rows, tree_rows, the_slip, the_code, entry_rows, at_launch, at_entry, slot_row, place_row, launch_done, node_rows, step_rows, step_done, set_up_done, Call, set_up, launch, step, rows_of, done_of, called}
use Rattle.rules.specs.History.{blank, Ledger, step_entry, entered, if_done, recorded, History, opened, then}
use Rattle.rules.specs.Paper.{held, view, standing, Admits, Reduces, s_nil, r_act, s_par, s_rep, r_mig}
use Rattle.rules.specs.Demands.{RefusedLeaves, ResultsUnique, SoundExact, SoundAfter, SoundSetUp, RowsExact, Runs, Follows, MembraneExact, Launches, LaidOut, TestExact, LaunchExact, EntryExact, Safety, WellFormed, PassesApart, PassFirst, charged, PassTold, departs, issues, Tested, Told}
use Rattle.rules.proofs.Rows.{done_refused, answered, refused_exactly, done_exactly, done_to, leaves, none_done, none_before, passed, passes, not_T}
use Rattle.rules.proofs.Search.{or_false}
use Rattle.rules.proofs.Pass.{first_free}
use Rattle.rules.proofs.Places.{Reads}
use Rattle.rules.proofs.Sound.{sound_test}
use Rattle.rules.proofs.Steps.{turns, run_low, step_sized, step_sound, first, second}
use Rattle.rules.proofs.Launches.{launch_new, launch_rest, launch_sized, launch_sound}
use Rattle.rules.proofs.Books.{need_of, share, total, nothing_more}
use Rattle.rules.proofs.Sums.{sum_at}
use Rattle.rules.proofs.Entry.{code_exact, looks_code, looks_slip, looks_carried, admits_exactly}
use Rattle.rules.proofs.Invariant.{Inv, step_inv, launch_inv}
use Rattle.rules.proofs.SetUps.{set_up_inv}
use Rattle.rules.proofs.SetUps as set_ups

-- what is done replies so
step_done_lem : (net : Net) (s : ℕ) (t : Thread) (p : Program) → (f : Fields) × ((step_done net s t p).reply ≡ Ok f)
unfolding step_done
step_done_lem net s t end = (_, refl)
step_done_lem net s t (act a p) = (_, refl)
step_done_lem net s t (split p q) = (_, refl)
step_done_lem net s t (repeat p) = (_, refl)
step_done_lem net s t (depart l slip p) = (_, refl)

pub is_done : (net : Net) (call : Call) → (f : Fields) × ((done_of net call).reply ≡ Ok f)
unfolding done_of set_up_done launch_done
is_done net (set_up bytes) = (_, refl)
is_done net (launch c bytes) = (_, refl)
is_done net (step s) = step_done_lem net s (thread_at net s) (program_at net (thread_at net s))

-- DEMAND 1
pub refused_leaves : RefusedLeaves
refused_leaves net call = let d = is_done net call in leaves net (done_of net call) d.0 d.1 (rows_of net call)

pub results_unique : ResultsUnique
results_unique net call x y e f = e ∙ sym f

pub sound_exact : SoundExact
sound_exact = sound_test

-- what the slot of a done step says
module _ (net : Net) (s : ℕ) (h : NoneHolds (step_rows net s (thread_at net s) (program_at net (thread_at net s)))) where
  was_sound : Sound net
  was_sound = (sound_test net).0 (passed (soundb net) h.0)

  runs : free (thread_at net s) ≡ false
  runs = (or_false (ltb 63 s) (free (thread_at net s)) h.1.0).1

  reads : Reads (place_bytes net.places (thread_at net s).place) (thread_at net s).position (program_at net (thread_at net s))
  reads =
      let r = (was_sound.runs s (rw runs tt)).reads in
      (r.1, r.2 ∙ ap (λ p. whole p r.1) (sym (ap program_of r.2)))

pub sound_after : SoundAfter
unfolding rows_of done_of set_up_done
sound_after net call z n = answered (λ o. Sized o.net × Sound o.net) (rows_of net call) net (done_of net call) (λ r. (z, n)) (done call)
  where
    done : (call : Call) → NoneHolds (rows_of net call) → Sized (done_of net call).net × Sound (done_of net call).net
    done (set_up bytes) h = let i = set_up_inv bytes h in (i.sized, i.sound)
    done (launch c bytes) h = (launch_sized net z c bytes h, launch_sound net z c bytes h)
    done (step s) h = (
      step_sized net s (thread_at net s) (program_at net (thread_at net s)) z,
      (sound_test _).0 (step_sound net z s (runs net s h) (program_at net (thread_at net s)) (reads net s h) h.1.1 ((sound_test net).1 n) (n.runs s (rw (runs net s h) tt))),
    )

-- DEMAND 2
pub rows_exact : RowsExact
rows_exact net call =
    let d = is_done net call in
    (refused_exactly net (done_of net call) d.0 d.1 (rows_of net call), done_exactly net (done_of net call) d.0 d.1 (rows_of net call))

-- a call that replies done is what it is where no row holds
when_done : (net : Net) (call : Call) (f : Fields) → (called net call).reply ≡ Ok f → NoneHolds (rows_of net call) × (called net call ≡ done_of net call)
when_done net call f e =
    let d = is_done net call in
    let h = done_to net (done_of net call) d.0 d.1 (rows_of net call) f e in
    (h, none_done net (done_of net call) (rows_of net call) h)

set_up_done_lem : (net : Net) (bytes : List ℕ) (f : Fields) → (called net (set_up bytes)).reply ≡ Ok f → Inv (called net (set_up bytes)).net blank
unfolding rows_of done_of set_up_done
set_up_done_lem net bytes f e = let w = when_done net (set_up bytes) f e in subst (λ o. Inv o.net blank) (sym w.1) (set_up_inv bytes w.0)

pub sound_set_up : SoundSetUp
sound_set_up net bytes f e = let i = set_up_done_lem net bytes f e in (i.sized, i.sound)

-- a done step is a reduction of the paper
reduces : (net : Net) (k : Controller) (x : ℕ) (p : Program) → NoneHolds (node_rows net k p) → Reduces net k p (standing (first (new_pass net) k x p) ++ standing (second k x p))
reduces net k x end h = s_nil
reduces net k x (act a p) h = r_act
reduces net k x (split p q) h = s_par
reduces net k x (repeat p) h = s_rep
reduces net k x (depart l slip p) h = r_mig (λ e. eqb-false l.0 k.0 h.0 (ap (λ c. c.0) e)) (passed (in_net net l) h.1.0) ((admits_exactly net l k slip p).0 h.1.1)

pub follows : Follows
unfolding rows_of done_of
follows net s f z e =
    let w = when_done net (step s) f e in
    subst (λ o. Reduces net k p (standing (view o.net s) ++ standing (view o.net (free_slot net))) × ((j : ℕ) → j ≢ s → j ≢ free_slot net → view o.net j ≡ view net j)) (sym w.1) (go w.0)
  where
    k : Controller
    k = (thread_at net s).controller

    p : Program
    p = program_at net (thread_at net s)

    after : Net
    after = (step_done net s (thread_at net s) p).net

    go : NoneHolds (step_rows net s (thread_at net s) p) →
        Reduces net k p (standing (view after s) ++ standing (view after (free_slot net))) × ((j : ℕ) → j ≢ s → j ≢ free_slot net → view after j ≡ view net j)
    go h =
        let t = turns net z s (runs net s h) p (reads net s h) h.1.1 in (
          subst (λ a. Reduces net k p (standing a ++ standing (view after (free_slot net)))) (sym t.one)
              (subst (λ a. Reduces net k p (standing (first (new_pass net) k (thread_at net s).pass p) ++ standing a)) (sym t.two) (reduces net k (thread_at net s).pass p h.1.1)),
          t.rest,
        )

pub launches : Launches
unfolding rows_of done_of
launches net c bytes f z e =
    let w = when_done net (launch c bytes) f e in
    subst (λ o. (view o.net (free_slot net) ≡ held c (code_of bytes) (new_pass net)) × ((j : ℕ) → j ≢ free_slot net → view o.net j ≡ view net j)) (sym w.1)
    (launch_new net z c bytes w.0, launch_rest net z c bytes w.0)

-- what the rows of tested code answer where one of them holds; rows behind them do not matter
code_refuses : (net : Net) (done : Outcome) (honest fits : Bool) (more : List Row) → ¬ NoneHolds (not honest gives refusal.NotHonest ∷ not fits gives refusal.NotFitting ∷ []) →
    let o = answer (not honest gives refusal.NotHonest ∷ not fits gives refusal.NotFitting ∷ more) net done in
    (o.reply ≡ Err refusal.NotHonest) ⊎ (o.reply ≡ Err refusal.NotFitting)
code_refuses net done false fits more n = inl refl
code_refuses net done true false more n = inr refl
code_refuses net done true true more n = absurd (n (refl, (refl, tt)))

slip_refuses : (net : Net) (done : Outcome) (fits : Bool) → ¬ NoneHolds (not fits gives refusal.SlipNotFitting ∷ []) →
    (answer (not fits gives refusal.SlipNotFitting ∷ []) net done).reply ≡ Err refusal.SlipNotFitting
slip_refuses net done false n = refl
slip_refuses net done true n = absurd (n (refl, tt))

-- a departure of a running thread to another controller of the net answers as its entry does
module _ (net : Net) (s : ℕ) (l : Controller) (slip : Slip) (p : Program) (sound : Sound net) (run : Runs net s) (low : s < 64)
    (is : program_at net (thread_at net s) ≡ depart l slip p) (away : l ≢ (thread_at net s).controller) (known : T (in_net net l)) where
  front : List Row
  front =
      not (soundb net) gives refusal.NotSound
      ∷ (ltb 63 s || free (thread_at net s)) gives refusal.NoThread
      ∷ eqb l.0 (thread_at net s).controller.0 gives refusal.AlreadyHere
      ∷ not (in_net net l) gives refusal.NoController
      ∷ []

  front_none : NoneHolds front
  unfolding front
  front_none = (
    passes (soundb net) ((sound_test net).1 sound),
    rw (le-ltb 63 s (omega arith), not_T {b = free (thread_at net s)} run) (
      refl,
      (ne_eqb l.0 (thread_at net s).controller.0 (λ e. away (λ i. record { 0 = e i })), (passes (in_net net l) known, tt)),
    ),
  )

  at_entry_lem : called net (step s) ≡ answer (entry_rows (at_entry net l (thread_at net s).controller) (allows net l) slip p) net (done_of net (step s))
  unfolding rows_of front
  at_entry_lem =
      ap (λ q. answer (step_rows net s (thread_at net s) q) net (done_of net (step s))) is
      ∙ none_before net (done_of net (step s)) front (entry_rows (at_entry net l (thread_at net s).controller) (allows net l) slip p) front_none

-- no refusal where no row holds
not_refused : (net : Net) (call : Call) (r : Refusal) → called net call ≡ done_of net call → (called net call).reply ≡ Err r → ⊥
not_refused net call r e x = let d = is_done net call in done_refused (sym d.1 ∙ ap (λ o. o.reply) (sym e) ∙ x)

pub membrane_exact : MembraneExact
membrane_exact net s l slip p z sound run is away known = (to, from (good net l k) refl)
  where
    k : Controller
    k = (thread_at net s).controller

    low : s < 64
    low = run_low net z s (not_T {b = free (thread_at net s)} run)

    Refusing : Outcome → Type 0
    Refusing o = (o.reply ≡ Err refusal.SlipNotFitting) ⊎ ((o.reply ≡ Err refusal.NotHonest) ⊎ (o.reply ≡ Err refusal.NotFitting))

    entry_is : called net (step s) ≡ answer (entry_rows (at_entry net l k) (allows net l) slip p) net (done_of net (step s))
    entry_is = at_entry_lem net s l slip p sound run low is away known

    to : Refusing (called net (step s)) → ¬ Admits net l k slip p
    to h a = elim h [ inl x ↦ no _ x | inr y ↦ elim y [ inl x ↦ no _ x | inr x ↦ no _ x ] ]
      where
        no : (r : Refusal) → (called net (step s)).reply ≡ Err r → ⊥
        no r = not_refused net (step s) r (entry_is ∙ none_done net (done_of net (step s)) (entry_rows (at_entry net l k) (allows net l) slip p) ((admits_exactly net l k slip p).1 a))

    from : (g : Bool) → good net l k ≡ g → ¬ Admits net l k slip p → Refusing (called net (step s))
    from true e n =
        let i : at_entry net l k ≡ the_slip = looks_slip net l k (rw e tt) in
        subst Refusing (sym (entry_is ∙ ap (λ look. answer (entry_rows look (allows net l) slip p) net (done_of net (step s))) i))
        (inl (slip_refuses net (done_of net (step s)) (slip_fitsb (allows net l) slip)
        (λ h. n ((admits_exactly net l k slip p).0 (subst (λ look. NoneHolds (entry_rows look (allows net l) slip p)) (sym i) h)))))
    from false e n =
        let i : at_entry net l k ≡ the_code = looks_carried net l k (rw e tt) in
        subst Refusing (sym (entry_is ∙ ap (λ look. answer (entry_rows look (allows net l) slip p) net (done_of net (step s))) i))
        (inr (code_refuses net (done_of net (step s)) (honestb p) (fits_allb (allows net l) p) []
        (λ h. n ((admits_exactly net l k slip p).0 (subst (λ look. NoneHolds (entry_rows look (allows net l) slip p)) (sym i) h)))))

-- a set-up's bytes stand in its net where the document has them
pub laid_out : LaidOut
laid_out = set_ups.laid_out

-- DEMAND 3
pub test_exact : TestExact
test_exact = code_exact

-- where the code is tested, 8 and 7 are given exactly so; the rows behind the test give neither
module _ (net : Net) (call : Call) (allowed : Policy) (slip : Slip) (p : Program) (more : List Row)
    (is : called net call ≡ answer (entry_rows the_code allowed slip p ++ more) net (done_of net call))
    (other : (r : Refusal) → (answer more net (done_of net call)).reply ≡ Err r → (r ≢ refusal.NotHonest) × (r ≢ refusal.NotFitting)) where
  by_tests : (honest fits : Bool) → T honest ↔ KeepsSlips p → T fits ↔ Keeps allowed p →
      let o = answer (not honest gives refusal.NotHonest ∷ not fits gives refusal.NotFitting ∷ more) net (done_of net call) in Tested o allowed p
  by_tests false fits h f = ((λ _ k. h.1 k, λ _. refl), (λ e. absurd (let z : ◌≡◌ {A = ℕ} 0 1 = cc in omega arith), λ k. absurd (h.1 k.0)))
  by_tests true false h f = ((λ e. absurd (let z : ◌≡◌ {A = ℕ} 0 1 = cc in omega arith), λ n. absurd (n (h.0 tt))), (λ _. (h.0 tt, λ k. f.1 k), λ _. refl))
  by_tests true true h f = ((λ e. absurd ((other _ e).0 refl), λ n. absurd (n (h.0 tt))), (λ e. absurd ((other _ e).1 refl), λ k. absurd (k.1 (f.0 tt))))

  exactly : Tested (called net call) allowed p
  exactly =
      subst (λ o. Tested o allowed p) (sym is)
      (by_tests (honestb p) (fits_allb allowed p) (Iff.trans (honest_test p) (Iff.symm (exact_honest p))) (Iff.trans (fits_all_test allowed p) (Iff.symm (exact allowed p))))

pub entry_exact : EntryExact
entry_exact net s l slip p sound run low is away known not-Good =
    exactly net (step s) (allows net l) slip p []
    (at_entry_lem net s l slip p sound run low is away known
    ∙ ap (λ look. answer (entry_rows look (allows net l) slip p) net (done_of net (step s))) (looks_carried net l (thread_at net s).controller not-Good))
    (λ r e. let d = is_done net (step s) in done_refused (sym d.1 ∙ e))

pub launch_exact : LaunchExact
unfolding rows_of
launch_exact net c bytes trusty sound right tree known =
    exactly net (launch c bytes) (allows net c) [] (code_of bytes) room
    (at_test ∙ ap (λ look. answer (entry_rows look (allows net c) [] (code_of bytes) ++ room) net (done_of net (launch c bytes))) (looks_code net c trusty))
    (other (leb 64 (free_slot net)) (leb 8 (free_place net)))
  where
    room : List Row
    room = slot_row net ∷ place_row net ∷ []

    at_test : called net (launch c bytes) ≡ answer (entry_rows (at_launch net c) (allows net c) [] (code_of bytes) ++ room) net (done_of net (launch c bytes))
    at_test =
        none_before net (done_of net (launch c bytes))
        (not (soundb net) gives refusal.NotSound ∷ envelope_rows (envelope 2 385 bytes) ++ (tree_rows bytes ++ (not (in_net net c) gives refusal.NoController ∷ [])))
        (entry_rows (at_launch net c) (allows net c) [] (code_of bytes) ++ room)
        (passes (soundb net) ((sound_test net).1 sound), rw right (refl, (refl, (refl, (tree.0, (tree.1.0, (tree.1.1.0, (passes (in_net net c) known, tt))))))))

    other : (a b : Bool) (r : Refusal) → (answer (a gives refusal.NoSlot ∷ b gives refusal.NoPlace ∷ []) net (done_of net (launch c bytes))).reply ≡ Err r →
        (r ≢ refusal.NotHonest) × (r ≢ refusal.NotFitting)
    other true b r e = (λ x. let z : ◌≡◌ {A = ℕ} 0 1 = cc in omega arith, λ x. let z : ◌≡◌ {A = ℕ} 0 1 = cc in omega arith)
    other false true r e = (λ x. let z : ◌≡◌ {A = ℕ} 0 1 = cc in omega arith, λ x. let z : ◌≡◌ {A = ℕ} 0 1 = cc in omega arith)
    other false false r e = let d = is_done net (launch c bytes) in done_refused (sym d.1 ∙ e)

-- every history keeps the invariant
call_inv : (net : Net) (b : Ledger) → Inv net b → (call : Call) → Inv (called net call).net (recorded net b call)
unfolding rows_of done_of set_up_done
call_inv net b i call =
    answered (λ o. Inv o.net (if_done o.reply b (entered net b call))) (rows_of net call) net (done_of net call) (λ r. i)
    (λ h. subst (λ r. Inv (done_of net call).net (if_done r b (entered net b call))) (sym (is_done net call).1) (done call h))
  where
    done : (call : Call) → NoneHolds (rows_of net call) → Inv (done_of net call).net (entered net b call)
    done (set_up bytes) h = set_up_inv bytes h
    done (launch c bytes) h = launch_inv net b i c bytes h
    done (step s) h = step_inv net b i s (runs net s h) (program_at net (thread_at net s)) (reads net s h) h.1.1

invariant : {net : Net} {b : Ledger} → History net b → Inv net b
invariant (opened before bytes f e) = set_up_done_lem before bytes f e
invariant (then {net} {b} h call) = call_inv net b (invariant h) call

pub safety : Safety
safety net b h stay l t α = fits_trans (fits_left (finite (b.used stay α)) (total (view net) b.stay stay α)) ((invariant h).books.within stay l t α)

-- what a running slot holds
holds : (net : Net) (i : ℕ) → Runs net i → view net i ≡ held (thread_at net i).controller (program_at net (thread_at net i)) (thread_at net i).pass
holds net i r = rw (not_T {b = free (thread_at net i)} r)

-- THE INCIDENT
pub passes_apart : PassesApart
passes_apart net b h = (λ i j r q. (invariant h).books.apart (holds net i r) (holds net j q), λ i r. (invariant h).books.homed (holds net i r))

pub pass_first : PassFirst
pass_first = first_free

-- each thread at a trustworthy controller is typed by its policy: its need is part of what its stay has left
pub well_formed : WellFormed
well_formed net b h i r t =
    let v = invariant h in
    let w = v.books.homed (holds net i r) in
    let k = b.stay i in
    let low = run_low net v.sized i (not_T {b = free (thread_at net i)} r) in
    (figure_6 _ _).1 (
      v.books.honest (holds net i r) t,
      λ α.
          fits_trans (subst (λ c. Fits c (total (view net) b.stay k α)) (share_is α) (sum_at (share (view net) b.stay k α) 65 i (omega arith)))
          (fits_trans (fits_right (finite (b.used k α)) (total (view net) b.stay k α))
          (subst (λ m. Fits (join (finite (b.used k α)) (total (view net) b.stay k α)) (allows net m α)) w.1
          (v.books.within k w.0 (subst (λ m. T (trustworthy net m)) (sym w.1) t) α))),
    )
  where
    share_is : (α : ℕ) → share (view net) b.stay (b.stay i) α i ≡ need (program_at net (thread_at net i)) α
    share_is α = ap (λ c. cond c (need_of (view net i) α) (finite 0)) (eq-eqb (b.stay i) (b.stay i) refl) ∙ ap (λ y. need_of y α) (holds net i r)

-- what a done call shows of passes
record Issues (net : Net) (call : Call) (o : Outcome) : Type 0 where
  of_fresh : (fields o.reply).fresh ≡ cond (issues net call) (Some (new_pass net)) None
  of_over : (fields o.reply).over ≡ cond (issues net call) (passed_over net) 0
  of_last : T (issues net call) → o.net.counter.last ≡ new_pass net

step_issues : (net : Net) (s : ℕ) (t : Thread) (p : Program) →
    let o = step_done net s t p in
    ((fields o.reply).fresh ≡ cond (departs p) (Some (new_pass net)) None) × ((fields o.reply).over ≡ cond (departs p) (passed_over net) 0)
    × (T (departs p) → o.net.counter.last ≡ new_pass net)
unfolding step_done
step_issues net s t end = (refl, refl, λ n. absurd n)
step_issues net s t (act a p) = (refl, refl, λ n. absurd n)
step_issues net s t (split p q) = (refl, refl, λ n. absurd n)
step_issues net s t (repeat p) = (refl, refl, λ n. absurd n)
step_issues net s t (depart l slip p) = (refl, refl, λ _. refl)

call_issues : (net : Net) (call : Call) → Issues net call (done_of net call)
unfolding done_of set_up_done launch_done
call_issues net (set_up bytes) = record { of_fresh = refl; of_over = refl; of_last = λ n. absurd n }
call_issues net (launch c bytes) = record { of_fresh = refl; of_over = refl; of_last = λ _. refl }
call_issues net (step s) = let i = step_issues net s (thread_at net s) (program_at net (thread_at net s)) in record { of_fresh = i.0; of_over = i.1; of_last = i.2 }

pub pass_told : PassTold
pass_told net call f e =
    let i = subst (Issues net call) (sym (when_done net call f e).1) (call_issues net call) in
    (ap (λ r. (fields r).fresh) (sym e) ∙ i.of_fresh, ap (λ r. (fields r).over) (sym e) ∙ i.of_over, i.of_last)

-- what a done step shows, by its program
record Tells (net : Net) (b : Ledger) (s : ℕ) (t : Thread) (p : Program) (f : Fields) : Type 0 where
  of_pass : f.pass ≡ Some t.pass
  of_place : f.controller ≡ Some t.controller
  of_name : (stay α : ℕ) → (step_entry b s (free_slot net) p).used stay α ≡ b.used stay α + cond (eqb (b.stay s) stay) (charged f.name α) 0

tells : (net : Net) (b : Ledger) (s : ℕ) (t : Thread) (p : Program) → Tells net b s t p (fields (step_done net s t p).reply)
unfolding step_done
tells net b s t end = record { of_pass = refl; of_place = refl; of_name = λ stay α. nothing_more (b.used stay α) (eqb (b.stay s) stay) }
tells net b s t (act a p) = record { of_pass = refl; of_place = refl; of_name = λ stay α. refl }
tells net b s t (split p q) = record { of_pass = refl; of_place = refl; of_name = λ stay α. nothing_more (b.used stay α) (eqb (b.stay s) stay) }
tells net b s t (repeat p) = record { of_pass = refl; of_place = refl; of_name = λ stay α. nothing_more (b.used stay α) (eqb (b.stay s) stay) }
tells net b s t (depart l slip p) = record { of_pass = refl; of_place = refl; of_name = λ stay α. refl }

pub told : Told
unfolding rows_of done_of
told net b h s f e =
    let w = when_done net (step s) f e in
    let t = thread_at net s in
    let p = program_at net t in
    let shown : fields (step_done net s t p).reply ≡ f = ap (λ o. fields o.reply) (sym w.1) ∙ ap fields e in
    let y = subst (Tells net b s t p) shown (tells net b s t p) in
    let home = ((passes_apart net b h).1 s (rw (runs net s w.0) tt)).1 in
    (y.of_pass, y.of_place ∙ ap Some (sym home), λ stay α. ap (λ r. (if_done r b (entered net b (step s))).used stay α) e ∙ y.of_name stay α)
