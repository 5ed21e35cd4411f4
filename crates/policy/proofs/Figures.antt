-- Figure 6 types exactly the honest programs whose needs fit, and figure 7 infers the need.
use Prim.Native.Nat.{zero, suc, ◌-◌}
use mathlib.Core.Path.{◌≡◌, refl, ap, sym, subst, fun_ext}
use mathlib.Core.Logic.{◌↔◌}
use native.Mathlib.Omega.{arith}
use Rattle.program.specs.Tree.{Program, end, act, split, repeat, depart}
use Rattle.policy.specs.Counts.{Count, finite, unlimited, join, often, Fits, always, enough, Policy, Enforces, slip_allows}
use Rattle.policy.specs.Needs.{once, need, FitsAll, Honest}
use Rattle.policy.specs.Figures.{union, forever, Typed, tc_empty, tc_act, tc_mig, tc_par, tc_repl, Infers, ti_empty, ti_act, ti_mig, ti_par, ti_repl}
use Rattle.policy.proofs.Counts.{fits_refl, fits_nothing, fits_trans, fits_right, join_more}

often_more : {c d : Count} → Fits c d → Fits (often c) (often d)
often_more always = always
often_more (enough {m = zero} {n = n} h) = fits_nothing (often (finite n))
often_more (enough {m = suc m} {n = zero} h) = absurd (omega arith)
often_more (enough {m = suc m} {n = suc n} h) = always

typed_to : {p : Program} {T : Policy} → Typed p T → Honest p × FitsAll T p
typed_to tc_empty = (tt, λ α. fits_nothing _)
typed_to (tc_act {a = a} d) = let h = typed_to d in (h.0, λ α. join_more (h.1 α) (fits_refl (once a.0 α)))
typed_to (tc_mig {c = c} T d) = let h = typed_to d in ((h.1, h.0), λ α. fits_right (T α) (once c.0 α))
typed_to (tc_par d e) = let h = typed_to d in let k = typed_to e in ((h.0, k.0), λ α. join_more (h.1 α) (k.1 α))
typed_to (tc_repl d f) = let h = typed_to d in (h.0, λ α. fits_trans (often_more (h.1 α)) (f α))

-- what c leaves of d
abbrev minus : Count → Count → Count
minus unlimited c = unlimited
minus (finite n) (finite m) = finite (n - m)
minus (finite n) unlimited = finite 0

-- what fits together with c fits into what c leaves
minus_fits : (e c d : Count) → Fits (join e c) d → Fits e (minus d c)
minus_fits e c unlimited f = always
minus_fits (finite n) (finite m) (finite k) (enough h) = enough {m = n} {n = k - m} (omega arith)
minus_fits (finite n) unlimited (finite k) f = elim f [ ]
minus_fits unlimited c (finite k) f = elim f [ ]

minus_join : (c d : Count) → Fits c d → join (minus d c) c ≡ d
minus_join c unlimited f = refl
minus_join (finite m) (finite n) (enough h) = ap finite (omega arith)
minus_join unlimited (finite n) f = elim f [ ]

abbrev without : Policy → Policy → Policy
without T U α = minus (T α) (U α)

-- a policy that U enforces is what U leaves of it, with U
rest : (T U : Policy) → Enforces U T → union (without T U) U ≡ T
rest T U f = fun_ext (λ α. minus_join (U α) (T α) (f α))

typed_from : (p : Program) (T : Policy) → Honest p → FitsAll T p → Typed p T
typed_from end T h f = tc_empty
typed_from (act a p) T h f =
    subst (Typed (act a p)) (rest T (once a.0) (λ α. fits_trans (fits_right (need p α) (once a.0 α)) (f α)))
    (tc_act (typed_from p _ h (λ α. minus_fits (need p α) (once a.0 α) (T α) (f α))))
typed_from (split p q) T h f =
    subst (Typed (split p q)) (rest T (need q) (λ α. fits_trans (fits_right (need p α) (need q α)) (f α)))
    (tc_par (typed_from p _ h.0 (λ α. minus_fits (need p α) (need q α) (T α) (f α))) (typed_from q (need q) h.1 (λ α. fits_refl _)))
typed_from (repeat p) T h f = tc_repl (typed_from p (need p) h (λ α. fits_refl _)) f
typed_from (depart c slip p) T h f =
    subst (Typed (depart c slip p)) (rest T (once c.0) f) (tc_mig (without T (once c.0)) (typed_from p (slip_allows slip) h.1 h.0))

pub figure_6 : (p : Program) (T : Policy) → Typed p T ↔ (Honest p × FitsAll T p)
figure_6 p T = (typed_to, λ h. typed_from p T h.0 h.1)

inferred_to : {p : Program} {T : Policy} → Infers p T → Honest p × (T ≡ need p)
inferred_to ti_empty = (tt, refl)
inferred_to (ti_act {a = a} d) = let h = inferred_to d in (h.0, ap (λ T. union T (once a.0)) h.1)
inferred_to (ti_mig {slip = slip} d f) = let h = inferred_to d in ((subst (λ T. Enforces T (slip_allows slip)) h.1 f, h.0), refl)
inferred_to (ti_par d e) = let h = inferred_to d in let k = inferred_to e in ((h.0, k.0), λ i. union (h.1 i) (k.1 i))
inferred_to (ti_repl d) = let h = inferred_to d in (h.0, ap forever h.1)

inferred_from : (p : Program) → Honest p → Infers p (need p)
inferred_from end h = ti_empty
inferred_from (act a p) h = ti_act (inferred_from p h)
inferred_from (split p q) h = ti_par (inferred_from p h.0) (inferred_from q h.1)
inferred_from (repeat p) h = ti_repl (inferred_from p h)
inferred_from (depart c slip p) h = ti_mig (inferred_from p h.1) h.0

pub figure_7 : (p : Program) (T : Policy) → Infers p T ↔ (Honest p × (T ≡ need p))
figure_7 p T = (inferred_to, λ h. subst (Infers p) (sym h.1) (inferred_from p h.0))
