-- A need bounds what any run uses.
use Prim.Native.Nat.{ℕ}
use mathlib.Core.List.{List}
use Rattle.program.specs.Tree.{Program}
use Rattle.policy.specs.Counts.{finite, join, Fits, Within}
use Rattle.policy.specs.Needs.{once, need}
use Rattle.policy.specs.Runs.{Gives, lts_act, lts_mig, lts_repl, lts_par_left, lts_par_right, Run, done, step, uses}
use Rattle.policy.proofs.Counts.{join_comm, join_assoc, join_nothing, join_often, join_more, fits_left, fits_refl, fits_trans}

-- the name given and the need of what is left, together, fit the need
gives_bounds : (α : ℕ) {a : ℕ} {p p' : Program} → Gives p a p' → Fits (join (once a α) (need p' α)) (need p α)
gives_bounds α (lts_act {a = a} {p = p}) = rw (join_comm (once a.0 α) (need p α)) (fits_refl _)
gives_bounds α (lts_mig {c = c}) = rw (join_nothing (once c.0 α)) (fits_refl _)
gives_bounds α (lts_repl {p = p} g) = rw (join_often (need p α)) at (gives_bounds α g)
gives_bounds α (lts_par_left g) = rw (← join_assoc) (join_more (gives_bounds α g) (fits_refl _))
gives_bounds α {a} (lts_par_right {p = p} {q' = q'} g) =
    rw (← join_assoc (once a α) (need p α) (need q' α), join_comm (once a α) (need p α), join_assoc (need p α) (once a α) (need q' α))
    (join_more (fits_refl (need p α)) (gives_bounds α g))

-- what a run has used and the need of what is left, together, fit the need
pub need_bounds : (α : ℕ) {σ : List ℕ} {p p' : Program} → Run p σ p' → Fits (join (finite (uses α σ)) (need p' α)) (need p α)
need_bounds α done = rw (join_comm, join_nothing) (fits_refl _)
need_bounds α (step {α = a} {σ = σ} g r) =
    rw (join_assoc (once a α) (finite (uses α σ))) (fits_trans (join_more (fits_refl (once a α)) (need_bounds α r)) (gives_bounds α g))

-- so no run uses a name more often than the program needs it
pub uses_within : (α : ℕ) {σ : List ℕ} {p p' : Program} → Run p σ p' → Within (uses α σ) (need p α)
uses_within α {σ} {p} {p'} r = fits_trans (fits_left (finite (uses α σ)) (need p' α)) (need_bounds α r)
