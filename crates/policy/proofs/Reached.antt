-- A need is reached: what is within it, some run uses.
use Prim.Native.Nat.{ℕ, zero, suc, ◌+◌, ◌≤◌, zero-le, suc-le-suc}
use mathlib.Core.Path.{◌≡◌}
use mathlib.Core.List.{List, [], ◌∷◌, ◌++◌}
use mathlib.Core.Logic.{◌⊎◌, inl, inr}
use native.Mathlib.Omega.{arith}
use Rattle.program.specs.declared.names.Action.{Action}
use Rattle.program.specs.Tree.{Program, end, act, split, repeat, depart}
use Rattle.policy.specs.Counts.{Count, finite, unlimited, join, often, always, enough, Within}
use Rattle.policy.specs.Needs.{once, need}
use Rattle.policy.specs.Runs.{lts_act, lts_mig, lts_repl, lts_par_left, lts_par_right, Run, done, step, uses, Reaches, reach}
use Rattle.policy.proofs.Counts.{fits_refl, fits_nothing}
use Rattle.policy.proofs.Bounds.{uses_within}

-- a side of a split runs by itself
left : {σ : List ℕ} {p p' : Program} (q : Program) → Run p σ p' → Run (split p q) σ (split p' q)
left q done = done
left q (step g r) = step (lts_par_left g) (left q r)

right : {σ : List ℕ} {q q' : Program} (p : Program) → Run q σ q' → Run (split p q) σ (split p q')
right p done = done
right p (step g r) = step (lts_par_right g) (right p r)

-- one run after another
then : {σ τ : List ℕ} {p q r : Program} → Run p σ q → Run q τ r → Run p (σ ++ τ) r
then done s = s
then (step g r) s = step g (then r s)

uses_append : (α : ℕ) (σ τ : List ℕ) → uses α (σ ++ τ) ≡ uses α σ + uses α τ
uses_append α [] τ = omega arith
uses_append α (a ∷ σ) τ = omega (arith, uses_append α σ τ)

-- what is within a join is a sum of what is within the two
within_join : (n : ℕ) (c d : Count) → Within n (join c d) → (i : ℕ) × (j : ℕ) × (n ≤ i + j) × Within i c × Within j d
within_join n (finite m) (finite k) (enough h) = (m, k, h, fits_refl (finite m), fits_refl (finite k))
within_join n (finite m) unlimited w = (m, n, omega arith, fits_refl (finite m), always)
within_join n unlimited d w = (n, 0, omega arith, always, fits_nothing d)

within_often : (n : ℕ) (c : Count) → Within n (often c) → (n ≤ 0) ⊎ Within 1 c
within_often n (finite zero) (enough h) = inl h
within_often n (finite (suc k)) w = inr (enough (suc-le-suc zero-le))
within_often n unlimited w = inr always

act_reaches : {a : Action} {α i j n : ℕ} {p : Program} → n ≤ i + j → Reaches p α i → Within j (once a.0 α) → Reaches (act a p) α n
act_reaches h (reach r k) (enough l) = reach (step lts_act r) (omega arith)

split_reaches : {α i j n : ℕ} {p q : Program} → n ≤ i + j → Reaches p α i → Reaches q α j → Reaches (split p q) α n
split_reaches {α} h (reach {σ = σ} r k) (reach {σ = τ} s l) =
    reach (then (left _ r) (right _ s)) (omega (arith, uses_append α σ τ))

-- a run of the body, and then one of the repeat
again : {α i j n : ℕ} {p : Program} → n ≤ i + j → Reaches p α i → Reaches (repeat p) α j → Reaches (repeat p) α n
again h (reach done k) (reach s l) = reach s (omega arith)
again {α} h (reach (step {α = a} {σ = σ} g r) k) (reach {σ = τ} s l) =
    reach (step (lts_repl (lts_par_left g)) (then (left _ r) (right _ s))) (omega (arith, uses_append α σ τ))

repeat_reaches : {α : ℕ} {p : Program} (n : ℕ) → Reaches p α 1 → Reaches (repeat p) α n
repeat_reaches zero r = reach done (omega arith)
repeat_reaches (suc n) r = again (omega arith) r (repeat_reaches n r)

pub reaches : (p : Program) (α n : ℕ) → Within n (need p α) → Reaches p α n
reaches end α n (enough h) = reach done h
reaches (act a p) α n w =
    let (i, j, h, u, v) = within_join n (need p α) (once a.0 α) w in act_reaches h (reaches p α i u) v
reaches (split p q) α n w =
    let (i, j, h, u, v) = within_join n (need p α) (need q α) w in split_reaches h (reaches p α i u) (reaches q α j v)
reaches (repeat p) α n w =
    elim (within_often n (need p α) w) [ inl h ↦ reach done h | inr v ↦ repeat_reaches n (reaches p α 1 v) ]
reaches (depart c slip p) α n (enough h) = reach (step lts_mig done) (omega arith)

-- a finite need is used up by some run, exactly
pub need_reached : (p : Program) (α n : ℕ) → need p α ≡ finite n → (σ : List ℕ) × (p' : Program) × Run p σ p' × (uses α σ ≡ n)
need_reached p α n e = exactly (reaches p α n (rw e (fits_refl (finite n))))
  where
    meets : {u : ℕ} → n ≤ u → Within u (finite n) → u ≡ n
    meets h (enough k) = omega arith

    exactly : Reaches p α n → (σ : List ℕ) × (p' : Program) × Run p σ p' × (uses α σ ≡ n)
    exactly (reach {σ = σ} {p' = p'} r h) = (σ, p', r, meets h (rw e at (uses_within α r)))

-- for any number, some run uses a name of unlimited need at least that often
pub need_unlimited : (p : Program) (α : ℕ) → need p α ≡ unlimited → (n : ℕ) → Reaches p α n
need_unlimited p α e n = reaches p α n (rw e always)
