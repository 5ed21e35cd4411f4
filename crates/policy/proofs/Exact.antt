-- Needs say exactly what runs do, so the test lets in exactly the code that keeps its policy and its slips.
use Prim.Native.Nat.{ℕ}
use mathlib.Core.Path.{◌≡◌, refl}
use mathlib.Core.Bool.{Bool, true, false, ◌&&◌}
use mathlib.Core.Logic.Iff
use mathlib.Core.Logic.{◌↔◌}
use lib.Dec.{T}
use Rattle.program.specs.Tree.{Slip, Program, end, act, split, repeat, depart}
use Rattle.program.specs.Reading.{whole}
use Rattle.std.proofs.Common.{Ok}
use Rattle.policy.specs.Counts.{enough, Within, Policy, slip_allows}
use Rattle.policy.specs.Needs.{need, FitsAll, Everywhere, Honest}
use Rattle.policy.specs.Runs.{Keeps, KeepsSlips, Reaches, reach}
use Rattle.policy.specs.Tests.{fits_allb, honestb}
use Rattle.policy.specs.Tallies.{verdict, test_of}
use Rattle.policy.proofs.Counts.{fits_trans, fits_within}
use Rattle.policy.proofs.Bounds.{uses_within}
use Rattle.policy.proofs.Reached.{reaches}
use Rattle.policy.proofs.Tests.{both_test, fits_all_test, honest_test}

-- what some run reaches is allowed, where the program keeps what is allowed
kept : {allowed : Policy} {p : Program} {α n : ℕ} → Keeps allowed p → Reaches p α n → Within n (allowed α)
kept {α = α} k (reach r h) = fits_trans (enough h) (k _ _ r α)

-- no run uses a name more often than allowed exactly if the needs fit
pub exact : (allowed : Policy) (p : Program) → Keeps allowed p ↔ FitsAll allowed p
exact allowed p =
    (λ k α. fits_within (need p α) (allowed α) (λ n w. kept k (reaches p α n w)), λ f σ p' r α. fits_trans (uses_within α r) (f α))

everywhere : {Q R : Slip → Program → Type 0} → ((slip : Slip) (p : Program) → Q slip p → R slip p) → (p : Program) → Everywhere Q p → Everywhere R p
everywhere f end h = tt
everywhere f (act a p) h = everywhere f p h
everywhere f (split p q) h = (everywhere f p h.0, everywhere f q h.1)
everywhere f (repeat p) h = everywhere f p h
everywhere f (depart c slip p) h = (f slip p h.0, everywhere f p h.1)

-- each carried program, at any depth, keeps its slip exactly if the program is honest
pub exact_honest : (p : Program) → KeepsSlips p ↔ Honest p
exact_honest p = (everywhere (λ slip q. (exact (slip_allows slip) q).0) p, everywhere (λ slip q. (exact (slip_allows slip) q).1) p)

-- the verdict is that the code passed exactly if both tests pass
passed : (honest fits : Bool) → (verdict honest fits ≡ Ok tt) ↔ T (honest && fits)
passed true true = (λ e. tt, λ t. refl)
passed true false = (λ e. let no : ⊥ = cc in absurd no, λ t. absurd t)
passed false fits = (λ e. let no : ⊥ = cc in absurd no, λ t. absurd t)

-- the test passes exactly if no run uses a name more often than allowed, and each carried program, at any depth, keeps its slip
pub passes_exactly : (allowed : Policy) (p : Program) (m : ℕ) → (test_of allowed (whole p m) ≡ Ok tt) ↔ (KeepsSlips p × Keeps allowed p)
passes_exactly allowed p m = Iff.trans (passed (honestb p) (fits_allb allowed p)) (both_test (honestb p) (fits_allb allowed p) slips keeps)
  where
    slips : T (honestb p) ↔ KeepsSlips p
    slips = Iff.trans (honest_test p) (Iff.symm (exact_honest p))

    keeps : T (fits_allb allowed p) ↔ Keeps allowed p
    keeps = Iff.trans (fits_all_test allowed p) (Iff.symm (exact allowed p))
