-- The tests that compute say what the statements say.
use Prim.Native.Nat.{ℕ}
use mathlib.Core.Path.{◌≡◌, refl}
use mathlib.Core.Bool.{Bool, true, false, ◌&&◌}
use mathlib.Core.List.Memᴰ
use mathlib.Core.List.{List, [], ◌∷◌, Memᴰ}
use mathlib.Core.Logic.Iff
use mathlib.Core.Logic.{◌↔◌, ◌⊎◌, inl, inr}
use lib.Dec.{T, eqb, leb→le, le→leb}
use native.Mathlib.Omega.{arith}
use Rattle.std.proofs.lemmas.Bool.Decides.{nat_tests}
use Rattle.program.specs.Tree.{Slip, entry, Program, end, act, split, repeat, depart}
use Rattle.policy.specs.Counts.{Count, finite, unlimited, Fits, always, enough, Policy, Enforces, slip_allows}
use Rattle.policy.specs.Needs.{need, FitsAll, Honest}
use Rattle.policy.specs.Tests.{fitsb, fits_on, names, fits_allb, honestb, slip_names, slip_fitsb}
use Rattle.policy.proofs.Counts.{fits_nothing}

pub fits_test : (c d : Count) → T (fitsb c d) ↔ Fits c d
fits_test c d = (to c d, from c d)
  where
    to : (c d : Count) → T (fitsb c d) → Fits c d
    to c unlimited t = always
    to (finite m) (finite n) t = enough (leb→le m n t)
    to unlimited (finite n) t = absurd t

    from : (c d : Count) → Fits c d → T (fitsb c d)
    from c unlimited f = tt
    from (finite m) (finite n) (enough h) = le→leb m n h
    from unlimited (finite n) f = elim f [ ]

pub both_test : {A B : Type 0} (a b : Bool) → T a ↔ A → T b ↔ B → T (a && b) ↔ (A × B)
both_test true b e f = (λ t. (e.0 tt, f.0 t), λ h. f.1 h.1)
both_test false b e f = (λ t. absurd t, λ h. e.1 h.0)

-- U has no name but those of a list
abbrev Only : List ℕ → Policy → Type 0
Only l U = (α : ℕ) → (U α ≡ finite 0) ⊎ Memᴰ α l

-- so to fit at these names is to fit
fits_on_test : (l : List ℕ) (U allowed : Policy) → Only l U → T (fits_on l U allowed) ↔ Enforces U allowed
fits_on_test l U allowed only = (λ t α. elim (only α) [ inl e ↦ rw e (fits_nothing (allowed α)) | inr m ↦ at m t ], all l)
  where
    head_and : (α : ℕ) (l : List ℕ) → T (fits_on (α ∷ l) U allowed) ↔ (Fits (U α) (allowed α) × T (fits_on l U allowed))
    head_and α l = both_test (fitsb (U α) (allowed α)) (fits_on l U allowed) (fits_test (U α) (allowed α)) Iff.rfl

    at : {α : ℕ} {l : List ℕ} → Memᴰ α l → T (fits_on l U allowed) → Fits (U α) (allowed α)
    at (Memᴰ.head {x = x} {xs = l} e) t = rw e ((head_and x l).0 t).0
    at (Memᴰ.tail {x = x} {xs = l} m) t = at m ((head_and x l).0 t).1

    all : (l : List ℕ) → Enforces U allowed → T (fits_on l U allowed)
    all [] f = tt
    all (α ∷ l) f = (head_and α l).1 (f α, all l f)

-- two names differ, or they are the same
pub apart : (a α : ℕ) → (eqb a α ≡ false) ⊎ (α ≡ a)
apart a α = grind (arith, nat_tests)

needs_only : (p : Program) → Only (names p) (need p)
needs_only end α = inl refl
needs_only (act a p) α = elim (apart a.0 α)
    [ inl h ↦ elim (needs_only p α) [ inl e ↦ inl (rw (h, e)) | inr m ↦ inr (Memᴰ.tail m) ] | inr e ↦ inr (Memᴰ.head e) ]
needs_only (split p q) α = elim (needs_only p α)
    [ inl h ↦ elim (needs_only q α) [ inl e ↦ inl (rw (h, e)) | inr m ↦ inr (Memᴰ.append_right (names p) m) ] | inr m ↦ inr (Memᴰ.append_left (names q) m) ]
needs_only (repeat p) α = elim (needs_only p α) [ inl e ↦ inl (rw e) | inr m ↦ inr m ]
needs_only (depart c slip p) α = elim (apart c.0 α) [ inl h ↦ inl (rw h) | inr e ↦ inr (Memᴰ.head e) ]

slip_only : (slip : Slip) → Only (slip_names slip) (slip_allows slip)
slip_only [] α = inl refl
slip_only (entry name count ∷ slip) α = elim (apart name α)
    [ inl h ↦ elim (slip_only slip α) [ inl e ↦ inl (rw (h, e)) | inr m ↦ inr (Memᴰ.tail m) ] | inr e ↦ inr (Memᴰ.head e) ]

pub fits_all_test : (allowed : Policy) (p : Program) → T (fits_allb allowed p) ↔ FitsAll allowed p
fits_all_test allowed p = fits_on_test (names p) (need p) allowed (needs_only p)

pub slip_test_lem : (allowed : Policy) (slip : Slip) → T (slip_fitsb allowed slip) ↔ Enforces (slip_allows slip) allowed
slip_test_lem allowed slip = fits_on_test (slip_names slip) (slip_allows slip) allowed (slip_only slip)

pub honest_test : (p : Program) → T (honestb p) ↔ Honest p
honest_test end = Iff.rfl
honest_test (act a p) = honest_test p
honest_test (split p q) = both_test (honestb p) (honestb q) (honest_test p) (honest_test q)
honest_test (repeat p) = honest_test p
honest_test (depart c slip p) = both_test (fits_allb (slip_allows slip) p) (honestb p) (fits_all_test (slip_allows slip) p) (honest_test p)
