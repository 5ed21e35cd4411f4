-- The comparisons that the code makes of 32 bytes are the tests: needs against a policy, needs against a slip, a slip against a policy.
use Prim.Native.Nat.{ℕ, suc, ◌+◌, ◌≤◌, ◌<◌}
use mathlib.Core.Path.{◌≡◌, refl, sym, ap, ◌∙◌}
use mathlib.Core.Bool.{Bool, true, false}
use mathlib.Core.List.{List, [], ◌∷◌}
use mathlib.Core.Logic.{◌↔◌, inl, inr}
use native.Mathlib.Omega.{arith}
use lib.Dec.{T}
use lib.ListN.{length, get_or, set, length-set, length-replicate, get_or-replicate}
use lib.Seq.{get_or-set_same, get_or-set_other}
use borrow.Author.Tests.{lt-ltb, eqb-false, eq-eqb, ne_eqb}
use Rattle.std.proofs.lemmas.Bool.Decides.{nat_tests}
use Rattle.program.specs.declared.names.Controller.{Controller}
use Rattle.program.specs.Tree.{Slip, entry, entries, Rising, Good, Stands, Program, end, act, split, repeat, depart}
use Rattle.program.specs.Reading.{whole, head_at}
use Rattle.program.proofs.Stands.{first}
use Rattle.program.proofs.Parts.{head_is}
use Rattle.policy.specs.Counts.{Count, finite, count_of, slip_allows, policy_allows}
use Rattle.policy.specs.Needs.{same, need}
use Rattle.policy.specs.Tests.{fits_allb, slip_fitsb}
use Rattle.policy.specs.Bytes.{byte_of, need_bytes, none, fits_bytes, slip_counts}
use Rattle.policy.specs.Tallies.{slip_test}
use Rattle.policy.proofs.Tests.{apart, fits_all_test, slip_test_lem}
use Rattle.policy.proofs.Bytes.{byte_count, table_at, Counted, Allows, bytes_test}

-- a name beyond the 32 is neither needed nor allowed
same_not : (a α : ℕ) → a < α → same a α ≡ 0
same_not a α h = grind (arith, nat_tests)

need_beyond : (p : Program) (α : ℕ) → Good p → 32 ≤ α → need p α ≡ finite 0
unfolding Good
need_beyond end α g h = refl
need_beyond (act a p) α g h = rw (same_not a.0 α (omega arith), need_beyond p α g.1 h)
need_beyond (split p q) α g h = rw (need_beyond p α g.0 h, need_beyond q α g.1 h)
need_beyond (repeat p) α g h = rw (need_beyond p α g h)
need_beyond (depart c slip p) α g h = rw (same_not c.0 α (omega arith))

slip_beyond : (slip : Slip) (low α : ℕ) → Rising low slip → 32 ≤ α → slip_allows slip α ≡ finite 0
unfolding Rising
slip_beyond [] low α g h = refl
slip_beyond (entry name count ∷ slip) low α g h = rw (ne_eqb name α (λ e. omega arith)) (slip_beyond slip (name + 1) α g.4 h)

-- an entry that stands there is counted, and then the others
entry_counts : (s xs : List ℕ) (name count n k m : ℕ) (counts : List ℕ) → name < 32 → Stands s k (name ∷ count ∷ xs) m →
    (slip_counts s (suc n) k counts ≡ slip_counts s n (k + 1 + 1) (set counts name count)) × Stands s (k + 1 + 1) xs m
unfolding slip_counts
entry_counts s xs name count n k m counts h t =
    let a = first t in
    let b = first a.2 in
    (rw (lt-ltb (k + 1) (length s) b.0, a.1, b.1, lt-ltb name 32 h), b.2)

-- names rise, so later entries leave what is below them
kept : (s : List ℕ) (slip : Slip) (low k m : ℕ) (counts : List ℕ) (α : ℕ) → Rising low slip → Stands s k (entries slip) m → α < low →
    get_or (slip_counts s (length slip) k counts) α 0 ≡ get_or counts α 0
unfolding Rising entries slip_counts
kept s [] low k m counts α g t h = refl
kept s (entry name count ∷ slip) low k m counts α g t h =
    let e = entry_counts s (entries slip) name count (length slip) k m counts g.1 t in
    ap (λ l. get_or l α 0) e.0 ∙ kept s slip (name + 1) (k + 1 + 1) m (set counts name count) α g.4 e.1 (omega arith)
    ∙ get_or-set_other counts name α count 0 (λ q. omega arith)

-- what is counted of a name is a byte, and what the slip allows of it
abbrev Is : Count → ℕ → Type 0
Is c b = (c ≡ count_of b) × (b < 256)

slip_at : (s : List ℕ) (slip : Slip) (low k m : ℕ) (counts : List ℕ) (α : ℕ) → Rising low slip → Stands s k (entries slip) m → length counts ≡ 32 →
    get_or counts α 0 ≡ 0 → Is (slip_allows slip α) (get_or (slip_counts s (length slip) k counts) α 0)
unfolding Rising entries slip_counts
slip_at s [] low k m counts α g t l e = rw e (refl, omega arith)
slip_at s (entry name count ∷ slip) low k m counts α g t l e =
    let c = entry_counts s (entries slip) name count (length slip) k m counts g.1 t in
    elim (apart name α) [
      | inl h ↦ rw (c.0, h) (slip_at s slip (name + 1) (k + 1 + 1) m (set counts name count) α g.4 c.1 (length-set counts name count ∙ l)
          (get_or-set_other counts name α count 0 (λ q. eqb-false name α h (sym q)) ∙ e))
      | inr q ↦ rw (c.0, q, eq-eqb name name refl, kept s slip (name + 1) (k + 1 + 1) m (set counts name count) name g.4 c.1 (omega arith), get_or-set_same counts name count 0 (omega arith)) (refl, g.3)
    ]

need_counted : (p : Program) → Good p → Counted (need_bytes p) (need p)
need_counted p g = record { here = λ α l. table_at (λ α. byte_of (need p α)) 32 α l; beyond = λ α h. need_beyond p α g h }

policy_allows_lem : (policy : List ℕ) → Allows policy (policy_allows policy)
policy_allows_lem policy α l = refl

same_test : {A : Type 0} (a b : Bool) → T a ↔ A → T b ↔ A → a ≡ b
same_test true true e f = refl
same_test true false e f = absurd (f.1 (e.0 tt))
same_test false true e f = absurd (e.1 (f.0 tt))
same_test false false e f = refl

-- needs against a policy
pub code_fits : (policy : List ℕ) (p : Program) → Good p → fits_bytes (need_bytes p) policy ≡ fits_allb (policy_allows policy) p
code_fits policy p g =
    same_test _ _ (bytes_test (need_bytes p) policy (need p) (policy_allows policy) (need_counted p g) (policy_allows_lem policy)) (fits_all_test (policy_allows policy) p)

-- the slip of a departure whose controller's byte stands at k
module _ (s : List ℕ) (k m : ℕ) {c : Controller} (slip : Slip) (read : head_at s k ≡ whole (c, slip) m) where
  counts : List ℕ
  counts = slip_counts s (length slip) (k + 1 + 1) none

  counts_is : (α : ℕ) → α < 32 → Is (slip_allows slip α) (get_or counts α 0)
  unfolding counts
  counts_is α l =
      let h = head_is s k read in
      let t = (first (first h.0).2).2 in
      slip_at s slip 0 (k + 1 + 1) m none α h.1.2 t (length-replicate {A = ℕ} 32 0) (get_or-replicate 32 α 0 0 l)

  -- needs against a slip
  pub carried_fits : (p : Program) → Good p → fits_bytes (need_bytes p) (slip_counts s (length slip) (k + 1 + 1) none) ≡ fits_allb (slip_allows slip) p
  unfolding counts
  carried_fits p g =
      same_test _ _ (bytes_test (need_bytes p) counts (need p) (slip_allows slip) (need_counted p g) (λ α l. (counts_is α l).0)) (fits_all_test (slip_allows slip) p)

  -- a slip against a policy
  pub slip_fits : (policy : List ℕ) → slip_test s (k + 1 + 1) (length slip) policy ≡ slip_fitsb (policy_allows policy) slip
  unfolding counts
  slip_fits policy = same_test _ _ (bytes_test counts policy (slip_allows slip) (policy_allows policy) counted (policy_allows_lem policy)) (slip_test_lem (policy_allows policy) slip)
    where
      counted : Counted counts (slip_allows slip)
      counted = record {
        here = λ α l. sym (ap byte_of (counts_is α l).0 ∙ byte_count (get_or counts α 0) (counts_is α l).1);
        beyond = λ α h. slip_beyond slip 0 α (head_is s k read).1.2 h;
      }
