-- Counts as bytes: the plain comparison of bytes is exact, for programs of any length.
use Prim.Native.Nat.{ℕ, zero, suc, ◌≤◌, ◌<◌}
use mathlib.Core.Path.{◌≡◌, refl, ap}
use mathlib.Core.Bool.{Bool}
use mathlib.Core.List.{List}
use mathlib.Core.Logic.Iff
use mathlib.Core.Logic.{◌↔◌, ◌⊎◌, inl, inr}
use native.Mathlib.Decide.{dec_lt}
use native.Mathlib.Omega.{arith}
use lib.Dec.{T, leb→le, le→leb}
use lib.ListN.{length, get_or}
use Rattle.std.proofs.lemmas.Bool.Decides.{nat_tests}
use Rattle.policy.specs.Counts.{Count, finite, unlimited, count_of, join, Fits, always, enough, Policy, Enforces}
use Rattle.policy.specs.Bytes.{byte_of, join_byte, table, below, fits_bytes}
use Rattle.policy.proofs.Counts.{fits_nothing}
use Rattle.policy.proofs.Tests.{both_test}

-- saturated sums: no need to know how long the program is
pub byte_join : (c d : Count) → byte_of (join c d) ≡ join_byte (byte_of c) (byte_of d)
byte_join (finite m) (finite n) = omega arith
byte_join (finite m) unlimited = omega arith
byte_join unlimited d = omega arith

at_most : (c : Count) → byte_of c ≤ 255
at_most (finite n) = omega arith
at_most unlimited = omega arith

-- a byte is a number below 255, or unlimited
count_is : (b : ℕ) → ((b < 255) × (count_of b ≡ finite b)) ⊎ ((255 ≤ b) × (count_of b ≡ unlimited))
count_is b = grind (arith, nat_tests)

pub byte_count : (b : ℕ) → b < 256 → byte_of (count_of b) ≡ b
byte_count b h = grind (arith, nat_tests, count_is)

-- a count fits a byte's exactly if its own byte is not above it
pub fits_byte : (c : Count) (b : ℕ) → Fits c (count_of b) ↔ (byte_of c ≤ b)
fits_byte c b = elim (count_is b) [ inl n ↦ rw n.1 (to c, from c n.0) | inr u ↦ rw u.1 (λ f. omega (arith, at_most c), λ h. always) ]
  where
    to : (c : Count) → Fits c (finite b) → byte_of c ≤ b
    to (finite n) (enough h) = omega arith
    to unlimited f = elim f [ ]

    from : (c : Count) → b < 255 → byte_of c ≤ b → Fits c (finite b)
    from (finite n) l h = enough {m = n} {n = b} (omega arith)
    from unlimited l h = absurd (omega arith)

-- a table has what its function gives
pub table_length : (f : ℕ → ℕ) (n : ℕ) → length (table f n) ≡ n
unfolding table
table_length f zero = refl
table_length f (suc n) = ap suc (table_length (λ i. f (suc i)) n)

pub table_at : (f : ℕ → ℕ) (n i : ℕ) → i < n → get_or (table f n) i 0 ≡ f i
unfolding table
table_at f zero i h = absurd (omega arith)
table_at f (suc n) zero h = refl
table_at f (suc n) (suc i) h = table_at (λ i. f (suc i)) n i (omega arith)

-- a test of all numbers below n
last_test : {P : ℕ → Type 0} (n : ℕ) → (((i : ℕ) → i < n → P i) × P n) ↔ ((i : ℕ) → i < suc n → P i)
last_test {P} n = (λ k i h. one k i (dec_lt i n) h, λ k. (λ i l. k i (omega arith), k n (omega arith)))
  where
    one : ((i : ℕ) → i < n → P i) × P n → (i : ℕ) → Dec (i < n) → i < suc n → P i
    one k i (yes l) h = k.0 i l
    one k i (no l) h = let e : i ≡ n = omega arith in rw e k.1

below_test : {P : ℕ → Type 0} (f : ℕ → Bool) → ((i : ℕ) → T (f i) ↔ P i) → (n : ℕ) → T (below n f) ↔ ((i : ℕ) → i < n → P i)
unfolding below
below_test f e zero = (λ t i h. absurd (omega arith), λ h. tt)
below_test f e (suc n) = Iff.trans (both_test (below n f) (f n) (below_test f e n) (e n)) (last_test n)

-- 32 bytes that say what is needed, and that nothing else is; 32 bytes that say what is allowed
pub record Counted (counts : List ℕ) (U : Policy) : Type 0 where
  pub here : (α : ℕ) → α < 32 → get_or counts α 0 ≡ byte_of (U α)
  pub beyond : (α : ℕ) → 32 ≤ α → U α ≡ finite 0

abbrev pub Allows : List ℕ → Policy → Type 0
Allows allowed U = (α : ℕ) → α < 32 → U α ≡ count_of (get_or allowed α 0)

-- so to compare the bytes of 32 names is to compare needs with what is allowed
pub bytes_test : (counts allowed : List ℕ) (U W : Policy) → Counted counts U → Allows allowed W → T (fits_bytes counts allowed) ↔ Enforces U W
bytes_test counts allowed U W needs lets =
    (λ t α. one α (dec_lt α 32) (all.0 t), λ f. all.1 (λ α l. rw (needs.here α l) ((fits_byte (U α) (get_or allowed α 0)).0 (rw (lets α l) at (f α)))))
  where
    all : T (fits_bytes counts allowed) ↔ ((α : ℕ) → α < 32 → get_or counts α 0 ≤ get_or allowed α 0)
    all = below_test _ (λ α. (leb→le (get_or counts α 0) (get_or allowed α 0), le→leb (get_or counts α 0) (get_or allowed α 0))) 32

    one : (α : ℕ) → Dec (α < 32) → ((α : ℕ) → α < 32 → get_or counts α 0 ≤ get_or allowed α 0) → Fits (U α) (W α)
    one α (yes l) h = rw (lets α l) ((fits_byte (U α) (get_or allowed α 0)).1 (rw (needs.here α l) at (h α l)))
    one α (no l) h = rw (needs.beyond α (omega arith)) (fits_nothing (W α))
