-- What one byte's check gives, and what comes after a value: forwards from the tests, and back from a whole answer. Assumes nothing.
use mathlib.Core.Path.{◌≡◌, refl, ap, subst₂}
use mathlib.Core.List.{List}
use Prim.Native.Nat.{ℕ, ◌≤◌, ◌<◌}
use lib.ListN.{length, get_or}
use native.Mathlib.Omega.{arith}
use Rattle.std.proofs.lemmas.Bool.Decides.{nat_tests}
use Rattle.program.specs.Reading.{Found, whole, cut, bad, and_then, judge, byte_at}

module _ {A : Type 0} (s : List ℕ) (k lo hi : ℕ) (f : ℕ → Found A) where
  pub byte_cut : length s ≤ k → byte_at s k lo hi f ≡ cut
  unfolding byte_at judge
  byte_cut h = grind (arith, nat_tests)

  pub byte_is : k < length s → lo ≤ get_or s k 0 → get_or s k 0 < hi → byte_at s k lo hi f ≡ f (get_or s k 0)
  unfolding byte_at judge
  byte_is h l u = grind (arith, nat_tests)

-- equal whole answers have equal values and offsets
pub whole_as : {A : Type 0} {x y : A} {j m : ℕ} (P : A → ℕ → Type 0) → whole x j ≡ whole y m → P x j → P y m
whole_as {x = x} {y = y} {j = j} {m = m} P e t =
    let p : x ≡ y = cc in
    let q : j ≡ m = cc in
    subst₂ P p q t

-- a whole answer: the byte's check was passed
pub byte_inv : {A : Type 0} {v : A} {m : ℕ} (s : List ℕ) (k lo hi : ℕ) (f : ℕ → Found A) → byte_at s k lo hi f ≡ whole v m →
    (k < length s) × (lo ≤ get_or s k 0) × (get_or s k 0 < hi) × (f (get_or s k 0) ≡ whole v m)
unfolding byte_at judge
byte_inv s k lo hi f e = grind (arith, nat_tests)

-- a whole answer: what came first was whole
pub then_inv : {A B : Type 0} {v : B} {e : ℕ} (o : Found A) (f : A → ℕ → Found B) → and_then o f ≡ whole v e →
    (a : A) × (m : ℕ) × (o ≡ whole a m) × (f a m ≡ whole v e)
unfolding and_then
then_inv (whole a m) f h = (a, m, refl, h)
then_inv cut f h = cc
then_inv (bad o) f h = cc

pub then_is : {A B : Type 0} {a : A} {m : ℕ} {o : Found A} (f : A → ℕ → Found B) → o ≡ whole a m → and_then o f ≡ f a m
unfolding and_then
then_is f e = ap (λ x. and_then x f) e

-- what comes after a value is asked only where that value is whole
pub then_same : {A B : Type 0} (o : Found A) {f g : A → ℕ → Found B} → ((a : A) (m : ℕ) → o ≡ whole a m → f a m ≡ g a m) → and_then o f ≡ and_then o g
unfolding and_then
then_same (whole a m) h = h a m refl
then_same cut h = refl
then_same (bad o) h = refl
