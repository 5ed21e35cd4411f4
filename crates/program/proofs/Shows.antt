-- From a result back to what was found: of a whole value what is made of it, of a fault the fault alone. Assumes nothing.
use mathlib.Core.Path.{◌≡◌, refl, sym, ap, ◌∙◌}
use mathlib.Core.List.{List}
use Prim.Native.Nat.{ℕ, ◌+◌, ◌-◌, ◌<◌}
use native.Mathlib.Omega.{arith}
use Rattle.std.proofs.Common.{Ok, Err}
use Rattle.std.proofs.lemmas.Bool.Decides.{nat_tests}
use Rattle.program.specs.declared.reader.Fault.{Fault}
use Rattle.program.specs.declared.reader.Fault.TheVariants.{Cut, Bad}
use Rattle.program.specs.Reading.{Found, whole, cut, bad, and_then, judge, byte_at, entry_at, slip_at}
use Rattle.program.specs.Shown.{shown_by, shown, shown_byte}
use Rattle.program.proofs.Parts.{slip_step}

-- what was found where there is a fault
abbrev pub failed : {A : Type 0} → Fault → Found A
failed Cut = cut
failed (Bad o) = bad o

module _ {A B : Type 0} (f : A → ℕ → B) where
  pub is_ok : {b : B} (o : Found A) → shown_by f o ≡ Ok b → (a : A) × (m : ℕ) × (o ≡ whole a m) × (f a m ≡ b)
  is_ok (whole a m) e = (a, m, refl, cc)
  is_ok cut e = cc
  is_ok (bad o) e = cc

  pub is_err : {e : Fault} (o : Found A) → shown_by f o ≡ Err e → o ≡ failed e
  is_err (whole a m) h = cc
  is_err {e = Cut} cut h = refl
  is_err {e = Bad x} cut h = cc
  is_err {e = Cut} (bad o) h = cc
  is_err {e = Bad x} (bad o) h = let i : o ≡ x = cc in ap bad i

  pub err_of : {o : Found A} (e : Fault) → o ≡ failed e → shown_by f o ≡ Err e
  err_of Cut h = ap (shown_by f) h
  err_of (Bad x) h = ap (shown_by f) h

-- after a fault nothing is read
pub then_failed : {A B : Type 0} {o : Found A} (e : Fault) (f : A → ℕ → Found B) → o ≡ failed e → and_then o f ≡ failed e
unfolding and_then
then_failed Cut f h = ap (λ x. and_then x f) h
then_failed (Bad o) f h = ap (λ x. and_then x f) h

-- what is put around a whole value does not show
pub shown_then : {A B : Type 0} (o : Found A) (f : A → ℕ → B) → shown (and_then o (λ a m. whole (f a m) m)) ≡ shown o
unfolding and_then
shown_then (whole a m) f = refl
shown_then cut f = refl
shown_then (bad o) f = refl

-- from a program's end back to the program
pub is_whole : {A : Type 0} {m : ℕ} (o : Found A) → shown o ≡ Ok m → (a : A) × (o ≡ whole a m)
is_whole o e = let w = is_ok _ o e in (w.0, w.2 ∙ ap (whole w.0) w.3)

-- what is read of a byte goes on with it
pub byte_ok : {A : Type 0} {b : ℕ} (s : List ℕ) (k lo hi : ℕ) (f : ℕ → Found A) → shown_byte s k lo hi ≡ Ok b → byte_at s k lo hi f ≡ f b
unfolding byte_at judge
byte_ok s k lo hi f e = grind (arith, nat_tests)

-- a slip's entry read, and those after it: one less of them, from the entry's end
pub slip_next : {name count : ℕ} (s : List ℕ) (n low k left : ℕ) → 0 < n → shown_byte s k low 32 ≡ Ok name → shown_byte s (k + 1) 1 256 ≡ Ok count →
    left ≡ n - 1 → shown (slip_at s left (name + 1) (k + 1 + 1)) ≡ shown (slip_at s n low k)
unfolding entry_at
slip_next {name} s n low k left h i j e =
    rw e (sym (ap shown (slip_step s n low k h ∙ byte_ok s k low 32 _ i ∙ byte_ok s (k + 1) 1 256 _ j)
    ∙ shown_then (slip_at s (n - 1) (name + 1) (k + 1 + 1)) _))
