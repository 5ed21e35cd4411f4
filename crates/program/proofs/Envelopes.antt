-- What a right envelope is, and each fault. Assumes nothing.
use mathlib.Core.Path.{◌≡◌, refl, subst}
use mathlib.Core.Logic.{inl, inr, ◌↔◌}
use mathlib.Core.List.{List}
use mathlib.Core.Bool.{Bool, true, false, cond, not, ◌||◌}
use Prim.Native.Nat.{ℕ, ◌+◌, ◌≤◌}
use native.Mathlib.Omega.{arith}
use lib.ListN.{length, get_or}
use lib.Dec.{eqb, ltb}
use borrow.Author.Tests.{ltb-true, ltb-false, eqb-true, eqb-false}
use Rattle.std.proofs.Common.{Result, Ok, Err}
use Rattle.std.specs.Prelude.{⊤}
use Rattle.program.specs.declared.envelope.EnvelopeFault.{EnvelopeFault}
use Rattle.program.specs.declared.envelope.EnvelopeFault.TheVariants.{Fewer, Length, Version}
use Rattle.program.specs.Envelope.{stated, envelope, Means}

-- each answer says what the table says of its number
pub envelope_means : (least most : ℕ) (bytes : List ℕ) → Means least most bytes (envelope least most bytes)
unfolding envelope
envelope_means least most bytes =
    go (ltb (length bytes) 2) (ltb (stated bytes) least) (ltb most (stated bytes)) (ltb (length bytes) (2 + stated bytes)) (ltb (2 + stated bytes) (length bytes))
    (eqb (get_or bytes 2 0) 1) refl refl refl refl refl refl
  where
    both : ltb (length bytes) (2 + stated bytes) ≡ false → ltb (2 + stated bytes) (length bytes) ≡ false → length bytes ≡ 2 + stated bytes
    both s b =
        let enough = ltb-false (length bytes) (2 + stated bytes) s in
        let exact = ltb-false (2 + stated bytes) (length bytes) b in
        omega arith

    go : (few low high short long one : Bool) → ltb (length bytes) 2 ≡ few → ltb (stated bytes) least ≡ low → ltb most (stated bytes) ≡ high →
        ltb (length bytes) (2 + stated bytes) ≡ short → ltb (2 + stated bytes) (length bytes) ≡ long → eqb (get_or bytes 2 0) 1 ≡ one →
        Means least most bytes (cond few (Err Fewer) (cond (low || high) (Err Length) (cond short (Err Fewer) (cond long (Err Length) (cond (not one) (Err Version) (Ok tt))))))
    go true low high short long one f l h s b o = inl (ltb-true _ _ f)
    go false true high short long one f l h s b o = (ltb-false _ _ f, inl (ltb-true _ _ l))
    go false false true short long one f l h s b o = (ltb-false _ _ f, inr (inl (ltb-true _ _ h)))
    go false false false true long one f l h s b o = inr (ltb-false _ _ l, ltb-false _ _ h, ltb-true _ _ s)
    go false false false false true one f l h s b o = (ltb-false _ _ f, inr (inr (ltb-true _ _ b)))
    go false false false false false false f l h s b o =
        (ltb-false _ _ l, ltb-false _ _ h, both s b, eqb-false _ _ o)
    go false false false false false true f l h s b o =
        (ltb-false _ _ l, ltb-false _ _ h, both s b, eqb-true _ _ o)

-- and no two answers say so of the same bytes
module _ (least most : ℕ) (bytes : List ℕ) where
  exact_not_fewer : (length bytes ≡ 2 + stated bytes) → Means least most bytes (Err Fewer) → ⊥
  exact_not_fewer e (inl h) = omega arith
  exact_not_fewer e (inr h) = omega arith

  exact_not_length : least ≤ stated bytes → stated bytes ≤ most → (length bytes ≡ 2 + stated bytes) → Means least most bytes (Err Length) → ⊥
  exact_not_length l u e (two, inl h) = omega arith
  exact_not_length l u e (two, inr (inl h)) = omega arith
  exact_not_length l u e (two, inr (inr h)) = omega arith

  fewer_not_length : Means least most bytes (Err Fewer) → Means least most bytes (Err Length) → ⊥
  fewer_not_length (inl h) m = omega (arith, m.0)
  fewer_not_length (inr (l, u, h)) (two, inl x) = omega arith
  fewer_not_length (inr (l, u, h)) (two, inr (inl x)) = omega arith
  fewer_not_length (inr (l, u, h)) (two, inr (inr x)) = omega arith

  one_answer : (x y : Result ⊤ EnvelopeFault) → Means least most bytes x → Means least most bytes y → x ≡ y
  one_answer (Ok a) (Ok b) m n = refl
  one_answer (Ok a) (Err Fewer) m n = absurd (exact_not_fewer m.2 n)
  one_answer (Ok a) (Err Length) m n = absurd (exact_not_length m.0 m.1 m.2 n)
  one_answer (Ok a) (Err Version) m n = absurd (n.3 m.3)
  one_answer (Err Fewer) (Ok b) m n = absurd (exact_not_fewer n.2 m)
  one_answer (Err Fewer) (Err Fewer) m n = refl
  one_answer (Err Fewer) (Err Length) m n = absurd (fewer_not_length m n)
  one_answer (Err Fewer) (Err Version) m n = absurd (exact_not_fewer n.2 m)
  one_answer (Err Length) (Ok b) m n = absurd (exact_not_length n.0 n.1 n.2 m)
  one_answer (Err Length) (Err Fewer) m n = absurd (fewer_not_length n m)
  one_answer (Err Length) (Err Length) m n = refl
  one_answer (Err Length) (Err Version) m n = absurd (exact_not_length n.0 n.1 n.2 m)
  one_answer (Err Version) (Ok b) m n = absurd (m.3 n.3)
  one_answer (Err Version) (Err Fewer) m n = absurd (exact_not_fewer m.2 n)
  one_answer (Err Version) (Err Length) m n = absurd (exact_not_length m.0 m.1 m.2 n)
  one_answer (Err Version) (Err Version) m n = refl

  pub envelope_exactly : (x : Result ⊤ EnvelopeFault) → (envelope least most bytes ≡ x) ↔ Means least most bytes x
  envelope_exactly x = (λ e. subst (Means least most bytes) e (envelope_means least most bytes), one_answer (envelope least most bytes) x (envelope_means least most bytes))
