-- The pigeonhole: where each member of a list has at most one number, a list that has m different numbers has at least m members. Assumes nothing.
use Rattle.std.proofs.Common.{◌≡◌, ℕ, zero, suc, ◌<◌, ◌≤◌, Bool, true, false, cond, ◌||◌, List, [], ◌∷◌, length, sym, refl, ap, zero-le, arith}
use Rattle.std.specs.List.{list_any}
use Rattle.rules.proofs.Rows.{never}

module _ {X : Type 0} (has : ℕ → X → Bool) where
  -- the list without its first member that has p
  without : List X → ℕ → List X
  without [] p = []
  without (t ∷ ts) p = cond (has p t) ts (t ∷ without ts p)

  shorter_case : (b c : Bool) (t : X) (ts rest : List X) → (c ≡ true → length ts ≡ suc (length rest)) → (b || c) ≡ true →
      suc (length ts) ≡ suc (length (cond b ts (t ∷ rest)))
  shorter_case true c t ts rest ih h = refl
  shorter_case false c t ts rest ih h = ap suc (ih h)

  shorter : (ts : List X) (p : ℕ) → list_any (has p) ts ≡ true → length ts ≡ suc (length (without ts p))
  unfolding without
  shorter [] p h = never h
  shorter (t ∷ ts) p h = shorter_case (has p t) (list_any (has p) ts) t ts (without ts p) (shorter ts p) h

  other_case : (b d : Bool) (t : X) (ts rest : List X) (q : ℕ) → has q t ≡ d → (b ≡ true → d ≡ true → ⊥) → (list_any (has q) ts ≡ true → list_any (has q) rest ≡ true) →
      (d || list_any (has q) ts) ≡ true → list_any (has q) (cond b ts (t ∷ rest)) ≡ true
  other_case true true t ts rest q e un ih h = absurd (un refl refl)
  other_case true false t ts rest q e un ih h = h
  other_case false true t ts rest q e un ih h = rw e
  other_case false false t ts rest q e un ih h = rw e (ih h)

  module _ (one : (t : X) (p q : ℕ) → has p t ≡ true → has q t ≡ true → p ≡ q) where
    other : (ts : List X) (p q : ℕ) → (p ≡ q → ⊥) → list_any (has q) ts ≡ true → list_any (has q) (without ts p) ≡ true
    unfolding without
    other [] p q ne h = never h
    other (t ∷ ts) p q ne h = other_case (has p t) (has q t) t ts (without ts p) q refl (λ x y. ne (one t p q x y)) (other ts p q ne) h

    pub pigeonhole : (m : ℕ) (f : ℕ → ℕ) (ts : List X) → ((j k : ℕ) → j < k → k < m → f j ≡ f k → ⊥) → ((k : ℕ) → k < m → list_any (has (f k)) ts ≡ true) →
        m ≤ length ts
    pigeonhole zero f ts inj all = zero-le
    pigeonhole (suc m) f ts inj all =
        let less : m ≤ length (without ts (f m)) =
        pigeonhole m f (without ts (f m)) (λ j k l u. inj j k l (omega arith))
        (λ k u. other ts (f m) (f k) (λ e. inj k m u (omega arith) (sym e)) (all k (omega arith))) in
        omega (arith, shorter ts (f m) (all m (omega arith)))
