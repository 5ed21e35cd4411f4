-- An array that is made by a closure is the list of what the closure gives. Assumes nothing.
use denote.Param.Members.{Mut}
use Rattle.std.specs.Array.{IsFromFnResultFrom, IsFromFnResult}
use Rattle.std.specs.Fn.{Called}
use Rattle.std.specs.List.{range_with_len}
use Rattle.std.proofs.Common.{◌≡◌, ℕ, zero, suc, ◌+◌, ◌≤◌, ◌<◌, List, map, get_or, subst, ◌∙◌, ⊎_elim, eq-or-lt_of_le, arith}
use Rattle.std.proofs.lemmas.List.FromFn.{fill_by_all}

module _ {F : Type 0} (g : Mut F (ℕ × Unit {0}) ℕ) (f : ℕ → ℕ) (call : F) (gives : (x b : ℕ) (q : F) → Called g call (x, tt) b q → (q ≡ call) × (b ≡ f x)) where
  each : (ys : List ℕ) (i n : ℕ) → IsFromFnResultFrom g call ys i n → (j : ℕ) → i ≤ j → j < i + n → get_or ys j 0 ≡ f j
  each ys i zero r j l u = absurd (omega arith)
  each ys i (suc n) (q, y, at, called, rest) j l u =
      let (same, is) = gives i y q called in
      ⊎_elim (λ (e : i ≡ j). subst (λ k. get_or ys k 0 ≡ f k) e (at.1 0 ∙ is))
      (λ (h : i < j). each ys (i + 1) n (subst (λ p. IsFromFnResultFrom g p ys (i + 1) n) same rest) j (omega arith) (omega arith)) (eq-or-lt_of_le l)

  pub made : {ys : List ℕ} {n : ℕ} → IsFromFnResult g call ys n → ys ≡ map f (range_with_len 0 n)
  made {ys} {n} r = fill_by_all f ys n 0 r.long (λ k h. each ys 0 n r.each k (omega arith) (omega arith))
