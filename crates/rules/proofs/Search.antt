-- The lowest number that passes a test, and what some member of a list has. Assumes nothing.
use Rattle.std.proofs.Common.{◌≡◌, ℕ, zero, suc, ◌+◌, ◌<◌, ◌≤◌, Bool, true, false, cond, ◌||◌, List, [], ◌∷◌, get_or, sym, refl, ⊎_elim, eq-or-lt_of_le, arith}
use Rattle.std.specs.List.{list_any}
use Rattle.rules.specs.Nets.{lowest_from}
use Rattle.rules.proofs.Rows.{never}

-- r is the lowest of n numbers from k on that passes, or stands behind them
pub record Lowest (f : ℕ → Bool) (k n r : ℕ) : Type 0 where
  pub low : k ≤ r
  pub high : r ≤ k + n
  pub passes : r < k + n → f r ≡ true
  pub before : (j : ℕ) → k ≤ j → j < r → f j ≡ false

pub lowest_is : (f : ℕ → Bool) (k n : ℕ) → Lowest f k n (lowest_from f k n)
unfolding lowest_from
lowest_is f k zero = record { low = omega arith; high = omega arith; passes = λ h. absurd (omega arith); before = λ j l h. absurd (omega arith) }
lowest_is f k (suc n) = go (f k) refl (lowest_is f (k + 1) n)
  where
    go : (b : Bool) → f k ≡ b → Lowest f (k + 1) n (lowest_from f (k + 1) n) → Lowest f k (suc n) (cond b k (lowest_from f (k + 1) n))
    go true e r = record { low = omega arith; high = omega arith; passes = λ h. e; before = λ j l h. absurd (omega arith) }
    go false e r = record {
      low = omega (arith, r.low);
      high = omega (arith, r.high);
      passes = λ h. r.passes (omega arith);
      before = λ j l h. ⊎_elim (λ (i : k ≡ j). rw (← i) e) (λ (i : k < j). r.before j (omega arith) h) (eq-or-lt_of_le l);
    }

pub or_false : (a b : Bool) → (a || b) ≡ false → (a ≡ false) × (b ≡ false)
or_false true b e = never (sym e)
or_false false b e = (refl, e)

-- what no member of a list has, none of its places shows
pub none_has : {A : Type 0} (f : A → Bool) (d : A) → f d ≡ false → (l : List A) → list_any f l ≡ false → (i : ℕ) → f (get_or l i d) ≡ false
none_has f d z [] e i = z
none_has f d z (a ∷ l) e zero = (or_false (f a) (list_any f l) e).0
none_has f d z (a ∷ l) e (suc i) = none_has f d z l (or_false (f a) (list_any f l) e).1 i

-- and what some member has, one of its places shows
pub some_has : {A : Type 0} (f : A → Bool) (d : A) (l : List A) → list_any f l ≡ true → (i : ℕ) × (f (get_or l i d) ≡ true)
some_has f d [] e = never e
some_has f d (a ∷ l) e = go (f a) refl e (some_has f d l)
  where
    go : (b : Bool) → f a ≡ b → (b || list_any f l) ≡ true → (list_any f l ≡ true → (i : ℕ) × (f (get_or l i d) ≡ true)) → (i : ℕ) × (f (get_or (a ∷ l) i d) ≡ true)
    go true t h more = (0, t)
    go false t h more = let (i, e) = more h in (suc i, e)
