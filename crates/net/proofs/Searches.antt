-- The lowest free slot and the lowest free place, found in a range. Assumes nothing.
use denote.Param.Members.{Mut}
use denote.Ref.{Bor}
use Rattle.std.specs.Fn.{CalledAt}
use Rattle.std.specs.Iterator.{YieldsThen}
use Rattle.std.specs.List.{range_with_len, FoldsTo}
use Rattle.std.specs.Prelude.{⊤, MatchOption}
use Rattle.std.specs.declared.ops.Range.{Range}
use Rattle.std.proofs.Common.{◌≡◌, ℕ, zero, suc, ◌+◌, ◌-◌, Bool, true, false, cond, find, List, Option, Some, None, option_map, sym, refl, ◌∙◌, arith}
use Rattle.std.proofs.iter.Yields.{nat_range_steps}
use Rattle.std.proofs.lemmas.Iterator.{YieldsList-from_range}
use Rattle.std.proofs.lemmas.Iterator.Search.{find_from_yields_List}
use borrow.Author.Tests.{lt-ltb, le-ltb}
use Rattle.rules.specs.Nets.{lowest_from}
use Rattle.net.specs.Parts.{below}

-- what is found among n numbers up to an end is the lowest that passes, if one does
found : (f : ℕ → Bool) (k n end : ℕ) → end - k ≡ n → find f (range_with_len k n) ≡ below end (lowest_from f k n)
unfolding lowest_from
found f k zero end e = rw (le-ltb k end (omega arith)) refl
found f k (suc n) end e = go (f k) (found f (k + 1) n end (omega arith))
  where
    go : (b : Bool) → find f (range_with_len (k + 1) n) ≡ below end (lowest_from f (k + 1) n) →
        cond b (Some k) (find f (range_with_len (k + 1) n)) ≡ below end (cond b k (lowest_from f (k + 1) n))
    go true h = rw (lt-ltb k end (omega arith)) refl
    go false h = h

kept : (o : Option ℕ) → option_map (λ x. x) o ≡ o
kept None = refl
kept (Some n) = refl

-- what `find` answers over a range, where its closure computes a test
module _ {F : Type 0} {g : Mut F (Bor ℕ × Unit {0}) Bool} (test : ℕ → Bool) (s u : Range ℕ) (f : F) (r : Option ℕ)
    (ran : (xs : List ℕ) × (j : F) × YieldsThen nat_range_steps s xs r u × FoldsTo (λ p x q. CalledAt g p x false q) f xs j × MatchOption r ⊤ (λ x. (h : F) × CalledAt g j x true h))
    (each : (x : ℕ) (b : Bool) (q : F) → CalledAt g f x b q → (q ≡ f) × (b ≡ test x)) where
  pub lowest_found : r ≡ below s.end (lowest_from test s.start (s.end - s.start))
  lowest_found =
      sym (kept r) ∙ find_from_yields_List {g = g} test u f r ran (YieldsList-from_range s.start s.end (s.end - s.start) refl refl) each
      ∙ found test s.start (s.end - s.start) s.end refl
