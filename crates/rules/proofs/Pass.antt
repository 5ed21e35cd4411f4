-- The pass that is issued is the first that no thread carries. Assumes nothing.
use Rattle.std.proofs.Common.{◌≡◌, ℕ, ◌+◌, ◌%◌, ◌<◌, ◌≤◌, Bool, true, false, not, ◌&&◌, T, eqb, List, length, sym, refl, ◌∙◌, arith, eq-eqb, eqb-true}
use borrow.Author.Tests.{not-true, not-false}
use Rattle.rules.specs.declared.net.Thread.{Thread}
use Rattle.rules.specs.declared.net.Net.{Net}
use Rattle.rules.specs.Nets.{zero_thread, free, thread_at, has, carried, candidate, passed_over, new_pass}
use Rattle.rules.specs.Sound.{Sized}
use Rattle.rules.specs.Demands.{Runs, FirstFree}
use Rattle.rules.proofs.Rows.{never}
use Rattle.rules.proofs.Search.{Lowest, lowest_is, none_has}
use Rattle.rules.proofs.Pigeon.{pigeonhole}

second : (a b : Bool) → (a && b) ≡ true → b ≡ true
second true b h = h
second false b h = never h

-- a thread carries one pass; numbers less than 65,536 apart differ
one : (t : Thread) (p q : ℕ) → has (λ t. t.pass) p t ≡ true → has (λ t. t.pass) q t ≡ true → p ≡ q
one t p q x y = sym (eqb-true t.pass p (second (not (free t)) _ x)) ∙ eqb-true t.pass q (second (not (free t)) _ y)

apart : (p m : ℕ) → m ≤ 65536 → (j k : ℕ) → j < k → k < m → (p + j) % 65536 ≡ (p + k) % 65536 → ⊥
apart p m u j k l h e = omega arith

-- so m numbers in a row that are all carried want m threads
enough : (ts : List Thread) (p m : ℕ) → m ≤ 65536 → ((k : ℕ) → k < m → carried ts ((p + k) % 65536) ≡ true) → m ≤ length ts
enough ts p m u all = pigeonhole (has (λ t. t.pass)) one m (λ k. (p + k) % 65536) ts (apart p m u) all

-- a running thread does not have what none of the threads has
pub has_not : (field : Thread → ℕ) (net : Net) (x i : ℕ) → has field x (thread_at net i) ≡ false → Runs net i → field (thread_at net i) ≡ x → ⊥
has_not field net x i h r e = go (free (thread_at net i)) r h
  where
    go : (b : Bool) → T (not b) → (not b && eqb (field (thread_at net i)) x) ≡ false → ⊥
    go true r h = r
    go false r h = never (sym h ∙ eq-eqb _ _ e)

module _ (net : Net) (sized : Sized net) where
  found : Lowest (λ d. not (carried net.threads (candidate net.counter.last d))) 0 65 (passed_over net)
  found = lowest_is _ 0 65

  few_over : passed_over net ≤ 64
  few_over =
      let long = enough net.threads (net.counter.last + 1) (passed_over net) (omega (arith, found.high)) (λ k h. not-false _ (found.before k (omega arith) h)) in
      omega (arith, long, sized.slots)

  fresh_pass : carried net.threads (new_pass net) ≡ false
  fresh_pass = not-true _ (found.passes (omega (arith, few_over)))

  pub first_free : FirstFree net
  first_free = record { free = fresh_pass; least = λ d h. not-false _ (found.before d (omega arith) h); few = few_over }

  -- no running thread has it
  pub fresh_for : (i : ℕ) → Runs net i → (thread_at net i).pass ≡ new_pass net → ⊥
  fresh_for i r e = has_not (λ t. t.pass) net (new_pass net) i (none_has (has (λ t. t.pass) (new_pass net)) zero_thread refl net.threads fresh_pass i) r e
