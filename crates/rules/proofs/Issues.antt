-- One number of a search through numbers, and that trying one candidate after the other finds the pass that the rules
-- name. Assumes nothing.
use Rattle.std.proofs.Common.{◌≡◌, ℕ, zero, suc, ◌+◌, ◌-◌, ◌%◌, ◌<◌, ◌≤◌, Bool, true, false, cond, not, List, [], length, replicate, sym, refl, ap, ◌∙◌, arith}
use mathlib.Core.Path.{fun_ext}
use lib.ListN.{length-replicate}
use Rattle.rules.specs.declared.net.Thread.{Thread}
use Rattle.rules.specs.declared.net.Net.{Net}
use Rattle.rules.specs.Nets.{carried, lowest_from, over_in, pass_in}
use Rattle.rules.specs.Issued.{issued_by}
use Rattle.rules.proofs.Search.{lowest_is}
use Rattle.rules.proofs.Pass.{first_free}

-- the numbers from k up to e
module _ (f : ℕ → Bool) (k e : ℕ) where
  lowest_turn : (m : ℕ) → e - k ≡ m → k < e → lowest_from f k m ≡ cond (f k) k (lowest_from f (k + 1) (e - (k + 1)))
  unfolding lowest_from
  lowest_turn zero i h = absurd (omega arith)
  lowest_turn (suc m) i h = let j : m ≡ e - (k + 1) = omega arith in ap (λ m. cond (f k) k (lowest_from f (k + 1) m)) j

  pub lowest_here : k < e → f k ≡ true → lowest_from f k (e - k) ≡ k
  lowest_here h t = lowest_turn (e - k) refl h ∙ ap (λ b. cond b k (lowest_from f (k + 1) (e - (k + 1)))) t

  pub lowest_next : k < e → f k ≡ false → lowest_from f k (e - k) ≡ lowest_from f (k + 1) (e - (k + 1))
  lowest_next h t = lowest_turn (e - k) refl h ∙ ap (λ b. cond b k (lowest_from f (k + 1) (e - (k + 1)))) t

-- no thread carries the number d after the first
abbrev unused : List Thread → ℕ → ℕ → Bool
unused threads first d = not (carried threads ((first + d) % 65536))

-- as many candidates as `over` are passed over, and the search goes on from there
pub record Passing (threads : List Thread) (first over candidate : ℕ) : Type 0 where
  pub long : length threads ≡ 64
  pub few : over ≤ 64
  pub is : candidate ≡ (first + over) % 65536
  pub on : lowest_from (unused threads first) 0 65 ≡ lowest_from (unused threads first) over (65 - over)

module _ (threads : List Thread) (first : ℕ) where
  pub p_holds : length threads ≡ 64 → first < 65536 → Passing threads first 0 first
  p_holds l h = record { long = l; few = omega arith; is = omega arith; on = refl }

  same : (last d : ℕ) → first % 65536 ≡ (last + 1) % 65536 → (last + 1 + d) % 65536 ≡ (first + d) % 65536
  same last d e = omega arith

  same_over : (last : ℕ) → first % 65536 ≡ (last + 1) % 65536 → over_in threads last ≡ lowest_from (unused threads first) 0 65
  same_over last e = ap (λ f. lowest_from f 0 65) (fun_ext (λ d. ap (λ p. not (carried threads p)) (same last d e)))

  -- with 64 slots at most 64 are passed over
  few : length threads ≡ 64 → lowest_from (unused threads first) 0 65 ≤ 64
  few l = rw (← same_over (first + 65535) (omega arith)) (first_free net (record { slots = l; bytes = length-replicate {A = ℕ} 3072 0 })).few
    where
      net : Net
      net = record { n = 0; trust = []; policies = []; threads = threads; places = replicate 3072 0; counter = record { last = first + 65535 } }

  within : (over : ℕ) → length threads ≡ 64 → lowest_from (unused threads first) 0 65 ≡ lowest_from (unused threads first) over (65 - over) → over ≤ 64
  within over l e = omega (arith, few l, e, (lowest_is (unused threads first) over (65 - over)).low)

  -- by what the slots say of the candidate
  module _ {over candidate : ℕ} {b : Bool} (h : Passing threads first over candidate) (c : b ≡ carried threads candidate) where
    pub p_again : {next : ℕ} → b ≡ true → next ≡ (candidate + 1) % 65536 → Passing threads first (over + 1) next
    p_again t e =
        let on = h.on ∙ lowest_next (unused threads first) over 65 (omega (arith, h.few)) (ap not (ap (carried threads) (sym h.is) ∙ sym c ∙ t)) in
        record { long = h.long; few = within (over + 1) h.long on; is = omega (arith, h.is); on = on }

    pub p_done : (last : ℕ) → first ≡ (last + 1) % 65536 → b ≡ false →
        record { pass = candidate; counter = record { last = candidate }; over = over } ≡ issued_by (record { last = last }) threads
    p_done last e t = λ i. record { pass = pass i; counter = record { last = pass i }; over = over_is i }
      where
        over_is : over ≡ over_in threads last
        over_is =
            sym (same_over last (omega arith) ∙ h.on
            ∙ lowest_here (unused threads first) over 65 (omega (arith, h.few)) (ap not (ap (carried threads) (sym h.is) ∙ sym c ∙ t)))

        pass : candidate ≡ pass_in threads last
        pass = h.is ∙ sym (same last over (omega arith)) ∙ ap (λ d. (last + 1 + d) % 65536) over_is
