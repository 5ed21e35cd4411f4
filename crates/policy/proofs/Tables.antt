-- What the code does to 32 counts, and its loops, a step at a time.
use Prim.Native.Nat.{ℕ, zero, suc, ◌+◌, ◌-◌, ◌≤◌, ◌<◌}
use mathlib.Core.Path.{◌≡◌, refl, sym, ap, ap₂, ◌∙◌}
use mathlib.Core.Bool.{cond, ◌&&◌}
use mathlib.Core.List.{List}
use native.Mathlib.Numerals.{add-one, sub-one}
use native.Mathlib.Omega.{arith}
use lib.Dec.{leb, ltb}
use lib.ListN.{length, get_or, set, take, drop, length-drop}
use lib.Seq.{take_all}
use borrow.Author.Tests.{lt-ltb}
use Rattle.std.specs.List.{list_all, zip}
use Rattle.std.proofs.lemmas.List.{get_or-drop}
use Rattle.std.proofs.lemmas.Bool.Decides.{nat_tests}
use Rattle.std.proofs.lemmas.List.Folds.{list_all_more}
use Rattle.std.proofs.lemmas.Slice.Zip.{length-zip, get_or-zip}
use Rattle.policy.specs.Bytes.{below, fits_at, fits_bytes, slip_counts}

-- what is counted from an offset is counted of the bytes from there
counts_from : (s : List ℕ) (n k j : ℕ) (counts : List ℕ) → slip_counts s n (k + j) counts ≡ slip_counts (drop k s) n j counts
unfolding slip_counts
counts_from s zero k j counts = refl
counts_from s (suc n) k j counts =
    let b : get_or (drop k s) (j + 1) 0 ≡ get_or s (k + j + 1) 0 = get_or-drop k s (j + 1) 0 ∙ ap (λ i. get_or s i 0) (omega arith) in
    let e : k + j + 1 + 1 ≡ k + (j + 1 + 1) = omega arith in
    rw (get_or-drop k s j 0, b, inside)
    (ap (λ l. cond (ltb (k + j + 1) (length s) && ltb (get_or s (k + j) 0) 32) l counts)
    (ap (λ i. slip_counts s n i (set counts (get_or s (k + j) 0) (get_or s (k + j + 1) 0))) e
    ∙ counts_from s n k (j + 1 + 1) (set counts (get_or s (k + j) 0) (get_or s (k + j + 1) 0))))
  where
    inside : ltb (j + 1) (length (drop k s)) ≡ ltb (k + j + 1) (length s)
    inside = grind (arith, nat_tests, length-drop {A = ℕ})

pub counts_start : (s rest : List ℕ) (n left k : ℕ) (counts : List ℕ) → rest ≡ drop k s → left ≡ n → slip_counts s n k counts ≡ slip_counts rest left 0 counts
counts_start s rest n left k counts e i = rw (e, i) (ap (λ k. slip_counts s n k counts) (omega arith) ∙ counts_from s n k 0 counts)

-- the slip's loop, where n entries are left in the bytes
pub counts_done : (s : List ℕ) (n : ℕ) (counts : List ℕ) → n ≤ 0 → slip_counts s n 0 counts ≡ counts
unfolding slip_counts
counts_done s zero counts h = refl
counts_done s (suc n) counts h = absurd (omega arith)

module _ (s : List ℕ) (n : ℕ) (counts : List ℕ) where
  pub counts_cut : length s < 2 → slip_counts s n 0 counts ≡ counts
  unfolding slip_counts
  counts_cut h = go n
    where
      go : (n : ℕ) → slip_counts s n 0 counts ≡ counts
      go zero = refl
      go (suc n) = grind (arith, nat_tests)

  pub counts_bad : 2 ≤ length s → 32 ≤ get_or s 0 0 → slip_counts s n 0 counts ≡ counts
  unfolding slip_counts
  counts_bad l h = go n
    where
      go : (n : ℕ) → slip_counts s n 0 counts ≡ counts
      go zero = refl
      go (suc n) = grind (arith, nat_tests)

  pub counts_next : (m left : ℕ) → 0 < n → length s ≡ m + 2 → get_or s 0 0 < 32 → left ≡ n - 1 →
      slip_counts (take m (drop 2 s)) left 0 (set counts (get_or s 0 0) (get_or s 1 0)) ≡ slip_counts s n 0 counts
  unfolding slip_counts
  counts_next m left h l u e =
      rw (e, take_all m (drop 2 s) (omega (arith, length-drop 2 s)))
      (sym (counts_from s (n - 1) 2 0 (set counts (get_or s 0 0) (get_or s 1 0))) ∙ sym (go n h))
    where
      go : (n : ℕ) → 0 < n → slip_counts s n 0 counts ≡ slip_counts s (n - 1) 2 (set counts (get_or s 0 0) (get_or s 1 0))
      go zero h = absurd (omega arith)
      go (suc n) h = rw (lt-ltb 1 (length s) (omega arith), lt-ltb (get_or s 0 0) 32 (omega arith), sub-one (suc n))

-- all pairs of two tables pass exactly if the comparison of the tables does
pairs_below : (counts allowed : List ℕ) (n : ℕ) → n ≤ length counts → n ≤ length allowed →
    list_all (λ p. leb p.0 p.1) (take n (zip counts allowed)) ≡ below n (fits_at counts allowed)
unfolding below
pairs_below counts allowed zero h l = refl
pairs_below counts allowed (suc n) h l =
    ap (λ m. list_all (λ p. leb p.0 p.1) (take m (zip counts allowed))) (sym (add-one n))
    ∙ list_all_more (λ p. leb p.0 p.1) (zip counts allowed) n (0, 0) (omega (arith, length-zip counts allowed))
    ∙ ap₂ ◌&&◌ (pairs_below counts allowed n (omega arith) (omega arith))
    (ap (λ p. leb p.0 p.1) (get_or-zip counts allowed n (0, 0) (omega arith) (omega arith)))

pub pairs_fit : (counts allowed : List ℕ) → length counts ≡ 32 → length allowed ≡ 32 →
    list_all (λ p. leb p.0 p.1) (zip counts allowed) ≡ fits_bytes counts allowed
pairs_fit counts allowed h l =
    ap (list_all (λ p. leb p.0 p.1)) (sym (take_all 32 (zip counts allowed) (omega (arith, length-zip counts allowed))))
    ∙ pairs_below counts allowed 32 (omega arith) (omega arith)

pub ruleset slips = (counts_done, counts_cut, counts_bad, counts_next)
