-- Document 01: "A finite need is at most 191".
use Prim.Native.Nat.{ℕ, zero, suc, ◌+◌, ◌*◌, ◌≤◌}
use mathlib.Core.Path.{◌≡◌}
use native.Mathlib.Omega.{arith}
use lib.ListN.{length, length-append}
use Rattle.std.proofs.lemmas.Bool.Decides.{nat_tests}
use Rattle.program.specs.Tree.{encode, Program, end, act, split, repeat, depart}
use Rattle.policy.specs.Counts.{Count, finite, unlimited, join, often}
use Rattle.policy.specs.Needs.{same, once, need}

-- a finite count takes two bytes for each use, and one more
abbrev Small : Count → ℕ → Type 0
Small (finite n) k = 2 * n + 1 ≤ k
Small unlimited k = Unit {0}

join_small : (c d : Count) (j k : ℕ) → Small c j → Small d k → Small (join c d) (suc (j + k))
join_small (finite m) (finite n) j k g h = omega arith
join_small (finite m) unlimited j k g h = tt
join_small unlimited d j k g h = tt

often_small : (c : Count) (k : ℕ) → Small c k → Small (often c) (suc k)
often_small (finite zero) k h = omega arith
often_small (finite (suc n)) k h = tt
often_small unlimited k h = tt

one_at_most : (a α : ℕ) → same a α ≤ 1
one_at_most a α = grind (arith, nat_tests)

act_small : (c : Count) (a α k : ℕ) → Small c k → Small (join c (once a α)) (suc (suc k))
act_small (finite n) a α k h = omega (arith, one_at_most a α)
act_small unlimited a α k h = tt

need_small : (p : Program) (α : ℕ) → Small (need p α) (length (encode p))
unfolding encode
need_small end α = omega arith
need_small (act a p) α = act_small (need p α) a.0 α (length (encode p)) (need_small p α)
need_small (split p q) α =
    rw length-append (join_small (need p α) (need q α) (length (encode p)) (length (encode q)) (need_small p α) (need_small q α))
need_small (repeat p) α = often_small (need p α) (length (encode p)) (need_small p α)
need_small (depart c slip p) α = omega (arith, one_at_most c.0 α)

pub need_at_most : (p : Program) (α n : ℕ) → length (encode p) ≤ 384 → need p α ≡ finite n → n ≤ 191
need_at_most p α n h e = let k : 2 * n + 1 ≤ length (encode p) = rw e at (need_small p α) in omega arith
