-- Document 01, "Needs and runs": what a program needs, and honesty. Definitions only.
use Rattle.std.specs.Prelude.{ℕ, cond, eqb}
use Rattle.program.specs.Tree.{Slip, Program, end, act, split, repeat, depart}
use Rattle.policy.specs.Counts.{finite, join, often, Policy, Enforces, slip_allows}

-- 1 where the two names are the same, else 0
abbrev pub same : ℕ → ℕ → ℕ
same a α = cond (eqb a α) 1 0

-- one name once, and no other
abbrev pub once : ℕ → Policy
once a α = finite (same a α)

-- "end needs nothing; act adds one to its action; split adds the needs of both sides; repeat makes every non-zero need unlimited and
-- leaves zero at zero; depart needs its controller once and nothing of what it carries"
abbrev pub need : Program → Policy
need end α = finite 0
need (act a p) α = join (need p α) (once a.0 α)
need (split p q) α = join (need p α) (need q α)
need (repeat p) α = often (need p α)
need (depart c slip p) α = once c.0 α

-- every need of a program fits what is allowed
abbrev pub FitsAll : Policy → Program → Type 0
FitsAll allowed p = Enforces (need p) allowed

-- Q holds of the slip and the carried program of "every departure written anywhere in it, at any depth"
abbrev pub Everywhere : (Slip → Program → Type 0) → Program → Type 0
Everywhere Q end = Unit {0}
Everywhere Q (act a p) = Everywhere Q p
Everywhere Q (split p q) = Everywhere Q p × Everywhere Q q
Everywhere Q (repeat p) = Everywhere Q p
Everywhere Q (depart c slip p) = Q slip p × Everywhere Q p

-- "the need of the carried program fits that departure's slip"
abbrev pub Honest : Program → Type 0
Honest p = Everywhere (λ slip q. FitsAll (slip_allows slip) q) p
