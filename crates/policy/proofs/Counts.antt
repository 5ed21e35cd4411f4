-- The laws of counts: their join, and their order, which is Fits.
use Prim.Native.Nat.{ℕ, zero, suc, zero-le}
use mathlib.Core.Path.{◌≡◌, refl, ap}
use native.Mathlib.Nat.{add_assoc, add_comm, add-zero, le_refl, le_trans, add-le-add, le-add_right}
use native.Mathlib.Omega.{arith}
use Rattle.program.specs.Tree.{Program, split}
use Rattle.policy.specs.Counts.{Count, finite, unlimited, join, often, Fits, always, enough, Within}
use Rattle.policy.specs.Needs.{need}

pub join_comm : (c d : Count) → join c d ≡ join d c
join_comm (finite m) (finite n) = ap finite (add_comm m n)
join_comm (finite m) unlimited = refl
join_comm unlimited (finite n) = refl
join_comm unlimited unlimited = refl

pub join_assoc : (c d e : Count) → join (join c d) e ≡ join c (join d e)
join_assoc (finite m) (finite n) (finite k) = ap finite (add_assoc m n k)
join_assoc (finite m) (finite n) unlimited = refl
join_assoc (finite m) unlimited e = refl
join_assoc unlimited d e = refl

pub join_nothing : (c : Count) → join c (finite 0) ≡ c
join_nothing (finite m) = ap finite (add-zero m)
join_nothing unlimited = refl

-- a repeat needs what its body and the repeat again need
pub join_often : (c : Count) → join c (often c) ≡ often c
join_often (finite zero) = refl
join_often (finite (suc n)) = refl
join_often unlimited = refl

-- a split's need is the join of its sides
pub need_split : (p q : Program) (α : ℕ) → need (split p q) α ≡ join (need p α) (need q α)
need_split p q α = refl

pub fits_refl : (c : Count) → Fits c c
fits_refl (finite n) = enough (le_refl n)
fits_refl unlimited = always

pub fits_trans : {c d e : Count} → Fits c d → Fits d e → Fits c e
fits_trans f always = always
fits_trans (enough h) (enough k) = enough (le_trans h k)

pub fits_nothing : (c : Count) → Fits (finite 0) c
fits_nothing (finite n) = enough zero-le
fits_nothing unlimited = always

-- a join with more is never less
pub join_more : {c c' d d' : Count} → Fits c c' → Fits d d' → Fits (join c d) (join c' d')
join_more always g = always
join_more (enough h) always = always
join_more (enough h) (enough k) = enough (add-le-add h k)

-- nor is it less than either of the two
pub fits_left : (c d : Count) → Fits c (join c d)
fits_left (finite m) (finite n) = enough (le-add_right m n)
fits_left (finite m) unlimited = always
fits_left unlimited d = always

pub fits_right : (c d : Count) → Fits d (join c d)
fits_right c d = rw (join_comm c d) (fits_left d c)

-- one count fits another if whatever is within the one is within the other
pub fits_within : (c d : Count) → ((n : ℕ) → Within n c → Within n d) → Fits c d
fits_within (finite m) d h = h m (fits_refl (finite m))
fits_within unlimited unlimited h = always
fits_within unlimited (finite k) h = absurd (over k (h (suc k) always))
  where
    over : (k : ℕ) → Within (suc k) (finite k) → ⊥
    over k (enough l) = omega arith
