-- Document 01, "Bags on both sides of a limit", cases 1 to 8: the bytes of each tree, and what is said of its needs and its honesty, by
-- computation.
use Prim.Native.Nat.{ℕ}
use mathlib.Core.Path.{◌≡◌, refl}
use mathlib.Core.Bool.{true, false}
use mathlib.Core.List.{[], ◌∷◌}
use lib.ListN.{set}
use Rattle.program.specs.Names.{action, controller}
use Rattle.program.specs.Tree.{Slip, entry, Program, end, act, split, repeat, depart, encode, entries}
use Rattle.policy.specs.Counts.{finite, unlimited, Policy, policy_allows}
use Rattle.policy.specs.Needs.{need}
use Rattle.policy.specs.Tests.{fits_allb, honestb}
use Rattle.policy.specs.Bytes.{none}

-- action 3, and then a program
abbrev three : Program → Program
three p = act (action 3) p

-- a departure to 17, with a slip and action 3
abbrev to17 : Slip → Program
to17 slip = depart (controller 17) slip (three end)

-- a policy that is zero but for action 3
abbrev threes : ℕ → Policy
threes n = policy_allows (set none 3 n)

pub vectors :
    -- 1
    ((encode end ≡ 0x00 ∷ []) × (fits_allb (threes 0) end ≡ true))
    -- 2
    × ((encode (repeat end) ≡ 0x03 ∷ 0x00 ∷ []) × (fits_allb (threes 0) (repeat end) ≡ true))
    -- 3
    × ((encode (three (three end)) ≡ 0x01 ∷ 0x03 ∷ 0x01 ∷ 0x03 ∷ 0x00 ∷ [])
    × (need (three (three end)) 3 ≡ finite 2)
    × (fits_allb (threes 2) (three (three end)) ≡ true)
    × (fits_allb (threes 1) (three (three end)) ≡ false))
    -- 4
    × ((encode (split (three end) (three end)) ≡ 0x02 ∷ 0x01 ∷ 0x03 ∷ 0x00 ∷ 0x01 ∷ 0x03 ∷ 0x00 ∷ [])
    × (need (split (three end) (three end)) 3 ≡ finite 2))
    -- 5
    × ((encode (repeat (three end)) ≡ 0x03 ∷ 0x01 ∷ 0x03 ∷ 0x00 ∷ [])
    × (fits_allb (threes 255) (repeat (three end)) ≡ true)
    × (fits_allb (threes 254) (repeat (three end)) ≡ false))
    -- 6
    × ((encode (to17 (entry 3 1 ∷ [])) ≡ 0x04 ∷ 0x11 ∷ 0x01 ∷ 0x03 ∷ 0x01 ∷ 0x01 ∷ 0x03 ∷ 0x00 ∷ [])
    × (honestb (to17 (entry 3 1 ∷ [])) ≡ true)
    × (need (to17 (entry 3 1 ∷ [])) 17 ≡ finite 1)
    × (need (to17 (entry 3 1 ∷ [])) 3 ≡ finite 0))
    -- 7
    × ((encode (to17 []) ≡ 0x04 ∷ 0x11 ∷ 0x00 ∷ 0x01 ∷ 0x03 ∷ 0x00 ∷ []) × (honestb (to17 []) ≡ false))
    -- 8
    × ((encode (repeat (depart (controller 17) [] end)) ≡ 0x03 ∷ 0x04 ∷ 0x11 ∷ 0x00 ∷ 0x00 ∷ [])
    × (need (repeat (depart (controller 17) [] end)) 17 ≡ unlimited))
unfolding encode entries
vectors =
    ((refl, refl), (refl, refl), (refl, refl, refl, refl), (refl, refl), (refl, refl, refl), (refl, refl, refl, refl), (refl, refl), (refl, refl))
