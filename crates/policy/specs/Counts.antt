-- Document 01: "A policy gives each of the 32 names a count from 0 to 254, or 255 for unlimited"; "a slip is a policy written inside a
-- program"; "Unlimited fits only 255; a finite need fits 255 or any count not below it". Definitions only.
use Rattle.std.specs.Prelude.{ℕ, zero, suc, ◌+◌, ◌≤◌, cond, List, [], ◌∷◌, eqb, ltb, get_or}
use Rattle.program.specs.Tree.{Slip, entry}

-- a number of times, or as often as one likes
pub data Count : Type 0 where
  finite : ℕ → Count
  unlimited : Count

-- a byte as a count: 255 is unlimited, and never a number
abbrev pub count_of : ℕ → Count
count_of b = cond (ltb b 255) (finite b) unlimited

-- both together: a sum, in which unlimited absorbs
abbrev pub join : Count → Count → Count
join (finite m) (finite n) = finite (m + n)
join (finite m) unlimited = unlimited
join unlimited d = unlimited

-- again and again: zero stays zero, all else is unlimited
abbrev pub often : Count → Count
often (finite zero) = finite zero
often (finite (suc n)) = unlimited
often unlimited = unlimited

-- a need fits what is allowed
pub data Fits : Count → Count → Type 0 where
  always : {c : Count} → Fits c unlimited
  enough : {m n : ℕ} → m ≤ n → Fits (finite m) (finite n)

-- n uses are within a count
abbrev pub Within : ℕ → Count → Type 0
Within n c = Fits (finite n) c

-- a count for each name: the occurrence function of the paper's multiset
abbrev pub Policy : Type 0
Policy = ℕ → Count

-- the paper's "T enforces U": T ⊆ U
abbrev pub Enforces : Policy → Policy → Type 0
Enforces T U = (α : ℕ) → Fits (T α) (U α)

-- what a slip allows: nothing of a name that is absent
abbrev pub slip_allows : Slip → Policy
slip_allows [] α = finite 0
slip_allows (entry name count ∷ slip) α = cond (eqb name α) (count_of count) (slip_allows slip α)

-- what a controller's policy allows: its bytes are one for each name
abbrev pub policy_allows : List ℕ → Policy
policy_allows policy α = count_of (get_or policy α 0)
