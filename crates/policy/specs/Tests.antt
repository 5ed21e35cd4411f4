-- What fits, and who is honest, as tests that compute. Definitions only.
use Rattle.std.specs.Prelude.{ℕ, Bool, true, false, ◌&&◌, List, [], ◌∷◌, ◌++◌, leb}
use Rattle.program.specs.Tree.{Slip, entry, Program, end, act, split, repeat, depart}
use Rattle.policy.specs.Counts.{Count, finite, unlimited, Policy, slip_allows}
use Rattle.policy.specs.Needs.{need}

abbrev pub fitsb : Count → Count → Bool
fitsb c unlimited = true
fitsb (finite m) (finite n) = leb m n
fitsb unlimited (finite n) = false

-- the one fits the other at each name of a list
abbrev pub fits_on : List ℕ → Policy → Policy → Bool
fits_on [] T U = true
fits_on (α ∷ names) T U = fitsb (T α) (U α) && fits_on names T U

-- the names that a program needs
abbrev pub names : Program → List ℕ
names end = []
names (act a p) = a.0 ∷ names p
names (split p q) = names p ++ names q
names (repeat p) = names p
names (depart c slip p) = c.0 ∷ []

-- the needs of a program against what is allowed
abbrev pub fits_allb : Policy → Program → Bool
fits_allb allowed p = fits_on (names p) (need p) allowed

-- each departure's carried program against its slip, at any depth
abbrev pub honestb : Program → Bool
honestb end = true
honestb (act a p) = honestb p
honestb (split p q) = honestb p && honestb q
honestb (repeat p) = honestb p
honestb (depart c slip p) = fits_allb (slip_allows slip) p && honestb p

-- the names that a slip has
abbrev pub slip_names : Slip → List ℕ
slip_names [] = []
slip_names (entry name count ∷ slip) = name ∷ slip_names slip

-- the test of a slip: what it allows is allowed
abbrev pub slip_fitsb : Policy → Slip → Bool
slip_fitsb allowed slip = fits_on (slip_names slip) (slip_allows slip) allowed
