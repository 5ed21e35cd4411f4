-- What the calls answer of the program that reading finds at a position, and where it finds none. Definitions only.
use Rattle.std.specs.Prelude.{ℕ, Bool, true, false, List, Result, Ok, Err, ⊤}
use Rattle.program.specs.declared.reader.Fault.{Fault}
use Rattle.program.specs.Tree.{Program}
use Rattle.program.specs.Reading.{Found, whole, cut, bad}
use Rattle.program.specs.Shown.{shown_by}
use Rattle.policy.specs.declared.tally.Tally.{Tally}
use Rattle.policy.specs.declared.test.CodeFault.{CodeFault}
use Rattle.policy.specs.declared.test.CodeFault.TheVariants.{Unread, NotHonest, NotFitting}
use Rattle.policy.specs.Counts.{Policy}
use Rattle.policy.specs.Tests.{fits_allb, honestb}
use Rattle.policy.specs.Bytes.{none, fits_bytes, slip_counts}

-- a whole program's end, its honesty, and the counts that `counted` makes of it
abbrev pub tallied : (Program → List ℕ) → Program → ℕ → Tally
tallied counted p m = record { end = m; honest = honestb p; needs = counted p }

-- where none can be read, the reader's fault
abbrev pub tally_of : (Program → List ℕ) → Found Program → Result Tally Fault
tally_of counted o = shown_by (tallied counted) o

-- "honest first, then need against policy"
abbrev pub verdict : Bool → Bool → Result ⊤ CodeFault
verdict false fits = Err NotHonest
verdict true false = Err NotFitting
verdict true true = Ok tt

-- code that cannot be read, whatever the reader's fault
abbrev pub fault_of : Fault → CodeFault
fault_of f = Unread

abbrev pub test_of : Policy → Found Program → Result ⊤ CodeFault
test_of allowed (whole p m) = verdict (honestb p) (fits_allb allowed p)
test_of allowed cut = Err Unread
test_of allowed (bad o) = Err Unread

-- the n slip entries at k against a policy's bytes: `slip_fits` says that this is the test of the slip that was read there
abbrev pub slip_test : List ℕ → ℕ → ℕ → List ℕ → Bool
slip_test s k n policy = fits_bytes (slip_counts s n k none) policy
