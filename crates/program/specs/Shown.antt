-- What the source's answers say of what reading finds: a whole value's offset, and none of the value. Definitions only.
use Rattle.std.specs.Prelude.{ℕ, ◌+◌, List, length, cond, ltb, Result, Ok, Err}
use Rattle.program.specs.declared.names.Controller.{Controller}
use Rattle.program.specs.declared.reader.Fault.{Fault}
use Rattle.program.specs.declared.reader.Fault.TheVariants.{Cut, Bad}
use Rattle.program.specs.declared.reader.Start.{Start}
use Rattle.program.specs.declared.reader.Start.TheVariants as start
use Rattle.program.specs.declared.reader.Departure.{Departure}
use Rattle.program.specs.Tree.{Slip}
use Rattle.program.specs.Reading.{Found, whole, cut, bad, byte_at, Kind, ends, acts, splits, repeats, departs}

-- what is found, as a result: of a whole value what f makes of it and of the offset after it
abbrev pub shown_by : {A B : Type 0} → (A → ℕ → B) → Found A → Result B Fault
shown_by f (whole a m) = Ok (f a m)
shown_by f cut = Err Cut
shown_by f (bad o) = Err (Bad o)

abbrev pub shown : {A : Type 0} → Found A → Result ℕ Fault
shown o = shown_by (λ a m. m) o

-- the byte at k, which has a meaning from lo up to, not including, hi
abbrev pub shown_byte : List ℕ → ℕ → ℕ → ℕ → Result ℕ Fault
shown_byte s k lo hi = shown_by (λ b m. b) (byte_at s k lo hi (λ b. whole b k))

abbrev pub start_of : Kind → ℕ → Start
start_of ends m = start.End m
start_of (acts a) m = start.Act a m
start_of splits m = start.Split m
start_of repeats m = start.Repeat m
start_of departs m = start.Depart m

abbrev pub shown_start : Found Kind → Result Start Fault
shown_start o = shown_by start_of o

-- a departure whose controller stands at k, and whose carried program at m
abbrev pub departure_of : ℕ → Controller × Slip → ℕ → Departure
departure_of k h m = record { controller = h.0; slip = k + 1 + 1; entries = length h.1; carried = m }

abbrev pub shown_head : ℕ → Found (Controller × Slip) → Result Departure Fault
shown_head k o = shown_by (departure_of k) o

-- where reading stops: at the byte of no meaning, or where the bytes end
abbrev pub stop_of : List ℕ → Fault → ℕ
stop_of s Cut = length s
stop_of s (Bad o) = o

abbrev pub stopped : List ℕ → Result ℕ Fault → Result ℕ ℕ
stopped s (Ok m) = Ok m
stopped s (Err x) = Err (stop_of s x)

-- and why it stops there
abbrev pub fault_at : List ℕ → ℕ → Fault
fault_at s o = cond (ltb o (length s)) (Bad o) Cut
