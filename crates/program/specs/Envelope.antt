-- The envelope of a program and of a set-up: two length bytes, big-endian, a version byte, and what follows. Definitions only.
use Rattle.std.specs.Prelude.{ℕ, ◌+◌, ◌*◌, ◌≤◌, ◌<◌, ◌≡◌, ◌⊎◌, cond, not, ◌||◌, List, length, get_or, eqb, ltb, Result, Ok, Err, ⊤}
use Rattle.program.specs.declared.envelope.EnvelopeFault.{EnvelopeFault}
use Rattle.program.specs.declared.envelope.EnvelopeFault.TheVariants.{Fewer, Length, Version}

-- the length of all that follows
abbrev pub stated : List ℕ → ℕ
stated bytes = 256 * get_or bytes 0 0 + get_or bytes 1 0

-- document 01's order: 1 for under two bytes, 2 for the length's range, 1 for too few, 2 for too many, 3
unfoldable pub envelope : ℕ → ℕ → List ℕ → Result ⊤ EnvelopeFault
envelope least most bytes =
    cond (ltb (length bytes) 2) (Err Fewer)
    (cond (ltb (stated bytes) least || ltb most (stated bytes)) (Err Length)
    (cond (ltb (length bytes) (2 + stated bytes)) (Err Fewer)
    (cond (ltb (2 + stated bytes) (length bytes)) (Err Length)
    (cond (not (eqb (get_or bytes 2 0) 1)) (Err Version)
    (Ok tt)))))

-- what each answer says, in the words of the table: 1, 2 and 3, and none of them
abbrev pub Means : ℕ → ℕ → List ℕ → Result ⊤ EnvelopeFault → Type 0
Means least most bytes (Err Fewer) = (length bytes < 2) ⊎ ((least ≤ stated bytes) × (stated bytes ≤ most) × (length bytes < 2 + stated bytes))
Means least most bytes (Err Length) = (2 ≤ length bytes) × ((stated bytes < least) ⊎ ((most < stated bytes) ⊎ (2 + stated bytes < length bytes)))
Means least most bytes (Err Version) = (least ≤ stated bytes) × (stated bytes ≤ most) × (length bytes ≡ 2 + stated bytes) × (get_or bytes 2 0 ≡ 1 → ⊥)
Means least most bytes (Ok done) = (least ≤ stated bytes) × (stated bytes ≤ most) × (length bytes ≡ 2 + stated bytes) × (get_or bytes 2 0 ≡ 1)
