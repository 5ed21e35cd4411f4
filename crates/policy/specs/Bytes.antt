-- Counts as bytes, and 32 of them as a list, one for each name. Definitions only.
use Rattle.std.specs.Prelude.{ℕ, zero, suc, ◌+◌, min, Bool, true, ◌&&◌, cond, List, [], ◌∷◌, leb, ltb, length, get_or, set, replicate}
use Rattle.program.specs.Tree.{Program, end, act, split, repeat, depart}
use Rattle.policy.specs.Counts.{Count, finite, unlimited}
use Rattle.policy.specs.Needs.{need}

-- a count as a byte: a number that no byte holds fits what unlimited fits, 255 and nothing else
abbrev pub byte_of : Count → ℕ
byte_of (finite n) = min n 255
byte_of unlimited = 255

-- the byte of a join, by the bytes of the two
abbrev pub join_byte : ℕ → ℕ → ℕ
join_byte a b = min (a + b) 255

-- f 0, f 1, .., n of them
unfoldable pub table : (ℕ → ℕ) → ℕ → List ℕ
table f zero = []
table f (suc n) = f zero ∷ table (λ i. f (suc i)) n

-- what a program needs of each name
abbrev pub need_bytes : Program → List ℕ
need_bytes p = table (λ α. byte_of (need p α)) 32

-- no name, not once
abbrev pub none : List ℕ
none = replicate 32 0

-- each number below n passes
unfoldable pub below : ℕ → (ℕ → Bool) → Bool
below zero f = true
below (suc n) f = below n f && f n

-- the plain comparison, at a name and at all 32
abbrev pub fits_at : List ℕ → List ℕ → ℕ → Bool
fits_at counts allowed α = leb (get_or counts α 0) (get_or allowed α 0)

abbrev pub fits_bytes : List ℕ → List ℕ → Bool
fits_bytes counts allowed = below 32 (fits_at counts allowed)

-- a name some times more
abbrev pub more : List ℕ → ℕ → ℕ → List ℕ
more counts name times = set counts name (join_byte (get_or counts name 0) times)

-- what a program adds to counts, from left to right: each name that it gives, a number of times, 1, or inside a repeat 255
unfoldable pub gathered : ℕ → List ℕ → Program → List ℕ
gathered times before end = before
gathered times before (act a p) = gathered times (more before a.0 times) p
gathered times before (split p q) = gathered times (gathered times before p) q
gathered times before (repeat p) = gathered 255 before p
gathered times before (depart c slip p) = more before c.0 times

-- n slip entries from k, as they stand, written into counts, up to the first that is none: the bytes end, or there is no such name
unfoldable pub slip_counts : List ℕ → ℕ → ℕ → List ℕ → List ℕ
slip_counts s zero k counts = counts
slip_counts s (suc n) k counts =
    cond (ltb (k + 1) (length s) && ltb (get_or s k 0) 32) (slip_counts s n (k + 1 + 1) (set counts (get_or s k 0) (get_or s (k + 1) 0))) counts
