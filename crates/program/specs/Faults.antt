-- What the order of reading, left to right, says of the beginnings of the bytes. Definitions only.
use Rattle.std.specs.Prelude.{ℕ, ◌+◌, ◌≤◌, ◌<◌, ◌≡◌, List, length, take}
use Rattle.program.specs.Tree.{Program}
use Rattle.program.specs.Reading.{Found, whole, cut, bad, read_at}

-- where reading at k finds a whole program, every beginning that ends inside it is cut; where it is cut, every beginning is; where it finds a
-- bad byte at o, all before o was right and more was wanted, and whatever agrees with these bytes up to and including o is bad at o
abbrev pub InOrder : List ℕ → ℕ → Found Program → Type 0
InOrder s k (whole p m) = (n : ℕ) → n < m → read_at (take n s) k ≡ cut
InOrder s k cut = (n : ℕ) → read_at (take n s) k ≡ cut
InOrder s k (bad o) =
    (k ≤ o) × (o < length s) × (read_at (take o s) k ≡ cut) × ((t : List ℕ) → take (o + 1) t ≡ take (o + 1) s → read_at t k ≡ bad o)
