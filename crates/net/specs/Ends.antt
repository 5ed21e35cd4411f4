-- Where the whole program that begins at a position ends, for each position of a place. Definitions only.
use Rattle.std.specs.Prelude.{ℕ, ◌+◌, ◌≤◌, ◌<◌, Bool, cond, ◌&&◌, ◌≡◌, List, Option, Some, None, unwrap_or, Result, Ok, Err, nat_lt, length, slice_index, slice_index_or}
use Rattle.program.specs.declared.reader.Fault.{Fault}
use Rattle.program.specs.Reading.{read_at}
use Rattle.program.specs.Shown.{shown}
use Rattle.rules.specs.declared.net.Thread.{Thread}
use Rattle.rules.specs.Nets.{free, place_bytes}
use Rattle.rules.specs.Sound.{is_whole, is_zero}
use Rattle.net.specs.Parts.{stands_in}

-- the end of what was read, if a whole program was
abbrev pub end_of : Result ℕ Fault → Option ℕ
end_of (Ok m) = Some m
end_of (Err x) = None

unfoldable pub end_at : List ℕ → ℕ → Option ℕ
end_at s k = end_of (shown (read_at s k))

-- the same as a number: 0 is none, since no program ends at 0
abbrev pub marked : Option ℕ → ℕ
marked o = unwrap_or o 0

-- from k on there are only zeros
abbrev pub ZerosFrom : List ℕ → ℕ → Type 0
ZerosFrom s k = (j : ℕ) → k ≤ j → slice_index s j ≡ 0

-- where a zero ends, if one stands there: each zero is an end
abbrev pub zero_end : ℕ → ℕ
zero_end k = cond (nat_lt k 384) (k + 1) 0

-- the ends are right from k on, in a place with the bytes s
abbrev pub Behind : List ℕ → List ℕ → ℕ → Type 0
Behind s ends k = (j : ℕ) → k ≤ j → j < 385 → slice_index ends j ≡ marked (end_at s j)

-- they are right in each place that has been read; a place has 384 positions, and behind them no program begins
abbrev pub AllRight : List ℕ → List (Option (List ℕ)) → Type 0
AllRight places all = (p : ℕ) (ends : List ℕ) → slice_index_or all p None ≡ Some ends → (length ends ≡ 385) × Behind (place_bytes places p) ends 0

-- `slotb` over the number of controllers and the places
abbrev pub slot_holds : ℕ → List ℕ → Thread → Bool
slot_holds n places t =
    cond (free t) (is_zero t) (nat_lt t.place 8 && (stands_in n t.controller && is_whole (read_at (place_bytes places t.place) t.position)))
