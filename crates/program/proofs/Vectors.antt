-- Worked trees and envelopes of document 01, by computation. Assumes nothing.
use mathlib.Core.Path.{◌≡◌, refl}
use mathlib.Core.List.{List, [], ◌∷◌, ◌++◌}
use Prim.Native.Nat.{ℕ, zero, suc, ◌+◌}
use lib.ListN.{length}
use Rattle.std.proofs.Common.{Ok, Err}
use Rattle.program.specs.declared.envelope.EnvelopeFault.TheVariants.{Fewer, Length, Version}
use Rattle.program.specs.Names.{action, controller}
use Rattle.program.specs.Tree.{Slip, entry, entries, Program, end, act, split, repeat, depart}
use Rattle.program.specs.Reading.{whole, cut, bad, and_then, judge, byte_at, kind_by, kind_at, entry_at, slip_at, head_at, depart_at, inside_at, step, read_by, read_at}
use Rattle.program.specs.Envelope.{envelope}

abbrev strokes : Program → Program
strokes p = act (action 3) p

-- the trees of cases 1 to 9
pub cases :
    (read_at (0 ∷ []) 0 ≡ whole end 1)
    × (read_at (3 ∷ 0 ∷ []) 0 ≡ whole (repeat end) 2)
    × (read_at (1 ∷ 3 ∷ 1 ∷ 3 ∷ 0 ∷ []) 0 ≡ whole (strokes (strokes end)) 5)
    × (read_at (2 ∷ 1 ∷ 3 ∷ 0 ∷ 1 ∷ 3 ∷ 0 ∷ []) 0 ≡ whole (split (strokes end) (strokes end)) 7)
    × (read_at (3 ∷ 1 ∷ 3 ∷ 0 ∷ []) 0 ≡ whole (repeat (strokes end)) 4)
    × (read_at (4 ∷ 17 ∷ 1 ∷ 3 ∷ 1 ∷ 1 ∷ 3 ∷ 0 ∷ []) 0 ≡ whole (depart (controller 17) (entry 3 1 ∷ []) (strokes end)) 8)
    × (read_at (4 ∷ 17 ∷ 0 ∷ 1 ∷ 3 ∷ 0 ∷ []) 0 ≡ whole (depart (controller 17) [] (strokes end)) 6)
    × (read_at (3 ∷ 4 ∷ 17 ∷ 0 ∷ 0 ∷ []) 0 ≡ whole (repeat (depart (controller 17) [] end)) 5)
    × (read_at (4 ∷ 17 ∷ 1 ∷ 3 ∷ 2 ∷ 1 ∷ 3 ∷ 0 ∷ []) 0 ≡ whole (depart (controller 17) (entry 3 2 ∷ []) (strokes end)) 8)
unfolding read_at read_by step kind_at kind_by inside_at depart_at head_at slip_at entry_at byte_at judge and_then
cases = (refl, refl, refl, refl, refl, refl, refl, refl, refl)

-- faults: those of cases 11 and 12, and a byte just outside each range, each named by its own offset
pub faults :
    (read_at (5 ∷ []) 0 ≡ bad 0)
    × (read_at (1 ∷ 0 ∷ []) 0 ≡ cut)
    × (read_at (0 ∷ 0 ∷ []) 0 ≡ whole end 1)
    × (read_at (4 ∷ 17 ∷ 2 ∷ 3 ∷ 1 ∷ 3 ∷ 1 ∷ 0 ∷ []) 0 ≡ bad 5)
    × (read_at (4 ∷ 17 ∷ 1 ∷ 3 ∷ 0 ∷ 0 ∷ []) 0 ≡ bad 4)
    × (read_at (1 ∷ 16 ∷ 0 ∷ []) 0 ≡ bad 1)
    × (read_at (4 ∷ 15 ∷ 0 ∷ 0 ∷ []) 0 ≡ bad 1)
    × (read_at (4 ∷ 32 ∷ 0 ∷ 0 ∷ []) 0 ≡ bad 1)
    × (read_at (4 ∷ 16 ∷ 33 ∷ []) 0 ≡ bad 2)
    × (read_at (4 ∷ 16 ∷ 32 ∷ []) 0 ≡ cut)
    × (read_at (4 ∷ 16 ∷ 2 ∷ 31 ∷ 1 ∷ []) 0 ≡ cut)
    × (read_at (4 ∷ 16 ∷ 2 ∷ 31 ∷ 1 ∷ 0 ∷ []) 0 ≡ bad 5)
unfolding read_at read_by step kind_at kind_by inside_at depart_at head_at slip_at entry_at byte_at judge and_then
faults = (refl, refl, refl, refl, refl, refl, refl, refl, refl, refl, refl, refl)

-- the envelopes of case 11
pub envelopes :
    (envelope 2 385 [] ≡ Err Fewer)
    × (envelope 2 385 (0 ∷ 1 ∷ 1 ∷ []) ≡ Err Length)
    × (envelope 2 385 (0 ∷ 2 ∷ 2 ∷ 0 ∷ []) ≡ Err Version)
    × (envelope 2 385 (0 ∷ 2 ∷ 1 ∷ 5 ∷ []) ≡ Ok tt)
    × (envelope 2 385 (1 ∷ 130 ∷ 1 ∷ []) ≡ Err Length)
    × (envelope 2 385 (1 ∷ 129 ∷ 1 ∷ []) ≡ Err Fewer)
    × (envelope 2 385 (0 ∷ 2 ∷ 1 ∷ 0 ∷ 0 ∷ []) ≡ Err Length)
unfolding envelope
envelopes = (refl, refl, refl, refl, refl, refl, refl)

-- n copies of xs before ys, and n of f around p
abbrev times : ℕ → List ℕ → List ℕ → List ℕ
times zero xs ys = ys
times (suc n) xs ys = xs ++ times n xs ys

abbrev nest : ℕ → (Program → Program) → Program → Program
nest zero f p = p
nest (suc n) f p = f (nest n f p)

-- a slip with all 32 names, from name up
abbrev full : ℕ → ℕ → Slip
full zero name = []
full (suc n) name = entry name 255 ∷ full n (name + 1)

-- a tree of the most bytes
abbrev Longest : List ℕ → Program → Type 0
Longest bytes p = (length bytes ≡ 384) × (read_at bytes 0 ≡ whole p 384)

-- each kind of depth: repeats, acts, splits to the left, splits to the right, departures, departures with the longest slip
pub longest :
    Longest (times 383 (3 ∷ []) (0 ∷ [])) (nest 383 repeat end)
    × Longest (3 ∷ times 191 (1 ∷ 3 ∷ []) (0 ∷ [])) (repeat (nest 191 strokes end))
    × Longest (3 ∷ times 191 (2 ∷ []) (times 191 (0 ∷ []) (0 ∷ []))) (repeat (nest 191 (λ p. split p end) end))
    × Longest (3 ∷ times 191 (2 ∷ 0 ∷ []) (0 ∷ [])) (repeat (nest 191 (split end) end))
    × Longest (times 127 (4 ∷ 16 ∷ 0 ∷ []) (1 ∷ 3 ∷ 0 ∷ [])) (nest 127 (depart (controller 16) []) (strokes end))
    × Longest (times 5 (4 ∷ 31 ∷ 32 ∷ entries (full 32 0)) (times 24 (1 ∷ 3 ∷ []) (0 ∷ []))) (nest 5 (depart (controller 31) (full 32 0)) (nest 24 strokes end))
unfolding read_at read_by step kind_at kind_by inside_at depart_at head_at slip_at entry_at byte_at judge and_then entries
longest = ((refl, refl), (refl, refl), (refl, refl), (refl, refl), (refl, refl), (refl, refl))
