-- What reading bytes at an offset finds, for every list of bytes and every offset: each byte is judged when it is read, by the
-- bytes before it, and a byte with no meaning at its place is named by its own offset. Definitions only.
use Rattle.std.specs.Prelude.{ℕ, zero, suc, ◌+◌, List, [], ◌∷◌, Bool, true, false, length, get_or, ltb, leb}
use Rattle.program.specs.declared.names.Action.{Action}
use Rattle.program.specs.declared.names.Controller.{Controller}
use Rattle.program.specs.Names.{action, controller}
use Rattle.program.specs.Tree.{Slip, entry, Program, end, act, split, repeat, depart}

-- a whole value, with the offset after it; the bytes end before that; or a byte, at this offset, with no meaning at its place
pub data Found (A : Type 0) : Type 0 where
  whole : A → ℕ → Found A
  cut : Found A
  bad : ℕ → Found A

unfoldable pub and_then : {A B : Type 0} → Found A → (A → ℕ → Found B) → Found B
and_then (whole a m) f = f a m
and_then cut f = cut
and_then (bad o) f = bad o

-- is there a byte, is it at least the lowest, is it below the bound
unfoldable pub judge : {A : Type 0} → Bool → Bool → Bool → ℕ → ℕ → (ℕ → Found A) → Found A
judge false low high k b f = cut
judge true false high k b f = bad k
judge true true false k b f = bad k
judge true true true k b f = f b

-- the byte at k, which has a meaning from lo up to, not including, hi; then f of it
unfoldable pub byte_at : {A : Type 0} → List ℕ → ℕ → ℕ → ℕ → (ℕ → Found A) → Found A
byte_at s k lo hi f = judge (ltb k (length s)) (leb lo (get_or s k 0)) (ltb (get_or s k 0) hi) k (get_or s k 0) f

-- the table's first column: what a first byte says of its node, and an act's action
pub data Kind : Type 0 where
  ends : Kind
  acts : Action → Kind
  splits : Kind
  repeats : Kind
  departs : Kind

unfoldable pub kind_by : List ℕ → ℕ → ℕ → Found Kind
kind_by s k zero = whole ends k
kind_by s k (suc zero) = byte_at s k 0 16 (λ a. whole (acts (action a)) (k + 1))
kind_by s k (suc (suc zero)) = whole splits k
kind_by s k (suc (suc (suc zero))) = whole repeats k
kind_by s k (suc (suc (suc (suc b)))) = whole departs k

unfoldable pub kind_at : List ℕ → ℕ → Found Kind
kind_at s k = byte_at s k 0 5 (kind_by s (k + 1))

-- a slip entry at k, with a name from low up; rest reads the later entries, whose names are from its argument up
unfoldable pub entry_at : (ℕ → Found Slip) → List ℕ → ℕ → ℕ → Found Slip
entry_at rest s low k =
    byte_at s k low 32 (λ name.
    byte_at s (k + 1) 1 256 (λ count.
    and_then (rest (name + 1)) (λ slip m. whole (entry name count ∷ slip) m)))

-- n slip entries from k, with names from low up
unfoldable pub slip_at : List ℕ → ℕ → ℕ → ℕ → Found Slip
slip_at s zero low k = whole [] k
slip_at s (suc n) low k = entry_at (λ l. slip_at s n l (k + 1 + 1)) s low k

-- a departure's own bytes, from k: controller, number of slip entries, entries
unfoldable pub head_at : List ℕ → ℕ → Found (Controller × Slip)
head_at s k =
    byte_at s k 16 32 (λ c.
    byte_at s (k + 1) 0 33 (λ n.
    and_then (slip_at s n 0 (k + 1 + 1)) (λ slip m. whole (controller c, slip) m)))

-- these, and then the carried program; ask reads the program at an offset
unfoldable pub depart_at : (ℕ → Found Program) → List ℕ → ℕ → Found Program
depart_at ask s k = and_then (head_at s k) (λ h m. and_then (ask m) (λ p e. whole (depart h.0 h.1 p) e))

-- the table's last column: what stands behind a node's start, from k
unfoldable pub inside_at : (ℕ → Found Program) → List ℕ → Kind → ℕ → Found Program
inside_at ask s ends k = whole end k
inside_at ask s (acts a) k = and_then (ask k) (λ p m. whole (act a p) m)
inside_at ask s splits k = and_then (ask k) (λ p m. and_then (ask m) (λ q e. whole (split p q) e))
inside_at ask s repeats k = and_then (ask k) (λ p m. whole (repeat p) m)
inside_at ask s departs k = depart_at ask s k

-- the node at k; ask reads the programs inside it
unfoldable pub step : (ℕ → Found Program) → List ℕ → ℕ → Found Program
step ask s k = and_then (kind_at s k) (inside_at ask s)

-- depth bounds how deep the tree goes
unfoldable pub read_by : ℕ → List ℕ → ℕ → Found Program
read_by zero s k = cut
read_by (suc depth) s k = step (read_by depth s) s k

-- the program at k; a tree is no deeper than its bytes are many
unfoldable pub read_at : List ℕ → ℕ → Found Program
read_at s k = read_by (suc (length s)) s k
