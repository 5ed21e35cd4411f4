-- The node at a position, with the positions of the programs inside it. Definitions only.
use Rattle.std.specs.Prelude.{ℕ, ◌+◌, List, length, Option, Some, None}
use Rattle.program.specs.declared.node.Node.{Node}
use Rattle.program.specs.declared.node.Node.TheVariants.{End, Act, Split, Repeat, Depart}
use Rattle.program.specs.Tree.{Program, end, act, split, repeat, depart, entries, encode}
use Rattle.program.specs.Reading.{Found, whole, cut, bad, and_then, Kind, ends, acts, splits, repeats, departs, kind_at, head_at, read_at}
use Rattle.program.specs.Shown.{departure_of}

-- the node of a program that stands at k
unfoldable pub node_of : ℕ → Program → Node
node_of k end = End
node_of k (act a p) = Act a (k + 1 + 1)
node_of k (split p q) = Split (k + 1) (k + 1 + length (encode p))
node_of k (repeat p) = Repeat (k + 1)
node_of k (depart c slip p) = Depart (departure_of (k + 1) (c, slip) (k + 1 + 1 + 1 + length (entries slip)))

-- what is found behind a node's start, from k
unfoldable pub node_behind : List ℕ → Kind → ℕ → Found Node
node_behind s ends k = whole End k
node_behind s (acts a) k = whole (Act a k) k
node_behind s splits k = and_then (read_at s k) (λ p m. whole (Split k m) m)
node_behind s repeats k = whole (Repeat k) k
node_behind s departs k = and_then (head_at s k) (λ h m. whole (Depart (departure_of k h m)) m)

abbrev pub or_nothing : Found Node → Option Node
or_nothing (whole node m) = Some node
or_nothing cut = None
or_nothing (bad o) = None

-- the node at k: where a program can be read there, its node (`node_is`)
unfoldable pub node_at : List ℕ → ℕ → Option Node
node_at s k = or_nothing (and_then (kind_at s k) (node_behind s))
