-- The node at a position is the node of the program that is read there. Assumes nothing.
use mathlib.Core.Path.{◌≡◌, sym, ap, ap₂, ◌∙◌}
use mathlib.Core.List.{List}
use Prim.Native.Nat.{ℕ}
use native.Mathlib.Omega.{arith}
use Rattle.std.proofs.Common.{Some}
use Rattle.program.specs.declared.node.Node.TheVariants.{Act, Split, Repeat, Depart}
use Rattle.program.specs.Tree.{Program}
use Rattle.program.specs.Reading.{whole, Kind, ends, acts, splits, repeats, departs, kind_at, read_at}
use Rattle.program.specs.Shown.{departure_of}
use Rattle.program.specs.Nodes.{node_of, node_behind, or_nothing, node_at}
use Rattle.program.proofs.Found.{then_is}
use Rattle.program.proofs.Parts.{start_is, head_is}
use Rattle.program.proofs.Step.{step_inv, read_step}
use Rattle.program.proofs.Step as parts
use Rattle.program.proofs.Laws.{bytes_are}

behind : (s : List ℕ) (k : ℕ) {m : ℕ} (kind : Kind) → kind_at s k ≡ whole kind m → node_at s k ≡ or_nothing (node_behind s kind m)
unfolding node_at
behind s k kind h = ap or_nothing (then_is (node_behind s) h)

-- where a program can be read, the node is its node, each program inside it where its bytes stand
node_by : {s : List ℕ} {k m : ℕ} {p : Program} → parts.Node (read_at s) s k p m → node_at s k ≡ Some (node_of k p)
unfolding node_behind node_of
node_by {s} {k} (parts.n_end h) = behind s k ends h
node_by {s} {k} (parts.n_act {a = a} h r) = behind s k (acts a) h ∙ ap (λ n. Some (Act a n)) (omega (arith, (start_is s k h).0.up))
node_by {s} {k} (parts.n_split {p = p} {i = i} h r t) =
    behind s k splits h ∙ ap or_nothing (then_is (λ q n. whole (Split i n) n) r)
    ∙ ap₂ (λ m n. Some (Split m n)) (start_is s k h).0.up (omega (arith, (start_is s k h).0.up, (bytes_are s i r).0.up))
node_by {s} {k} (parts.n_repeat h r) = behind s k repeats h ∙ ap (λ n. Some (Repeat n)) (start_is s k h).0.up
node_by {s} {k} (parts.n_depart {c = c} {slip = slip} {i = i} h r t) =
    behind s k departs h ∙ ap or_nothing (then_is (λ h n. whole (Depart (departure_of i h n)) n) r)
    ∙ ap₂ (λ j n. Some (Depart (departure_of j (c, slip) n))) (start_is s k h).0.up (omega (arith, (start_is s k h).0.up, (head_is s i r).0.up))

pub node_is : (s : List ℕ) (k : ℕ) {p : Program} {m : ℕ} → read_at s k ≡ whole p m → node_at s k ≡ Some (node_of k p)
node_is s k e = node_by (step_inv (read_at s) s k (sym (read_step s k) ∙ e))
