-- The laws of reading. Assumes nothing.
use mathlib.Core.Path.{◌≡◌, refl, ap, ◌∙◌}
use mathlib.Core.List.{List, ◌++◌}
use mathlib.Core.Logic.{◌↔◌}
use Prim.Native.Nat.{ℕ, suc, ◌+◌, ◌≤◌, ◌<◌}
use native.Mathlib.Omega.{arith}
use lib.ListN.{length, drop}
use Rattle.program.specs.declared.names.Action.{Action}
use Rattle.program.specs.declared.names.Controller.{Controller}
use Rattle.program.specs.Tree.{Slip, Program, end, act, split, repeat, depart, entries, encode, Good, Stands}
use Rattle.program.specs.Reading.{whole, ends, acts, splits, repeats, departs, head_at, read_at}
use Rattle.program.proofs.Stands.{more, first, parts, elsewhere}
use Rattle.program.proofs.Parts.{start_bytes, start_back, head_bytes, head_back}
use Rattle.program.proofs.Step.{n_end, n_act, n_split, n_repeat, n_depart, step_con, by_is, by_grows, read_step}

-- what was read is exactly its own bytes, and well formed
pub bytes_are : (s : List ℕ) (k : ℕ) {p : Program} {m : ℕ} → read_at s k ≡ whole p m → Stands s k (encode p) m × Good p
unfolding read_at
bytes_are s k e = by_is (suc (length s)) s k _ _ e

pub grows : (s : List ℕ) (k : ℕ) {p : Program} {m : ℕ} → read_at s k ≡ whole p m → (k < m) × (m ≤ length s)
unfolding read_at
grows s k e = by_grows (suc (length s)) s k _ _ e

-- and a well formed program's bytes, wherever they stand, are read as that program, up to where they end
pub read_back : (s : List ℕ) (k : ℕ) (p : Program) {m : ℕ} → Good p → Stands s k (encode p) m → read_at s k ≡ whole p m
unfolding Good encode
read_back s k end g t = read_step s k ∙ step_con (read_at s) s k (n_end (start_back s k ends tt t))
read_back s k (act a p) g t =
    let w = parts (start_bytes (acts a)) t in
    read_step s k ∙ step_con (read_at s) s k (n_act (start_back s k (acts a) g.0 w.0) (read_back s (k + length (start_bytes (acts a))) p g.1 w.1))
read_back s k (split p q) g t =
    let w = parts (start_bytes splits) t in
    let v = parts (encode p) w.1 in
    let j = k + length (start_bytes splits) in
    read_step s k ∙ step_con (read_at s) s k
    (n_split (start_back s k splits tt w.0) (read_back s j p g.0 v.0) (read_back s (j + length (encode p)) q g.1 v.1))
read_back s k (repeat p) g t =
    let w = parts (start_bytes repeats) t in
    read_step s k ∙ step_con (read_at s) s k (n_repeat (start_back s k repeats tt w.0) (read_back s (k + length (start_bytes repeats)) p g w.1))
read_back s k (depart c slip p) g t =
    let w = parts (start_bytes departs) t in
    let v = parts (head_bytes (c, slip)) w.1 in
    let j = k + length (start_bytes departs) in
    read_step s k ∙ step_con (read_at s) s k
    (n_depart (start_back s k departs tt w.0) (head_back s j (c, slip) (g.0, g.1, g.2) v.0) (read_back s (j + length (head_bytes (c, slip))) p g.3 v.1))

-- reading finds a program exactly where a well formed program's bytes stand
pub reads_exactly : (s : List ℕ) (k : ℕ) (p : Program) (m : ℕ) → (read_at s k ≡ whole p m) ↔ (Stands s k (encode p) m × Good p)
reads_exactly s k p m = (bytes_are s k, λ t. read_back s k p t.1 t.0)

pub round_trip : (p : Program) (rest : List ℕ) → Good p → read_at (encode p ++ rest) 0 ≡ whole p (length (encode p))
round_trip p rest g = read_back (encode p ++ rest) 0 p g (elsewhere 0 (encode p) rest refl) ∙ ap (whole p) (omega arith)

-- no two well formed programs have the same bytes, nor do the bytes of one begin another's
pub one_encoding : (p q : Program) (a b : List ℕ) → Good p → Good q → encode p ++ a ≡ encode q ++ b → p ≡ q
one_encoding p q a b g h e =
    let x = round_trip p a g in
    let y = rw (← e) at (round_trip q b h) in
    cc

-- bytes that are read as a program are read so wherever they stand, whatever follows
pub moved : (s s' rest : List ℕ) (k j : ℕ) (p : Program) (m : ℕ) → read_at s k ≡ whole p m → drop j s' ≡ encode p ++ rest →
    read_at s' j ≡ whole p (j + length (encode p))
moved s s' rest k j p m e f = read_back s' j p (bytes_are s k e).1 (elsewhere j (encode p) rest f)

-- the programs inside a whole program, each where it stands
module _ (s : List ℕ) (k : ℕ) {e : ℕ} where
  pub in_act : {a : Action} {p : Program} → read_at s k ≡ whole (act a p) e → read_at s (k + 1 + 1) ≡ whole p e
  unfolding encode Good
  in_act {a} {p} h =
      let t = bytes_are s k h in
      read_back s (k + 1 + 1) p t.1.1 (first (first t.0).2).2

  pub in_split : {p q : Program} → read_at s k ≡ whole (split p q) e →
      (read_at s (k + 1) ≡ whole p (k + 1 + length (encode p))) × (read_at s (k + 1 + length (encode p)) ≡ whole q e)
  unfolding encode Good
  in_split {p} {q} h =
      let t = bytes_are s k h in
      let w = parts (encode p) (first t.0).2 in
      (read_back s (k + 1) p t.1.0 w.0, read_back s (k + 1 + length (encode p)) q t.1.1 w.1)

  pub in_repeat : {p : Program} → read_at s k ≡ whole (repeat p) e → read_at s (k + 1) ≡ whole p e
  unfolding encode Good
  in_repeat {p} h =
      let t = bytes_are s k h in
      read_back s (k + 1) p t.1 (first t.0).2

  pub in_depart : {c : Controller} {slip : Slip} {p : Program} → read_at s k ≡ whole (depart c slip p) e →
      (head_at s (k + 1) ≡ whole (c, slip) (k + 1 + 1 + 1 + length (entries slip))) × (read_at s (k + 1 + 1 + 1 + length (entries slip)) ≡ whole p e)
  unfolding encode Good
  in_depart {c} {slip} {p} h =
      let t = bytes_are s k h in
      let f = (first t.0).2 in
      let w = parts (entries slip) (first (first f).2).2 in (
        head_back s (k + 1) (c, slip) (t.1.0, t.1.1, t.1.2) (more (first f).0 (first f).1 (more (first (first f).2).0 (first (first f).2).1 w.0)),
        read_back s (k + 1 + 1 + 1 + length (entries slip)) p t.1.3 w.1,
      )
