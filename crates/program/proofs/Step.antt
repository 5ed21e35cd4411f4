-- A whole program is a node with the programs inside it, each where it stands; and reading at k is one step over reading further on,
-- whatever bounds the depth. Assumes nothing.
use mathlib.Core.Path.{◌≡◌, refl, sym, ap, ◌∙◌}
use mathlib.Core.List.{List}
use Prim.Native.Nat.{ℕ, zero, suc, ◌+◌, ◌≤◌, ◌<◌}
use native.Mathlib.Omega.{arith}
use lib.ListN.{length}
use Rattle.program.specs.declared.names.Action.{Action}
use Rattle.program.specs.declared.names.Controller.{Controller}
use Rattle.program.specs.Tree.{Slip, Program, end, act, split, repeat, depart, encode, Good, Stands}
use Rattle.program.specs.Reading.{Found, whole, cut, and_then, Kind, ends, acts, splits, repeats, departs, kind_at, head_at, depart_at, inside_at, step, read_by, read_at}
use Rattle.program.proofs.Found.{byte_cut, then_inv, then_is, then_same, whole_as}
use Rattle.program.proofs.Stands.{after, inside}
use Rattle.program.proofs.Parts.{start_bytes, start_is, head_is}

-- a node, and the programs inside it, which ask reads
pub data Node (ask : ℕ → Found Program) (s : List ℕ) (k : ℕ) : Program → ℕ → Type 0 where
  n_end : {m : ℕ} → kind_at s k ≡ whole ends m → Node ask s k end m
  n_act : {a : Action} {p : Program} {i m : ℕ} → kind_at s k ≡ whole (acts a) i → ask i ≡ whole p m → Node ask s k (act a p) m
  n_split : {p q : Program} {i j m : ℕ} → kind_at s k ≡ whole splits i → ask i ≡ whole p j → ask j ≡ whole q m → Node ask s k (split p q) m
  n_repeat : {p : Program} {i m : ℕ} → kind_at s k ≡ whole repeats i → ask i ≡ whole p m → Node ask s k (repeat p) m
  n_depart : {c : Controller} {slip : Slip} {p : Program} {i j m : ℕ} → kind_at s k ≡ whole departs i → head_at s i ≡ whole (c, slip) j → ask j ≡ whole p m →
      Node ask s k (depart c slip p) m

module _ (ask : ℕ → Found Program) (s : List ℕ) (k : ℕ) where
  -- from a whole answer to its parts
  inside_inv : {p : Program} {i m : ℕ} (kind : Kind) → kind_at s k ≡ whole kind i → inside_at ask s kind i ≡ whole p m → Node ask s k p m
  unfolding inside_at depart_at
  inside_inv ends h e = whole_as (Node ask s k) e (n_end h)
  inside_inv (acts a) h e = let t = then_inv (ask _) _ e in whole_as (Node ask s k) t.3 (n_act h t.2)
  inside_inv splits h e =
      let t = then_inv (ask _) _ e in
      let w = then_inv (ask t.1) _ t.3 in
      whole_as (Node ask s k) w.3 (n_split h t.2 w.2)
  inside_inv repeats h e = let t = then_inv (ask _) _ e in whole_as (Node ask s k) t.3 (n_repeat h t.2)
  inside_inv departs h e =
      let t = then_inv (head_at s _) _ e in
      let w = then_inv (ask t.1) _ t.3 in
      whole_as (Node ask s k) w.3 (n_depart h t.2 w.2)

  pub step_inv : {p : Program} {m : ℕ} → step ask s k ≡ whole p m → Node ask s k p m
  unfolding step
  step_inv e = let t = then_inv (kind_at s k) _ e in inside_inv t.0 t.2 t.3

  -- and from the parts to the whole
  pub step_is : (kind : Kind) {i : ℕ} → kind_at s k ≡ whole kind i → step ask s k ≡ inside_at ask s kind i
  unfolding step
  step_is kind h = then_is (inside_at ask s) h

  pub step_con : {p : Program} {m : ℕ} → Node ask s k p m → step ask s k ≡ whole p m
  unfolding inside_at depart_at
  step_con (n_end h) = step_is ends h
  step_con (n_act {a = a} h r) = step_is (acts a) h ∙ then_is (λ p m. whole (act a p) m) r
  step_con (n_split {p = p} h r t) =
      step_is splits h ∙ then_is (λ p m. and_then (ask m) (λ q e. whole (split p q) e)) r ∙ then_is (λ q m. whole (split p q) m) t
  step_con (n_repeat h r) = step_is repeats h ∙ then_is (λ p m. whole (repeat p) m) r
  step_con (n_depart {c = c} {slip = slip} h r t) =
      step_is departs h ∙ then_is (λ h m. and_then (ask m) (λ p e. whole (depart h.0 h.1 p) e)) r ∙ then_is (λ p m. whole (depart c slip p) m) t

-- what is read stands there as its own bytes, and is well formed
node_is : {ask : ℕ → Found Program} {s : List ℕ} {k m : ℕ} {p : Program} →
    ((j : ℕ) (q : Program) (e : ℕ) → ask j ≡ whole q e → Stands s j (encode q) e × Good q) → Node ask s k p m → Stands s k (encode p) m × Good p
unfolding encode Good
node_is {s = s} {k = k} later (n_end h) = start_is s k h
node_is {s = s} {k = k} later (n_act h r) = let t = start_is s k h in let w = later _ _ _ r in (after t.0 w.0, (t.1, w.1))
node_is {s = s} {k = k} later (n_split h r r') =
    let w = later _ _ _ r in
    let v = later _ _ _ r' in
    (after (start_is s k h).0 (after w.0 v.0), (w.1, v.1))
node_is {s = s} {k = k} later (n_repeat h r) = let w = later _ _ _ r in (after (start_is s k h).0 w.0, w.1)
node_is {s = s} {k = k} later (n_depart h r r') =
    let t = head_is s _ r in
    let w = later _ _ _ r' in
    (after (start_is s k h).0 (after t.0 w.0), (t.1.0, t.1.1, t.1.2, w.1))

pub by_is : (depth : ℕ) (s : List ℕ) (k : ℕ) (p : Program) (m : ℕ) → read_by depth s k ≡ whole p m → Stands s k (encode p) m × Good p
unfolding read_by
by_is zero s k p m e = cc
by_is (suc depth) s k p m e = node_is (by_is depth s) (step_inv (read_by depth s) s k e)

-- a program's bytes are one or more, and so are a node's start's: what is read ends behind its start, and inside the bytes
some_bytes : (p : Program) → 0 < length (encode p)
unfolding encode
some_bytes end = omega arith
some_bytes (act a p) = omega arith
some_bytes (split p q) = omega arith
some_bytes (repeat p) = omega arith
some_bytes (depart c slip p) = omega arith

some_start : (kind : Kind) → 0 < length (start_bytes kind)
some_start ends = omega arith
some_start (acts a) = omega arith
some_start splits = omega arith
some_start repeats = omega arith
some_start departs = omega arith

pub by_grows : (depth : ℕ) (s : List ℕ) (k : ℕ) (p : Program) (m : ℕ) → read_by depth s k ≡ whole p m → (k < m) × (m ≤ length s)
by_grows depth s k p m e = inside (some_bytes p) (by_is depth s k p m e).0

module _ (s : List ℕ) (k : ℕ) {m : ℕ} where
  pub start_grows : {kind : Kind} → kind_at s k ≡ whole kind m → (k < m) × (m ≤ length s)
  start_grows {kind} e = inside (some_start kind) (start_is s k e).0

  pub head_grows : {h : Controller × Slip} → head_at s k ≡ whole h m → (k < m) × (m ≤ length s)
  head_grows e = inside (omega arith) (head_is s k e).0

-- a step looks at what ask says further on, and at nothing else of ask
module _ (ask ask' : ℕ → Found Program) (s : List ℕ) (k : ℕ) (same : (j : ℕ) → k < j → ask j ≡ ask' j)
    (up : (j : ℕ) (q : Program) (e : ℕ) → ask j ≡ whole q e → j < e) where
  inside_same : (kind : Kind) (i : ℕ) → k < i → inside_at ask s kind i ≡ inside_at ask' s kind i
  unfolding inside_at depart_at
  inside_same ends i h = refl
  inside_same (acts a) i h = ap (λ o. and_then o (λ p m. whole (act a p) m)) (same i h)
  inside_same splits i h =
      then_same (ask i) (λ p m e. ap (λ o. and_then o (λ q e. whole (split p q) e)) (same m (omega (arith, up i p m e))))
      ∙ ap (λ o. and_then o (λ p m. and_then (ask' m) (λ q e. whole (split p q) e))) (same i h)
  inside_same repeats i h = ap (λ o. and_then o (λ p m. whole (repeat p) m)) (same i h)
  inside_same departs i h =
      then_same (head_at s i) (λ d m e. ap (λ o. and_then o (λ p e. whole (depart d.0 d.1 p) e)) (same m (omega (arith, (head_grows s i e).0))))

  step_same : step ask s k ≡ step ask' s k
  unfolding step
  step_same = then_same (kind_at s k) (λ kind i e. inside_same kind i (start_grows s k e).0)

-- a bound that covers the bytes left is enough
past : (depth : ℕ) (s : List ℕ) (k : ℕ) → length s ≤ k → read_by depth s k ≡ cut
unfolding read_by step kind_at and_then
past zero s k h = refl
past (suc depth) s k h = ap (λ o. and_then o (inside_at (read_by depth s) s)) (byte_cut s k 0 5 _ h)

enough : (d e : ℕ) (s : List ℕ) (k : ℕ) → length s ≤ k + d → length s ≤ k + e → read_by d s k ≡ read_by e s k
unfolding read_by
enough zero e s k h i = sym (past e s k (omega arith))
enough (suc d) zero s k h i = past (suc d) s k (omega arith)
enough (suc d) (suc e) s k h i =
    step_same (read_by d s) (read_by e s) s k (λ j u. enough d e s j (omega arith) (omega arith)) (λ j q m r. (by_grows d s j q m r).0)

-- read_at is read_by at any such bound
pub read_by_lem : (depth : ℕ) (s : List ℕ) (k : ℕ) → length s ≤ k + depth → read_at s k ≡ read_by depth s k
unfolding read_at
read_by_lem depth s k h = enough (suc (length s)) depth s k (omega arith) h

pub read_step : (s : List ℕ) (k : ℕ) → read_at s k ≡ step (read_at s) s k
unfolding read_at read_by
read_step s k =
    step_same (read_by (length s) s) (read_at s) s k (λ j u. sym (read_by_lem (length s) s j (omega arith))) (λ j q m r. (by_grows (length s) s j q m r).0)
