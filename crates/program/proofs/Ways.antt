-- What the program reader and the departure reader answer on each of their ways, and that the bytes left fall at each call. Assumes nothing.
use mathlib.Core.Path.{◌≡◌, refl, sym, ap, ◌∙◌}
use mathlib.Core.List.{List}
use Prim.Native.Nat.{ℕ, ◌-◌, ◌<◌}
use native.Mathlib.Omega.{arith}
use lib.ListN.{length}
use Rattle.std.proofs.Common.{Result, Ok, Err}
use Rattle.program.specs.declared.names.Action.{Action}
use Rattle.program.specs.declared.names.Controller.{Controller}
use Rattle.program.specs.declared.reader.Fault.{Fault}
use Rattle.program.specs.declared.reader.Start.{Start}
use Rattle.program.specs.declared.reader.Start.TheVariants as start
use Rattle.program.specs.declared.reader.Departure.{Departure}
use borrow.Author.Tests.{lt-ltb, le-ltb}
use Rattle.program.specs.Tree.{Slip, Program, split, depart}
use Rattle.program.specs.Reading.{Found, whole, cut, bad, and_then, Kind, ends, acts, splits, repeats, departs, kind_at, head_at, depart_at, inside_at, step, read_at}
use Rattle.program.specs.Shown.{shown, start_of, shown_start, departure_of, shown_head, stop_of, stopped, fault_at}
use Rattle.program.specs.Faults.{InOrder}
use Rattle.program.proofs.Faults.{faults_in_order}
use Rattle.program.proofs.Found.{then_is}
use Rattle.program.proofs.Shows.{is_ok, is_err, err_of, then_failed, is_whole, shown_then}
use Rattle.program.proofs.Step.{start_grows, head_grows, step_is, read_step}
use Rattle.program.proofs.Laws.{grows}

-- from the start that is shown back to what was found
abbrev told : Start → Found Kind
told (start.End m) = whole ends m
told (start.Act a m) = whole (acts a) m
told (start.Split m) = whole splits m
told (start.Repeat m) = whole repeats m
told (start.Depart m) = whole departs m

told_start : (kind : Kind) (m : ℕ) → told (start_of kind m) ≡ whole kind m
told_start ends m = refl
told_start (acts a) m = refl
told_start splits m = refl
told_start repeats m = refl
told_start departs m = refl

pub found : {x : Start} (o : Found Kind) → shown_start o ≡ Ok x → o ≡ told x
found o e = let w = is_ok start_of o e in w.2 ∙ sym (told_start w.0 w.1) ∙ ap told w.3

-- the program at k, by its start
module _ (s : List ℕ) (k : ℕ) where
  pub at_start : {m : ℕ} (kind : Kind) → kind_at s k ≡ whole kind m → read_at s k ≡ inside_at (read_at s) s kind m
  at_start kind h = read_step s k ∙ step_is (read_at s) s k kind h

  pub r_err : {x : Fault} → shown_start (kind_at s k) ≡ Err x → shown (read_at s k) ≡ Err x
  unfolding step
  r_err {x} h = err_of (λ p m. m) x (read_step s k ∙ then_failed x _ (is_err start_of (kind_at s k) h))

  module _ {m : ℕ} where
    pub r_end : shown_start (kind_at s k) ≡ Ok (start.End m) → shown (read_at s k) ≡ Ok m
    unfolding inside_at
    r_end h = ap shown (at_start ends (found (kind_at s k) h))

    pub r_act : {a : Action} → shown_start (kind_at s k) ≡ Ok (start.Act a m) → shown (read_at s k) ≡ shown (read_at s m)
    unfolding inside_at
    r_act {a} h = ap shown (at_start (acts a) (found (kind_at s k) h)) ∙ shown_then (read_at s m) _

    pub r_repeat : shown_start (kind_at s k) ≡ Ok (start.Repeat m) → shown (read_at s k) ≡ shown (read_at s m)
    unfolding inside_at
    r_repeat h = ap shown (at_start repeats (found (kind_at s k) h)) ∙ shown_then (read_at s m) _

    pub r_depart : shown_start (kind_at s k) ≡ Ok (start.Depart m) → shown (read_at s k) ≡ shown (depart_at (read_at s) s m)
    unfolding inside_at
    r_depart h = ap shown (at_start departs (found (kind_at s k) h))

    -- a split, by its first side
    module _ (h : shown_start (kind_at s k) ≡ Ok (start.Split m)) where
      pub r_split_err : {x : Fault} → shown (read_at s m) ≡ Err x → shown (read_at s k) ≡ Err x
      unfolding inside_at
      r_split_err {x} e =
          err_of (λ p m. m) x (at_start splits (found (kind_at s k) h) ∙ then_failed x _ (is_err (λ p m. m) (read_at s m) e))

      pub r_split : {n : ℕ} → shown (read_at s m) ≡ Ok n → shown (read_at s k) ≡ shown (read_at s n)
      unfolding inside_at
      r_split {n} e =
          let p = is_whole (read_at s m) e in
          ap shown (at_start splits (found (kind_at s k) h) ∙ then_is (λ p m. and_then (read_at s m) (λ q e. whole (split p q) e)) p.1)
          ∙ shown_then (read_at s n) (λ q e. split p.0 q)

    -- the bytes left fall
    falls : {kind : Kind} → kind_at s k ≡ whole kind m → length s - m < length s - k
    falls h = omega (arith, (start_grows s k h).0, (start_grows s k h).1)

    pub less_act : {a : Action} → shown_start (kind_at s k) ≡ Ok (start.Act a m) → length s - m < length s - k
    less_act h = falls (found (kind_at s k) h)

    pub less_repeat : shown_start (kind_at s k) ≡ Ok (start.Repeat m) → length s - m < length s - k
    less_repeat h = falls (found (kind_at s k) h)

    pub less_depart : shown_start (kind_at s k) ≡ Ok (start.Depart m) → length s - m < length s - k
    less_depart h = falls (found (kind_at s k) h)

    pub less_first : shown_start (kind_at s k) ≡ Ok (start.Split m) → length s - m < length s - k
    less_first h = falls (found (kind_at s k) h)

    pub less_second : {n : ℕ} → shown_start (kind_at s k) ≡ Ok (start.Split m) → shown (read_at s m) ≡ Ok n → length s - n < length s - k
    less_second h e = omega (arith, less_first h, grows s m (is_whole (read_at s m) e).1)

-- a departure, from its controller's byte at k, by its own bytes
pub is_head : {d : Departure} (k : ℕ) (o : Found (Controller × Slip)) → shown_head k o ≡ Ok d →
    (h : Controller × Slip) × (o ≡ whole h d.carried) × (d ≡ departure_of k h d.carried)
is_head {d} k o e =
    let w = is_ok (departure_of k) o e in
    (w.0, w.2 ∙ ap (λ r. whole w.0 r.carried) w.3, sym w.3 ∙ ap (λ r. departure_of k w.0 r.carried) w.3)

module _ (s : List ℕ) (k : ℕ) where
  pub d_err : {x : Fault} → shown_head k (head_at s k) ≡ Err x → shown (depart_at (read_at s) s k) ≡ Err x
  unfolding depart_at
  d_err {x} h = err_of (λ p m. m) x (then_failed x _ (is_err (departure_of k) (head_at s k) h))

  module _ {d : Departure} (h : shown_head k (head_at s k) ≡ Ok d) where
    pub d_whole : shown (depart_at (read_at s) s k) ≡ shown (read_at s d.carried)
    unfolding depart_at
    d_whole =
        let w = is_head k (head_at s k) h in
        ap shown (then_is (λ h m. and_then (read_at s m) (λ p e. whole (depart h.0 h.1 p) e)) w.1)
        ∙ shown_then (read_at s d.carried) (λ p e. depart w.0.0 w.0.1 p)

    pub less_carried : length s - d.carried < length s - k
    less_carried = omega (arith, head_grows s k (is_head k (head_at s k) h).1)

-- the offset at which reading ends or stops
module _ (s : List ℕ) where
  pub ended : {m : ℕ} (r : Result ℕ Fault) → stopped s r ≡ Ok m → r ≡ Ok m
  ended {m} (Ok n) e = let same : n ≡ m = cc in ap Ok same
  ended (Err x) e = cc

  module _ (k : ℕ) where
    pub p_err : {x : Fault} → shown_start (kind_at s k) ≡ Err x → stopped s (shown (read_at s k)) ≡ Err (stop_of s x)
    p_err h = ap (stopped s) (r_err s k h)

    pub p_no_head : {x : Fault} → shown_head k (head_at s k) ≡ Err x → stopped s (shown (depart_at (read_at s) s k)) ≡ Err (stop_of s x)
    p_no_head h = ap (stopped s) (d_err s k h)

    pub p_carried : {d : Departure} → shown_head k (head_at s k) ≡ Ok d → stopped s (shown (depart_at (read_at s) s k)) ≡ stopped s (shown (read_at s d.carried))
    p_carried h = ap (stopped s) (d_whole s k h)

    module _ {m : ℕ} where
      pub p_end : shown_start (kind_at s k) ≡ Ok (start.End m) → stopped s (shown (read_at s k)) ≡ Ok m
      p_end h = ap (stopped s) (r_end s k h)

      pub p_act : {a : Action} → shown_start (kind_at s k) ≡ Ok (start.Act a m) → stopped s (shown (read_at s k)) ≡ stopped s (shown (read_at s m))
      p_act h = ap (stopped s) (r_act s k h)

      pub p_repeat : shown_start (kind_at s k) ≡ Ok (start.Repeat m) → stopped s (shown (read_at s k)) ≡ stopped s (shown (read_at s m))
      p_repeat h = ap (stopped s) (r_repeat s k h)

      pub p_depart : shown_start (kind_at s k) ≡ Ok (start.Depart m) → stopped s (shown (read_at s k)) ≡ stopped s (shown (depart_at (read_at s) s m))
      p_depart h = ap (stopped s) (r_depart s k h)

      module _ (h : shown_start (kind_at s k) ≡ Ok (start.Split m)) where
        pub p_split_stop : {o : ℕ} → stopped s (shown (read_at s m)) ≡ Err o → stopped s (shown (read_at s k)) ≡ Err o
        p_split_stop {o} e = go (shown (read_at s m)) refl e
          where
            go : (r : Result ℕ Fault) → shown (read_at s m) ≡ r → stopped s r ≡ Err o → stopped s (shown (read_at s k)) ≡ Err o
            go (Ok n) i e = cc
            go (Err x) i e = ap (stopped s) (r_split_err s k h i) ∙ e

        pub p_split : {n : ℕ} → stopped s (shown (read_at s m)) ≡ Ok n → stopped s (shown (read_at s k)) ≡ stopped s (shown (read_at s n))
        p_split e = ap (stopped s) (r_split s k h (ended _ e))

        pub p_less_second : {n : ℕ} → stopped s (shown (read_at s m)) ≡ Ok n → length s - n < length s - k
        p_less_second e = less_second s k h (ended _ e)

    -- from it back to the program's end, or to why there is none: a byte of no meaning is one of the bytes
    pub p_whole : {m : ℕ} → stopped s (shown (read_at s k)) ≡ Ok m → shown (read_at s k) ≡ Ok m
    p_whole e = ended _ e

    pub p_fault : {o : ℕ} → stopped s (shown (read_at s k)) ≡ Err o → shown (read_at s k) ≡ Err (fault_at s o)
    p_fault {o} e = go (read_at s k) (faults_in_order s k) e
      where
        go : (r : Found Program) → InOrder s k r → stopped s (shown r) ≡ Err o → shown r ≡ Err (fault_at s o)
        go (whole p m) i e = cc
        go cut i e = let same : length s ≡ o = cc in rw (le-ltb o (length s) (omega (arith, same))) refl
        go (bad x) i e = let same : x ≡ o = cc in rw (sym same, lt-ltb x (length s) i.1) refl

-- each way through the readers: what is read there, that fewer bytes are left, and where reading ends or stops
pub ruleset ways = (r_err, r_end, r_act, r_repeat, r_depart, r_split_err, r_split, d_err, d_whole, less_act, less_repeat, less_depart, less_first, less_second, less_carried, p_err, p_no_head, p_carried, p_end, p_act, p_repeat, p_depart, p_split_stop, p_split, p_less_second)

pub ruleset stops = (p_whole, p_fault)
