-- What the tally answers on each of its ways, and that the bytes left fall at each call.
use Prim.Native.Nat.{ℕ, ◌+◌, ◌-◌, ◌<◌}
use mathlib.Core.Path.{◌≡◌, refl, sym, ap, ◌∙◌}
use mathlib.Core.Bool.{true, ◌&&◌}
use mathlib.Core.List.{List}
use native.Mathlib.Omega.{arith}
use lib.ListN.{length}
use Rattle.std.proofs.Common.{Ok, Err}
use Rattle.program.specs.declared.names.Action.{Action}
use Rattle.program.specs.declared.names.Controller.{Controller}
use Rattle.program.specs.declared.reader.Fault.{Fault}
use Rattle.program.specs.declared.reader.Start.TheVariants as start
use Rattle.program.specs.declared.reader.Departure.{Departure}
use Rattle.program.specs.Tree.{Slip, Program, act, split, repeat, depart}
use Rattle.program.specs.Reading.{Found, whole, cut, bad, and_then, ends, acts, splits, repeats, departs, kind_at, head_at, depart_at, inside_at, step, read_at}
use Rattle.program.specs.Shown.{start_of, shown_start, departure_of, shown_head}
use Rattle.program.proofs.Found.{then_is}
use Rattle.program.proofs.Shows.{is_ok, is_err, err_of, then_failed}
use Rattle.program.proofs.Step.{read_step}
use Rattle.program.proofs.Laws.{bytes_are, grows}
use Rattle.program.proofs.Ways.{found, at_start, is_head, less_act, less_repeat, less_depart, less_first, less_carried}
use Rattle.policy.specs.declared.tally.Tally.{Tally}
use Rattle.policy.specs.Counts.{slip_allows}
use Rattle.policy.specs.Tests.{fits_allb, honestb}
use Rattle.policy.specs.Bytes.{none, fits_bytes, more, gathered, slip_counts}
use Rattle.policy.specs.Tallies.{tallied, tally_of}
use Rattle.policy.proofs.Gathers.{gathers_needs}
use Rattle.policy.proofs.Slips.{carried_fits}

-- what a tally says of what reading found
pub was_read : {y : Tally} (f : Program → List ℕ) (o : Found Program) → tally_of f o ≡ Ok y →
    (p : Program) × (o ≡ whole p y.end) × (tallied f p y.end ≡ y)
was_read f o e =
    let w = is_ok (tallied f) o e in
    (w.0, w.2 ∙ ap (λ t. whole w.0 t.end) w.3, sym (ap (λ t. tallied f w.0 t.end) w.3) ∙ w.3)

-- a node around a program changes neither end nor honesty
around : (f f' : Program → List ℕ) (node : Program → Program) (o : Found Program) → ((p : Program) → f (node p) ≡ f' p) → ((p : Program) → honestb (node p) ≡ honestb p) →
    tally_of f (and_then o (λ p m. whole (node p) m)) ≡ tally_of f' o
unfolding and_then
around f f' node (whole p m) e h = λ i. Ok (record { end = m; honest = h p i; needs = e p i })
around f f' node cut e h = refl
around f f' node (bad o) e h = refl

-- the program at k, by its start
module _ (s : List ℕ) (k times : ℕ) (before : List ℕ) where
  pub t_err : {x : Fault} → shown_start (kind_at s k) ≡ Err x → tally_of (gathered times before) (read_at s k) ≡ Err x
  unfolding step
  t_err {x} h = err_of (tallied (gathered times before)) x (read_step s k ∙ then_failed x _ (is_err start_of (kind_at s k) h))

  module _ {m : ℕ} where
    pub t_end : shown_start (kind_at s k) ≡ Ok (start.End m) →
        tally_of (gathered times before) (read_at s k) ≡ Ok (record { end = m; honest = true; needs = before })
    unfolding inside_at gathered
    t_end h = ap (tally_of (gathered times before)) (at_start s k ends (found (kind_at s k) h))

    pub t_act : {a : Action} → shown_start (kind_at s k) ≡ Ok (start.Act a m) →
        tally_of (gathered times before) (read_at s k) ≡ tally_of (gathered times (more before a.0 times)) (read_at s m)
    unfolding inside_at gathered
    t_act {a} h =
        ap (tally_of (gathered times before)) (at_start s k (acts a) (found (kind_at s k) h))
        ∙ around (gathered times before) _ (act a) (read_at s m) (λ p. refl) (λ p. refl)

    pub t_repeat : shown_start (kind_at s k) ≡ Ok (start.Repeat m) →
        tally_of (gathered times before) (read_at s k) ≡ tally_of (gathered 255 before) (read_at s m)
    unfolding inside_at gathered
    t_repeat h =
        ap (tally_of (gathered times before)) (at_start s k repeats (found (kind_at s k) h))
        ∙ around (gathered times before) _ repeat (read_at s m) (λ p. refl) (λ p. refl)

    pub t_depart : shown_start (kind_at s k) ≡ Ok (start.Depart m) →
        tally_of (gathered times before) (read_at s k) ≡ tally_of (gathered times before) (depart_at (read_at s) s m)
    unfolding inside_at
    t_depart h = ap (tally_of (gathered times before)) (at_start s k departs (found (kind_at s k) h))

    -- a split, by its first side and then by its second
    module _ (h : shown_start (kind_at s k) ≡ Ok (start.Split m)) where
      at_split : read_at s k ≡ and_then (read_at s m) (λ p n. and_then (read_at s n) (λ q e. whole (split p q) e))
      unfolding inside_at
      at_split = at_start s k splits (found (kind_at s k) h)

      pub t_first_err : {x : Fault} → tally_of (gathered times before) (read_at s m) ≡ Err x → tally_of (gathered times before) (read_at s k) ≡ Err x
      t_first_err {x} e =
          err_of (tallied (gathered times before)) x (at_split ∙ then_failed x _ (is_err (tallied (gathered times before)) (read_at s m) e))

      module _ {y : Tally} (e : tally_of (gathered times before) (read_at s m) ≡ Ok y) where
        pub t_second_err : {x : Fault} → tally_of (gathered times y.needs) (read_at s y.end) ≡ Err x →
            tally_of (gathered times before) (read_at s k) ≡ Err x
        t_second_err {x} g =
            let p = was_read (gathered times before) (read_at s m) e in
            err_of (tallied (gathered times before)) x
            (at_split ∙ then_is (λ p n. and_then (read_at s n) (λ q e. whole (split p q) e)) p.1
            ∙ then_failed x _ (is_err (tallied (gathered times y.needs)) (read_at s y.end) g))

        pub t_split : {z : Tally} → tally_of (gathered times y.needs) (read_at s y.end) ≡ Ok z →
            tally_of (gathered times before) (read_at s k) ≡ Ok (record { end = z.end; honest = y.honest && z.honest; needs = z.needs })
        unfolding gathered
        t_split {z} g =
            let p = was_read (gathered times before) (read_at s m) e in
            let q = was_read (gathered times y.needs) (read_at s y.end) g in
            ap (tally_of (gathered times before))
            (at_split ∙ then_is (λ p n. and_then (read_at s n) (λ q e. whole (split p q) e)) p.1 ∙ then_is (λ q e. whole (split p.0 q) e) q.1)
            ∙ (λ i. Ok (record { end = z.end; honest = (p.2 i).honest && honestb q.0; needs = gathered times (p.2 i).needs q.0 }))
            ∙ (λ i. Ok (record { end = z.end; honest = y.honest && (q.2 i).honest; needs = (q.2 i).needs }))

        pub less_second : length s - y.end < length s - k
        less_second = omega (arith, less_first s k h, grows s m (was_read (gathered times before) (read_at s m) e).1)

-- a departure, from its controller's byte at k, by its own bytes and then by what it carries
module _ (s : List ℕ) (k times : ℕ) (before : List ℕ) where
  pub d_err : {x : Fault} → shown_head k (head_at s k) ≡ Err x → tally_of (gathered times before) (depart_at (read_at s) s k) ≡ Err x
  unfolding depart_at
  d_err {x} h = err_of (tallied (gathered times before)) x (then_failed x _ (is_err (departure_of k) (head_at s k) h))

  module _ {d : Departure} (h : shown_head k (head_at s k) ≡ Ok d) where
    at_carried : (own : Controller × Slip) → head_at s k ≡ whole own d.carried →
        depart_at (read_at s) s k ≡ and_then (read_at s d.carried) (λ p e. whole (depart own.0 own.1 p) e)
    unfolding depart_at
    at_carried own i = then_is (λ h m. and_then (read_at s m) (λ p e. whole (depart h.0 h.1 p) e)) i

    pub d_carried_err : {x : Fault} → tally_of (gathered 1 none) (read_at s d.carried) ≡ Err x →
        tally_of (gathered times before) (depart_at (read_at s) s k) ≡ Err x
    d_carried_err {x} e =
        let o = is_head k (head_at s k) h in
        err_of (tallied (gathered times before)) x (at_carried o.0 o.1 ∙ then_failed x _ (is_err (tallied (gathered 1 none)) (read_at s d.carried) e))

    -- the carried program's needs, as they are gathered, against the slip, as it stands
    pub d_whole : {y : Tally} → tally_of (gathered 1 none) (read_at s d.carried) ≡ Ok y →
        tally_of (gathered times before) (depart_at (read_at s) s k)
        ≡ Ok (record { end = y.end; honest = fits_bytes y.needs (slip_counts s d.entries d.slip none) && y.honest; needs = more before d.controller.0 times })
    unfolding gathered
    d_whole {y} e =
        let (own, head, is) = is_head k (head_at s k) h in
        let (p, read, tally) = was_read (gathered 1 none) (read_at s d.carried) e in
        let fits : fits_allb (slip_allows own.1) p ≡ fits_bytes (gathered 1 none p) (slip_counts s (length own.1) (k + 1 + 1) none) =
        sym (ap (λ l. fits_bytes l (slip_counts s (length own.1) (k + 1 + 1) none)) (gathers_needs p)
        ∙ carried_fits s k d.carried own.1 head p (bytes_are s d.carried read).1) in
        ap (tally_of (gathered times before)) (at_carried own head ∙ then_is (λ p e. whole (depart own.0 own.1 p) e) read)
        ∙ (λ i. Ok (record { end = y.end; honest = fits i && honestb p; needs = more before own.0.0 times }))
        ∙ (λ i. Ok (record {
          end = y.end;
          honest = fits_bytes (tally i).needs (slip_counts s (sym is i).entries (sym is i).slip none) && (tally i).honest;
          needs = more before (sym is i).controller.0 times;
        }))

-- what the proof of the two functions searches with: each way through the code has its law
pub ruleset ways = (t_err, t_end, t_act, t_repeat, t_depart, t_first_err, t_second_err, t_split, less_act, less_repeat, less_depart, less_first, less_second, d_err, d_carried_err, d_whole, less_carried)
