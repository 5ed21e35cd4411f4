-- Where the program at a position ends, by its start and by the ends behind it. Assumes nothing.
use Rattle.std.proofs.Common.{◌≡◌, ℕ, ◌+◌, ◌≤◌, ◌<◌, ◌==◌, Bool, not, ◌&&◌, nat_lt, List, length, Option, Some, None, is_none, Ok, Err, slice_index, slice_index_or, cond, map, sym, ap, ◌∙◌, refl, arith}
use borrow.Author.Tests.{lt-ltb, le-ltb}
use Rattle.std.specs.List.{range_with_len}
use Rattle.std.proofs.lemmas.Bool.{ne_eqb}
use Rattle.std.proofs.lemmas.List.FromFn.{get_or-map-range_with_len, length-map-range_with_len}
use native.Mathlib.Decide.{dec_lt}
use lib.ListN.{get_or-eq_default}
use Rattle.program.specs.declared.names.Action.{Action}
use Rattle.program.specs.declared.reader.Fault.{Fault}
use Rattle.program.specs.declared.reader.Start.TheVariants as start
use Rattle.program.specs.declared.reader.Departure.{Departure}
use Rattle.program.specs.Tree.{Program}
use Rattle.program.specs.Reading.{Found, whole, cut, bad, kind_by, kind_at, head_at, read_at}
use Rattle.program.specs.Reading as reading
use Rattle.program.specs.Shown.{shown, shown_start, shown_head}
use Rattle.program.proofs.Found.{byte_is}
use Rattle.program.proofs.Step.{start_grows, head_grows}
use Rattle.program.proofs.Laws.{grows}
use Rattle.program.proofs.Ways.{found, is_head, r_err, r_end, r_act, r_repeat, r_depart, r_split_err, r_split, d_err, d_whole}
use Rattle.rules.specs.Nets.{place_bytes}
use Rattle.rules.specs.Sound.{is_whole}
use Rattle.rules.proofs.Rows.{never}
use Rattle.net.proofs.Writes.{place_short}
use Rattle.net.specs.Ends.{end_of, end_at, marked, ZerosFrom, zero_end, Behind, AllRight}

-- behind the bytes nothing ends
pub past : (s : List ℕ) (k : ℕ) → length s ≤ k → end_at s k ≡ None
unfolding end_at
past s k h = go (read_at s k) refl
  where
    go : (o : Found Program) → read_at s k ≡ o → end_of (shown o) ≡ None
    go (whole p m) e = let g = grows s k e in absurd (omega (arith, g.0, g.1))
    go cut e = refl
    go (bad o) e = refl

-- a program's end is not 0
begun : (s : List ℕ) (k : ℕ) → marked (end_at s k) ≡ 0 → end_at s k ≡ None
unfolding end_at
begun s k z = go (read_at s k) refl z
  where
    go : (o : Found Program) → read_at s k ≡ o → marked (end_of (shown o)) ≡ 0 → end_of (shown o) ≡ None
    go (whole p m) e z = absurd (omega (arith, (grows s k e).0, z))
    go cut e z = refl
    go (bad o) e z = refl

-- each zero is an end
zero_ends : (s : List ℕ) (k : ℕ) → k < length s → slice_index s k ≡ 0 → end_at s k ≡ Some (k + 1)
unfolding end_at kind_at kind_by
zero_ends s k low z =
    let kind : kind_at s k ≡ whole reading.ends (k + 1) = byte_is s k 0 5 _ low (omega arith) (omega (arith, z)) ∙ ap (kind_by s (k + 1)) z in
    ap end_of (r_end s k (ap shown_start kind))

-- so that behind a tree each position of a place has the end of a zero
pub unread : (s : List ℕ) (n : ℕ) {ends : List ℕ} → length s ≡ 384 → ZerosFrom s n → ends ≡ map zero_end (range_with_len 0 385) → (length ends ≡ 385) × Behind s ends n
unread s n {ends} long zeros is = (ap length is ∙ length-map-range_with_len zero_end 0 385, here)
  where
    here : Behind s ends n
    here j h l = ap (λ xs. slice_index xs j) is ∙ get_or-map-range_with_len zero_end 0 385 j j 0 l (omega arith) ∙ elim (dec_lt j 384) [
      | yes g ↦ ap (λ b. cond b (j + 1) 0) (lt-ltb j 384 g) ∙ sym (ap marked (zero_ends s j (omega (arith, long)) (zeros j h)))
      | no g ↦ ap (λ b. cond b (j + 1) 0) (le-ltb j 384 (omega (arith, g))) ∙ sym (ap marked (past s j (omega (arith, long, g))))
    ]

-- ends that are right behind k
module _ (s : List ℕ) (k : ℕ) (ends : List ℕ) (short : length s ≤ 384) (long : length ends ≡ 385) (right : Behind s ends (k + 1)) where
  looked : (m : ℕ) → k < m → slice_index ends m ≡ marked (end_at s m)
  looked m h = elim (dec_lt m 385) [
    | yes l ↦ right m (omega arith) l
    | no g ↦ get_or-eq_default ends 0 {n = m} (omega (arith, long)) ∙ sym (ap marked (past s m (omega arith)))
  ]

  -- the program at k, by its start
  pub e_err : {x : Fault} → shown_start (kind_at s k) ≡ Err x → 0 ≡ marked (end_at s k)
  unfolding end_at
  e_err h = sym (ap marked (ap end_of (r_err s k h)))

  module _ {m : ℕ} where
    pub e_end : shown_start (kind_at s k) ≡ Ok (start.End m) → m ≡ marked (end_at s k)
    unfolding end_at
    e_end h = sym (ap marked (ap end_of (r_end s k h)))

    pub e_act : {a : Action} → shown_start (kind_at s k) ≡ Ok (start.Act a m) → slice_index ends m ≡ marked (end_at s k)
    unfolding end_at
    e_act h = looked m (start_grows s k (found (kind_at s k) h)).0 ∙ sym (ap marked (ap end_of (r_act s k h)))

    pub e_repeat : shown_start (kind_at s k) ≡ Ok (start.Repeat m) → slice_index ends m ≡ marked (end_at s k)
    unfolding end_at
    e_repeat h = looked m (start_grows s k (found (kind_at s k) h)).0 ∙ sym (ap marked (ap end_of (r_repeat s k h)))

    module _ (h : shown_start (kind_at s k) ≡ Ok (start.Depart m)) where
      pub e_head_err : {x : Fault} → shown_head m (head_at s m) ≡ Err x → 0 ≡ marked (end_at s k)
      unfolding end_at
      e_head_err e = sym (ap marked (ap end_of (r_depart s k h ∙ d_err s m e)))

      pub e_depart : {d : Departure} → shown_head m (head_at s m) ≡ Ok d → slice_index ends d.carried ≡ marked (end_at s k)
      unfolding end_at
      e_depart {d} e =
          let a = (start_grows s k (found (kind_at s k) h)).0 in
          let b = (head_grows s m (is_head m (head_at s m) e).1).0 in
          looked d.carried (omega arith) ∙ sym (ap marked (ap end_of (r_depart s k h ∙ d_whole s m e)))

    module _ (h : shown_start (kind_at s k) ≡ Ok (start.Split m)) where
      first : slice_index ends m ≡ marked (end_at s m)
      first = looked m (start_grows s k (found (kind_at s k) h)).0

      pub e_split_none : slice_index ends m ≡ 0 → 0 ≡ marked (end_at s k)
      unfolding end_at
      e_split_none z = go (read_at s m) refl (begun s m (sym first ∙ z))
        where
          go : (o : Found Program) → read_at s m ≡ o → end_of (shown o) ≡ None → 0 ≡ marked (end_at s k)
          go (whole p m) e n = never (ap is_none n)
          go cut e n = sym (ap marked (ap end_of (r_split_err s k h (ap shown e))))
          go (bad o) e n = sym (ap marked (ap end_of (r_split_err s k h (ap shown e))))

      pub e_split : {n : ℕ} → slice_index ends m ≡ n → (n ≡ 0 → ⊥) → slice_index ends n ≡ marked (end_at s k)
      unfolding end_at
      e_split {n} z other = go (read_at s m) refl (sym first ∙ z)
        where
          go : (o : Found Program) → read_at s m ≡ o → marked (end_of (shown o)) ≡ n → slice_index ends n ≡ marked (end_at s k)
          go (whole p e) r i =
              let a = (start_grows s k (found (kind_at s k) h)).0 in
              let b = (grows s m r).0 in
              looked n (omega arith) ∙ sym (ap marked (ap end_of (r_split s k h (ap shown r ∙ ap Ok i))))
          go cut e i = absurd (other (sym i))
          go (bad o) e i = absurd (other (sym i))

-- a program of a place ends in it, or right behind it
pub fits : (s : List ℕ) (k : ℕ) {x : ℕ} → length s ≤ 384 → x ≡ marked (end_at s k) → x < 65536
unfolding end_at
fits s k {x} short is = rw is (go (read_at s k) refl)
  where
    go : (o : Found Program) → read_at s k ≡ o → marked (end_of (shown o)) < 65536
    go (whole p m) r = omega (arith, short, (grows s k r).1)
    go cut r = omega arith
    go (bad o) r = omega arith

-- what the ends of a place say of a position
pub begins : (s : List ℕ) (ends : List ℕ) (k : ℕ) → length s ≤ 384 → (length ends ≡ 385) × Behind s ends 0 → not (slice_index ends k == 0) ≡ is_whole (read_at s k)
unfolding end_at
begins s ends k short right = ap (λ x. not (x == 0)) known ∙ go (read_at s k) refl
  where
    known : slice_index ends k ≡ marked (end_at s k)
    known = elim (dec_lt k 385) [
      | yes l ↦ right.1 k (omega arith) l
      | no g ↦ get_or-eq_default ends 0 {n = k} (omega (arith, right.0)) ∙ sym (ap marked (past s k (omega arith)))
    ]

    go : (o : Found Program) → read_at s k ≡ o → not (marked (end_of (shown o)) == 0) ≡ is_whole o
    go (whole p m) e = ap not (ne_eqb m 0 (omega (arith, (grows s k e).0)))
    go cut e = refl
    go (bad o) e = refl

-- and of the places: what a place that has been read says of a position
pub program_is : (before places : List ℕ) (all : List (Option (List ℕ))) (place position : ℕ) {ends : List ℕ} {a k r : ℕ} {b : Bool} →
    AllRight places all → places ≡ before → place < 8 → a ≡ place → k ≡ position → slice_index_or all a None ≡ Some ends → r ≡ slice_index ends k → b ≡ not (r == 0) →
    b ≡ (nat_lt place 8 && is_whole (read_at (place_bytes before place) position))
program_is before places all place position {ends} {a} {k} right same low i j here found e =
    e ∙ ap (λ x. not (x == 0)) found ∙ begins (place_bytes places a) ends k (place_short places a) (right a ends here) ∙ rw (same, i, j, lt-ltb place 8 low) refl

pub ruleset endings = (e_err, e_end, e_act, e_repeat, e_head_err, e_depart, e_split_none, e_split)
