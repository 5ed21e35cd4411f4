-- Each row of the table, beside its plain meaning. Assumes nothing.
use Rattle.std.proofs.Common.{◌≡◌, ℕ, ◌+◌, ◌*◌, ◌<◌, ◌≤◌, Bool, true, false, not, ◌&&◌, ◌||◌, T, eqb, ltb, leb, ◌⊎◌, ◌↔◌, List, [], ◌++◌, length, get_or, sym, refl, ap, ◌∙◌, inl, inr, append-nil, arith, le→leb, eqb→eq, ltb→lt, lt→ltb, leb→le, drop_of_length-le, ltb-false, le-ltb, eqb-true, Result, Ok, Err}
use Rattle.std.specs.Prelude.{⊤}
use Rattle.std.specs.List.{list_all, list_any}
use mathlib.Core.Logic.Iff
use native.Mathlib.Decide.{dec_lt}
use borrow.Author.Tests.{not-true, not-false}
use Rattle.program.specs.declared.names.Controller.{Controller}
use Rattle.program.specs.declared.envelope.EnvelopeFault.{EnvelopeFault}
use Rattle.program.specs.declared.envelope.EnvelopeFault.TheVariants.{Fewer, Length, Version}
use Rattle.program.specs.Tree.{Program, encode, Good}
use Rattle.program.specs.Reading.{Found, whole, cut, bad, read_at}
use Rattle.program.specs.Envelope.{stated, envelope}
use Rattle.program.proofs.Laws.{bytes_are, round_trip}
use Rattle.program.proofs.Envelopes.{envelope_exactly}
use Rattle.policy.specs.Tests.{fits_allb, honestb, slip_fitsb}
use Rattle.policy.proofs.Tests.{honest_test, fits_all_test, slip_test_lem}
use Rattle.rules.specs.declared.net.Net.{Net}
use Rattle.rules.specs.Rows.{NoneHolds}
use Rattle.rules.specs.Nets.{zero_thread, free, thread_at, has, free_slot, free_place, in_net}
use Rattle.rules.specs.Sound.{soundb}
use Rattle.rules.specs.Calls.{is_fewer, is_length, is_version, tree, read_tree, code_of, is_cut, is_bad, leaves_over, tree_rows, controllers_of, set_up_net, coherentb}
use Rattle.rules.specs.Demands.{Runs, Meanings}
use Rattle.rules.proofs.Rows.{never, T_not}
use Rattle.rules.proofs.Search.{Lowest, lowest_is, none_has, some_has}
use Rattle.rules.proofs.Pass.{has_not}
use Rattle.rules.proofs.Sound.{every_get, eqb_test, sound_test}
use Rattle.rules.proofs.Launches.{whole_of}
use Rattle.rules.proofs.SetUps.{in_net_lem, coherent_test}

-- a test that is exact is so with "not" and with "or"
not_test : {A : Type 0} (b : Bool) → T b ↔ A → T (not b) ↔ (¬ A)
not_test true e = (λ n. absurd n, λ n. n (e.0 tt))
not_test false e = (λ _ a. e.1 a, λ _. tt)

or_test : {A B : Type 0} (a b : Bool) → T a ↔ A → T b ↔ B → T (a || b) ↔ (A ⊎ B)
or_test true b e f = (λ t. inl (e.0 tt), λ x. tt)
or_test false b e f = (λ t. inr (f.0 t), λ x. elim x [ inl y ↦ absurd (e.1 y) | inr y ↦ f.1 y ])

less_test : (m n : ℕ) → T (ltb m n) ↔ (m < n)
less_test m n = (ltb→lt m n, lt→ltb m n)

-- 1, 2, 3
fewer_test : (e : Result ⊤ EnvelopeFault) → T (is_fewer e) ↔ (e ≡ Err Fewer)
fewer_test e = (to e, λ i. rw i tt)
  where
    to : (e : Result ⊤ EnvelopeFault) → T (is_fewer e) → e ≡ Err Fewer
    to (Ok right) t = absurd t
    to (Err Fewer) t = refl
    to (Err Length) t = absurd t
    to (Err Version) t = absurd t

length_test : (e : Result ⊤ EnvelopeFault) → T (is_length e) ↔ (e ≡ Err Length)
length_test e = (to e, λ i. rw i tt)
  where
    to : (e : Result ⊤ EnvelopeFault) → T (is_length e) → e ≡ Err Length
    to (Ok right) t = absurd t
    to (Err Fewer) t = absurd t
    to (Err Length) t = refl
    to (Err Version) t = absurd t

version_test : (e : Result ⊤ EnvelopeFault) → T (is_version e) ↔ (e ≡ Err Version)
version_test e = (to e, λ i. rw i tt)
  where
    to : (e : Result ⊤ EnvelopeFault) → T (is_version e) → e ≡ Err Version
    to (Ok right) t = absurd t
    to (Err Fewer) t = absurd t
    to (Err Length) t = absurd t
    to (Err Version) t = refl

-- 4, 5, 6
cut_test : (o : Found Program) → T (is_cut o) ↔ (o ≡ cut)
cut_test o = (to o, λ e. rw e tt)
  where
    to : (o : Found Program) → T (is_cut o) → o ≡ cut
    to (whole p m) t = absurd t
    to cut t = refl
    to (bad k) t = absurd t

bad_test : (o : Found Program) → T (is_bad o) ↔ ((k : ℕ) × (o ≡ bad k))
bad_test o = (to o, λ e. rw e.1 tt)
  where
    to : (o : Found Program) → T (is_bad o) → (k : ℕ) × (o ≡ bad k)
    to (whole p m) t = absurd t
    to cut t = absurd t
    to (bad k) t = (k, refl)

over_test : (o : Found Program) (size : ℕ) → T (leaves_over o size) ↔ ((p : Program) × (m : ℕ) × (o ≡ whole p m) × (m < size))
over_test o size = (to o, λ e. rw e.2 (lt→ltb _ size e.3))
  where
    to : (o : Found Program) → T (leaves_over o size) → (p : Program) × (m : ℕ) × (o ≡ whole p m) × (m < size)
    to (whole p m) t = (p, m, refl, ltb→lt m size t)
    to cut t = absurd t
    to (bad k) t = absurd t

-- none of them: the tree is exactly a program's bytes
module _ (bytes : List ℕ) where
  tree_to : NoneHolds (tree_rows bytes) → Good (code_of bytes) × (tree bytes ≡ encode (code_of bytes))
  tree_to h =
      let (m, e) = whole_of (read_tree bytes) h.0 h.1.0 in
      let over : leaves_over (whole (code_of bytes) m) (length (tree bytes)) ≡ false = ap (λ o. leaves_over o (length (tree bytes))) (sym e) ∙ h.1.1.0 in
      let b = bytes_are (tree bytes) 0 e in
      (b.1, b.0.bytes ∙ ap (λ t. encode (code_of bytes) ++ t) (drop_of_length-le (tree bytes) (ltb-false m (length (tree bytes)) over)) ∙ append-nil (encode (code_of bytes)))

  tree_from : Good (code_of bytes) × (tree bytes ≡ encode (code_of bytes)) → NoneHolds (tree_rows bytes)
  tree_from (g, e) =
      let p = code_of bytes in
      let i : read_tree bytes ≡ whole p (length (encode p)) = ap (λ s. read_at s 0) (e ∙ sym (append-nil (encode p))) ∙ round_trip p [] g in
      let l = ap length e in
      (ap is_cut i, (ap is_bad i, (ap (λ o. leaves_over o (length (tree bytes))) i ∙ le-ltb (length (encode p)) (length (tree bytes)) (omega arith), tt)))

clash : {A : Type 0} (b : Bool) → T (not b) → b ≡ true → A
clash true n e = absurd n
clash false n e = never e

-- 9: every slot runs
module _ (net : Net) where
  lowest_slot : Lowest (λ slot. free (thread_at net slot)) 0 64 (free_slot net)
  lowest_slot = lowest_is _ 0 64

  no_slot : T (leb 64 (free_slot net)) ↔ ((slot : ℕ) → slot < 64 → Runs net slot)
  no_slot = (
    λ t slot h. T_not (lowest_slot.before slot (omega arith) (omega (arith, leb→le 64 (free_slot net) t))),
    λ all. le→leb 64 (free_slot net) (elim (dec_lt (free_slot net) 64) [ yes l ↦ clash _ (all (free_slot net) l) (lowest_slot.passes l) | no g ↦ omega arith ]),
  )

  -- 10: every place has a thread
  used : ℕ → Bool
  used place = list_any (has (λ t. t.place) place) net.threads

  lowest_place : Lowest (λ place. not (used place)) 0 8 (free_place net)
  unfolding used
  lowest_place = lowest_is _ 0 8

  used_to : (place : ℕ) → used place ≡ true → (slot : ℕ) × Runs net slot × ((thread_at net slot).place ≡ place)
  unfolding used
  used_to place e = let (slot, i) = some_has (has (λ t. t.place) place) zero_thread net.threads e in go slot (free (thread_at net slot)) refl i
    where
      go : (slot : ℕ) (b : Bool) → free (thread_at net slot) ≡ b → (not b && eqb (thread_at net slot).place place) ≡ true → (slot : ℕ) × Runs net slot × ((thread_at net slot).place ≡ place)
      go slot true r i = never i
      go slot false r i = (slot, rw r tt, eqb-true _ _ i)

  used_from : (place slot : ℕ) → Runs net slot → (thread_at net slot).place ≡ place → used place ≡ false → ⊥
  unfolding used
  used_from place slot r e n = has_not (λ t. t.place) net place slot (none_has (has (λ t. t.place) place) zero_thread refl net.threads n slot) r e

  no_place : T (leb 8 (free_place net)) ↔ ((place : ℕ) → place < 8 → (slot : ℕ) × Runs net slot × ((thread_at net slot).place ≡ place))
  no_place = (
    λ t place h. used_to place (not-false (used place) (lowest_place.before place (omega arith) (omega (arith, leb→le 8 (free_place net) t)))),
    λ all. le→leb 8 (free_place net) (elim (dec_lt (free_place net) 8) [ yes l ↦ absurd (let u = all (free_place net) l in used_from (free_place net) u.0 u.1 u.2 (not-true _ (lowest_place.passes l))) | no g ↦ omega arith ]),
  )

same_controller : (k l : Controller) → T (eqb l.0 k.0) ↔ (l ≡ k)
same_controller k l = (λ t. let e = eqb→eq l.0 k.0 t in λ i. record { 0 = e i }, λ e. (eqb_test l.0 k.0).1 (ap (λ c. c.0) e))

trust_test : (l : List ℕ) → T (list_all (λ b. leb b 2) l) ↔ ((i : ℕ) → get_or l i 0 ≤ 2)
trust_test l =
    let e = every_get (λ b. leb b 2) 0 tt l in
    (λ t i. leb→le (get_or l i 0) 2 (e.0 t i), λ h. e.1 (λ i. le→leb (get_or l i 0) 2 (h i)))

pub meanings : Meanings
meanings = record {
  row_1 = λ most bytes. Iff.trans (fewer_test (envelope 2 most bytes)) (envelope_exactly 2 most bytes (Err Fewer));
  row_2 = λ most bytes. Iff.trans (length_test (envelope 2 most bytes)) (envelope_exactly 2 most bytes (Err Length));
  row_3 = λ most bytes. Iff.trans (version_test (envelope 2 most bytes)) (envelope_exactly 2 most bytes (Err Version));
  row_4 = λ bytes. cut_test (read_tree bytes);
  row_5 = λ bytes. bad_test (read_tree bytes);
  row_6 = λ bytes. over_test (read_tree bytes) (length (tree bytes));
  rows_4_5_6 = λ bytes. (tree_to bytes, tree_from bytes);
  row_7 = λ allowed p. not_test (fits_allb allowed p) (fits_all_test allowed p);
  row_8 = λ p. not_test (honestb p) (honest_test p);
  row_12 = λ allowed slip. not_test (slip_fitsb allowed slip) (slip_test_lem allowed slip);
  row_9 = no_slot;
  row_10 = no_place;
  row_11 = λ net slot. or_test (ltb 63 slot) (free (thread_at net slot)) (less_test 63 slot) (eqb_test (thread_at net slot).controller.0 0);
  row_13 = same_controller;
  row_16 = λ net c. not_test (in_net net c) (in_net_lem net c);
  row_14_n = λ bytes. or_test (ltb (controllers_of bytes) 1) (ltb 16 (controllers_of bytes)) (less_test (controllers_of bytes) 1) (less_test 16 (controllers_of bytes));
  row_14_length = λ bytes. not_test (eqb (stated bytes) (2 + controllers_of bytes * controllers_of bytes + 32 * controllers_of bytes)) (eqb_test _ _);
  row_14_trust = λ bytes. not_test (list_all (λ b. leb b 2) (set_up_net bytes).trust) (trust_test (set_up_net bytes).trust);
  row_15 = λ net. not_test (coherentb net) (coherent_test net);
  row_99 = λ net. not_test (soundb net) (sound_test net);
}
