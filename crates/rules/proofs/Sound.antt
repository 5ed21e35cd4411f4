-- The test of soundness says what the record says. Assumes nothing.
use Rattle.std.proofs.Common.{◌≡◌, ℕ, zero, suc, Bool, true, false, cond, not, T, eqb, ltb, leb, ◌↔◌, List, [], ◌∷◌, get_or, set, refl, le→leb, eqb→eq, ltb→lt, lt→ltb, leb→le}
use Rattle.std.specs.List.{list_all}
use mathlib.Core.Logic.Iff
use lib.Dec.{eqb_refl}
use Rattle.program.specs.Tree.{Program}
use Rattle.program.specs.Reading.{Found, whole, cut, bad}
use Rattle.policy.proofs.Tests.{both_test}
use Rattle.rules.specs.declared.net.Thread.{Thread}
use Rattle.rules.specs.declared.net.Net.{Net}
use Rattle.rules.specs.Nets.{zero_thread, free, thread_at, located, in_net}
use Rattle.rules.specs.Sound.{Placed, Sound, is_whole, is_zero, placedb, slotb, soundb}

-- a test of every member is a test at every index, where it passes at what stands beyond the end
pub every_get : {A : Type 0} (f : A → Bool) (d : A) → T (f d) → (l : List A) → T (list_all f l) ↔ ((i : ℕ) → T (f (get_or l i d)))
every_get f d z l = (to l, from l)
  where
    to : (l : List _) → T (list_all f l) → (i : ℕ) → T (f (get_or l i d))
    to [] h i = z
    to (a ∷ l) h zero = ((both_test (f a) (list_all f l) Iff.rfl Iff.rfl).0 h).0
    to (a ∷ l) h (suc i) = to l ((both_test (f a) (list_all f l) Iff.rfl Iff.rfl).0 h).1 i

    from : (l : List _) → ((i : ℕ) → T (f (get_or l i d))) → T (list_all f l)
    from [] h = tt
    from (a ∷ l) h = (both_test (f a) (list_all f l) Iff.rfl Iff.rfl).1 (h 0, from l (λ i. h (suc i)))

pub every_set : {A : Type 0} (f : A → Bool) (l : List A) (i : ℕ) (a : A) → T (list_all f l) → T (f a) → T (list_all f (set l i a))
every_set f [] i a h t = h
every_set f (x ∷ l) zero a h t = (both_test (f a) (list_all f l) Iff.rfl Iff.rfl).1 (t, ((both_test (f x) (list_all f l) Iff.rfl Iff.rfl).0 h).1)
every_set f (x ∷ l) (suc i) a h t =
    let (y, z) = (both_test (f x) (list_all f l) Iff.rfl Iff.rfl).0 h in
    (both_test (f x) (list_all f (set l i a)) Iff.rfl Iff.rfl).1 (y, every_set f l i a z t)

cond_test : {A B : Type 0} (b x y : Bool) → T x ↔ A → T y ↔ B → T (cond b x y) ↔ ((T b → A) × (T (not b) → B))
cond_test true x y e f = (λ t. (λ _. e.0 t, λ n. absurd n), λ h. e.1 (h.0 tt))
cond_test false x y e f = (λ t. (λ n. absurd n, λ _. f.0 t), λ h. f.1 (h.1 tt))

pub eqb_test : (m n : ℕ) → T (eqb m n) ↔ (m ≡ n)
eqb_test m n = (eqb→eq m n, λ e. rw e (eqb_refl n))

whole_test : (o : Found Program) → T (is_whole o) ↔ ((p : Program) × (m : ℕ) × (o ≡ whole p m))
whole_test o = (to o, λ h. rw h.2 tt)
  where
    to : (o : Found Program) → T (is_whole o) → (p : Program) × (m : ℕ) × (o ≡ whole p m)
    to (whole p m) t = (p, m, refl)
    to cut t = absurd t
    to (bad k) t = absurd t

zero_test : (t : Thread) → T (is_zero t) ↔ (t ≡ zero_thread)
zero_test t = (to, λ e. rw e tt)
  where
    to : T (is_zero t) → t ≡ zero_thread
    to h =
        let (a, h') = (both_test (eqb t.place 0) _ (eqb_test t.place 0) Iff.rfl).0 h in
        let (b, h'') = (both_test (eqb t.position 0) _ (eqb_test t.position 0) Iff.rfl).0 h' in
        let (c, d) = (both_test (eqb t.controller.0 0) (eqb t.pass 0) (eqb_test t.controller.0 0) (eqb_test t.pass 0)).0 h'' in
        λ i. record { place = a i; position = b i; controller = record { 0 = c i }; pass = d i }

placed_test : (net : Net) (t : Thread) → T (placedb net t) ↔ Placed net t
placed_test net t = (to, from)
  where
    to : T (placedb net t) → Placed net t
    to h =
        let (a, h') = (both_test (ltb t.place 8) _ (ltb→lt t.place 8, lt→ltb t.place 8) Iff.rfl).0 h in
        let (b, c) = (both_test (in_net net t.controller) (is_whole (located net t)) Iff.rfl (whole_test (located net t))).0 h' in
        record { place = a; stands = b; reads = c }

    from : Placed net t → T (placedb net t)
    from h =
        (both_test (ltb t.place 8) _ (ltb→lt t.place 8, lt→ltb t.place 8) Iff.rfl).1
        (h.place, (both_test (in_net net t.controller) (is_whole (located net t)) Iff.rfl (whole_test (located net t))).1 (h.stands, h.reads))

pub slot_test : (net : Net) (t : Thread) → T (slotb net t) ↔ ((T (free t) → t ≡ zero_thread) × (T (not (free t)) → Placed net t))
slot_test net t = cond_test (free t) (is_zero t) (placedb net t) (zero_test t) (placed_test net t)

pub sound_test : (net : Net) → T (soundb net) ↔ Sound net
unfolding soundb
sound_test net = (to, from)
  where
    trusts : T (list_all (λ b. leb b 2) net.trust) ↔ ((i : ℕ) → T (leb (get_or net.trust i 0) 2))
    trusts = every_get (λ b. leb b 2) 0 tt net.trust

    slots : T (list_all (slotb net) net.threads) ↔ ((s : ℕ) → T (slotb net (thread_at net s)))
    slots = every_get (slotb net) zero_thread tt net.threads

    to : T (soundb net) → Sound net
    to h =
        let (a, h') = (both_test (leb net.n 16) _ (leb→le net.n 16, le→leb net.n 16) Iff.rfl).0 h in
        let (b, c) = (both_test (list_all (λ b. leb b 2) net.trust) (list_all (slotb net) net.threads) trusts slots).0 h' in
        record {
          few = a;
          trusts = λ i. leb→le (get_or net.trust i 0) 2 (b i);
          frees = λ s. ((slot_test net (thread_at net s)).0 (c s)).0;
          runs = λ s. ((slot_test net (thread_at net s)).0 (c s)).1;
        }

    from : Sound net → T (soundb net)
    from h =
        (both_test (leb net.n 16) _ (leb→le net.n 16, le→leb net.n 16) Iff.rfl).1 (
          h.few,
          (both_test (list_all (λ b. leb b 2) net.trust) (list_all (slotb net) net.threads) trusts slots).1
              (λ i. le→leb (get_or net.trust i 0) 2 (h.trusts i), λ s. (slot_test net (thread_at net s)).1 (h.frees s, h.runs s)),
        )
