-- The test of coherence is exact, and a done set-up begins the invariant. Assumes nothing.
use Rattle.std.proofs.Common.{◌≡◌, ℕ, zero, suc, ◌+◌, ◌-◌, ◌*◌, ◌/◌, ◌%◌, ◌<◌, ◌≤◌, Bool, true, false, not, ◌||◌, T, eqb, ltb, leb, ◌↔◌, List, get_or, drop, replicate, sym, refl, ◌∙◌, subst, ⊎_elim, eq-or-lt_of_le, arith, le→leb, eqb→eq, ltb→lt, lt→ltb, leb→le, get_or-drop, get_or-take, ltb-false, lt-ltb}
use Rattle.std.specs.List.{list_all, range_with_len}
use Rattle.std.proofs.lemmas.List.FromFn.{get_or-map-range_with_len}
use mathlib.Core.Logic.Iff
use lib.Dec.{eqb_refl}
use lib.ListN.{length-replicate}
use Rattle.program.specs.declared.names.Controller.{Controller}
use Rattle.program.specs.Names.{controller}
use Rattle.policy.proofs.Tests.{both_test}
use Rattle.rules.specs.declared.net.Net.{Net}
use Rattle.rules.specs.Rows.{NoneHolds}
use Rattle.rules.specs.Nets.{zero_thread, free, thread_at, in_net, trust, policy_of}
use Rattle.rules.specs.Sound.{Sized, Sound}
use Rattle.rules.specs.Calls.{trust_byte, policy_byte, set_up_net, controllers_of, agreesb, controllers, coherentb, set_up_rows}
use Rattle.rules.specs.History.{blank}
use Rattle.rules.specs.Demands.{Layout}
use Rattle.rules.specs.Paper.{nobody, view, ◌<:◌, unknown, equal, Coherent}
use Rattle.rules.proofs.Rows.{passed}
use Rattle.rules.proofs.Search.{or_false}
use Rattle.rules.proofs.Sound.{every_get}
use Rattle.rules.proofs.Books.{nobody_held}
use Rattle.rules.proofs.Invariant.{Inv}

-- a test of n numbers from k on is a test of each
all_in_range : (f : ℕ → Bool) (k n : ℕ) → T (list_all f (range_with_len k n)) ↔ ((i : ℕ) → k ≤ i → i < k + n → T (f i))
all_in_range f k n = (to k n, from k n)
  where
    to : (k n : ℕ) → T (list_all f (range_with_len k n)) → (i : ℕ) → k ≤ i → i < k + n → T (f i)
    to k zero h i l u = absurd (omega arith)
    to k (suc n) h i l u =
        let (a, c) = (both_test (f k) (list_all f (range_with_len (k + 1) n)) Iff.rfl Iff.rfl).0 h in
        ⊎_elim (λ (e : k ≡ i). subst (λ j. T (f j)) e a) (λ (e : k < i). to (k + 1) n c i (omega arith) (omega arith)) (eq-or-lt_of_le l)

    from : (k n : ℕ) → ((i : ℕ) → k ≤ i → i < k + n → T (f i)) → T (list_all f (range_with_len k n))
    from k zero h = tt
    from k (suc n) h =
        (both_test (f k) (list_all f (range_with_len (k + 1) n)) Iff.rfl Iff.rfl).1 (h k (omega arith) (omega arith), from (k + 1) n (λ i l u. h i (omega arith) (omega arith)))

-- the controllers of a net
pub in_net_lem : (net : Net) (k : Controller) → T (in_net net k) ↔ ((16 ≤ k.0) × (k.0 < 16 + net.n))
in_net_lem net k = both_test (leb 16 k.0) (ltb k.0 (16 + net.n)) (leb→le 16 k.0, le→leb 16 k.0) (ltb→lt k.0 (16 + net.n), lt→ltb k.0 (16 + net.n))

-- a test of every controller of the net is a test of each
every_controller : (net : Net) (f : Controller → Bool) → T (list_all (λ k. f (controller k)) (controllers net)) ↔ ((k : Controller) → T (in_net net k) → T (f k))
every_controller net f =
    let e = all_in_range (λ k. f (controller k)) 16 net.n in
    (λ h k i. let n = (in_net_lem net k).0 i in e.0 h k.0 n.0 n.1, λ h. e.1 (λ k l u. h (controller k) ((in_net_lem net (controller k)).1 (l, u))))

-- one trust below another, where the first is asked
below_test : (t a b : ℕ) → T (not (eqb t 1) || (eqb a 0 || eqb a b)) ↔ (T (eqb t 1) → a <: b)
below_test t a b = (to (eqb t 1), from (eqb t 1))
  where
    is : (x y : Bool) → eqb a 0 ≡ x → eqb a b ≡ y → T (x || y) → a <: b
    is true y e f h = subst (λ n. n <: b) (sym (eqb→eq a 0 (rw e tt))) unknown
    is false true e f h = subst (λ n. a <: n) (eqb→eq a b (rw f tt)) equal
    is false false e f h = absurd h

    to : (x : Bool) → T (not x || (eqb a 0 || eqb a b)) → T x → a <: b
    to true h t = is (eqb a 0) (eqb a b) refl refl h
    to false h t = absurd t

    test : {a b : ℕ} → a <: b → T (eqb a 0 || eqb a b)
    test unknown = tt
    test {a} equal = or (eqb a 0) (eqb a a) (eqb_refl a)
      where
        or : (x y : Bool) → T y → T (x || y)
        or true y t = tt
        or false y t = t

    from : (x : Bool) → (T x → a <: b) → T (not x || (eqb a 0 || eqb a b))
    from true h = test (h tt)
    from false h = tt

pub coherent_test : (net : Net) → T (coherentb net) ↔ Coherent net
unfolding coherentb
coherent_test net = (
  λ h. record { agrees = λ k l ik il t. (below_test (trust net k k) (trust net k l) (trust net l l)).0 ((every_controller net (agreesb net k)).0 (outer.0 h k ik) l il) t },
  λ c. outer.1 (λ k ik. (every_controller net (agreesb net k)).1 (λ l il. (below_test (trust net k k) (trust net k l) (trust net l l)).1 (c.agrees k l ik il))),
)
  where
    outer : T (coherentb net) ↔ ((k : Controller) → T (in_net net k) → T (list_all (λ l. agreesb net k (controller l)) (controllers net)))
    outer = every_controller net (λ k. list_all (λ l. agreesb net k (controller l)) (controllers net))

get_or_same : {A : Type 0} (n i : ℕ) (a : A) → get_or (replicate n a) i a ≡ a
get_or_same zero i a = refl
get_or_same (suc n) zero a = refl
get_or_same (suc n) (suc i) a = get_or_same n i a

module _ (bytes : List ℕ) (h : NoneHolds (set_up_rows bytes)) where
  all_free : (s : ℕ) → thread_at (set_up_net bytes) s ≡ zero_thread
  unfolding set_up_net
  all_free s = get_or_same 64 s zero_thread

  nobody_there : (s : ℕ) → view (set_up_net bytes) s ≡ nobody
  nobody_there s = rw (all_free s)

  sized : Sized (set_up_net bytes)
  unfolding set_up_net
  sized = record { slots = length-replicate 64 zero_thread; bytes = length-replicate {A = ℕ} 3072 0 }

  few : (set_up_net bytes).n ≤ 16
  unfolding set_up_net
  few = ltb-false 16 (controllers_of bytes) (or_false (ltb (controllers_of bytes) 1) _ h.1.1.1.0).1

  sound : Sound (set_up_net bytes)
  sound =
      let trusts = (every_get (λ b. leb b 2) 0 tt (set_up_net bytes).trust).0 (passed (list_all (λ b. leb b 2) (set_up_net bytes).trust) h.1.1.1.1.1.0) in
      record {
        few = few;
        trusts = λ i. leb→le (get_or (set_up_net bytes).trust i 0) 2 (trusts i);
        frees = λ s t. all_free s;
        runs = λ s t. absurd (subst (λ u. T (not (free u))) (all_free s) t);
      }

  pub set_up_inv : Inv (set_up_net bytes) blank
  set_up_inv = record {
    sized = sized;
    sound = sound;
    coherent = (coherent_test (set_up_net bytes)).0 (passed (coherentb (set_up_net bytes)) h.1.1.1.1.1.1.0);
    books = record {
      apart = λ {i} e f. nobody_held (sym (nobody_there i) ∙ e);
      homed = λ {i} e. nobody_held (sym (nobody_there i) ∙ e);
      honest = λ {i} e g. nobody_held (sym (nobody_there i) ∙ e);
      within = λ k l g α. absurd (omega arith);
      quiet = λ k α l. refl;
    };
  }

-- where the bytes of a set-up stand in its net
module _ (bytes : List ℕ) (few : controllers_of bytes ≤ 16) where
  n : ℕ
  n = controllers_of bytes

  -- a row and a column below n, and the byte that stands there
  trust_at : (a b : ℕ) → a < n → b < n → trust_byte bytes n (16 * a + b) ≡ get_or bytes (4 + n * a + b) 0
  unfolding n
  trust_at a b ha hb =
      let i : (16 * a + b) / 16 ≡ a = omega arith in
      let j : (16 * a + b) % 16 ≡ b = omega arith in
      rw (i, j, lt-ltb a (controllers_of bytes) ha, lt-ltb b (controllers_of bytes) hb)

  policy_at : (a α : ℕ) → a < n → α < 32 → policy_byte bytes n (32 * a + α) ≡ get_or bytes (4 + n * n + (32 * a + α)) 0
  unfolding n
  policy_at a α ha hα =
      let i : (32 * a + α) / 32 ≡ a = omega arith in
      rw (i, lt-ltb a (controllers_of bytes) ha)

  index : (k : Controller) → T (in_net (set_up_net bytes) k) → k.0 - 16 < n
  unfolding set_up_net n
  index k h = let i = (in_net_lem (set_up_net bytes) k).0 h in omega (arith, i.0, i.1)

  pub laid_out : Layout bytes
  unfolding set_up_net policy_of n
  laid_out = record {
    trusts = λ k l ik il.
        let a = index k ik in
        let b = index l il in
        get_or-map-range_with_len (trust_byte bytes n) 0 256 (16 * (k.0 - 16) + (l.0 - 16)) (16 * (k.0 - 16) + (l.0 - 16)) 0 (omega arith) (omega arith) ∙ trust_at (k.0 - 16) (l.0 - 16) a b;
    policies = λ k ik α h.
        let a = index k ik in
        get_or-take 32 (drop (32 * (k.0 - 16)) (set_up_net bytes).policies) α 0 h ∙ get_or-drop (32 * (k.0 - 16)) (set_up_net bytes).policies α 0
        ∙ get_or-map-range_with_len (policy_byte bytes n) 0 512 (32 * (k.0 - 16) + α) (32 * (k.0 - 16) + α) 0 (omega arith) (omega arith) ∙ policy_at (k.0 - 16) α a h;
  }
