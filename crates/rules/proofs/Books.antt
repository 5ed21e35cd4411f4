-- The ledger's invariant, over what the slots hold. Assumes nothing.
use Rattle.std.proofs.Common.{◌≡◌, ℕ, ◌+◌, ◌<◌, ◌≤◌, Bool, true, false, cond, T, eqb, ◌≢◌, ◌⊎◌, ◌↔◌, sym, refl, ap, ◌∙◌, subst, inl, inr, ⊎_elim, eq-or-lt_of_le, arith, eq-eqb, ne_eqb}
use native.Mathlib.Decide.{ℕ_discrete}
use Rattle.program.specs.declared.names.Controller.{Controller}
use Rattle.program.specs.Tree.{Program}
use Rattle.policy.specs.Counts.{Count, finite, join, Fits, Policy}
use Rattle.policy.specs.Needs.{same, need, Honest}
use Rattle.policy.proofs.Counts.{fits_refl, fits_trans, join_nothing, join_comm}
use Rattle.rules.specs.Paper.{Held, nobody, held}
use Rattle.rules.specs.History.{Ledger, put, begins, joins, charges}
use Rattle.rules.proofs.Steps.{Turns}
use Rattle.rules.proofs.Sums.{put_same, put_other, sum, sum_ext, sum_zero, pull, sum_turn}

pub nobody_held : {A : Type 0} {k : Controller} {x : ℕ} {p : Program} → nobody ≡ held k p x → A
nobody_held e = let z : ◌≡◌ {A = ℕ} 0 1 = cc in absurd (omega arith)

abbrev pub need_of : Held → ℕ → Count
need_of nobody α = finite 0
need_of (held k p x) α = need p α

zero_both : (c : Bool) → cond c (finite 0) (finite 0) ≡ finite 0
zero_both true = refl
zero_both false = refl

-- what the threads of a stay need together
abbrev pub share : (ℕ → Held) → (ℕ → ℕ) → ℕ → ℕ → ℕ → Count
share v stay k α i = cond (eqb (stay i) k) (need_of (v i) α) (finite 0)

abbrev pub total : (ℕ → Held) → (ℕ → ℕ) → ℕ → ℕ → Count
total v stay k α = sum (share v stay k α) 65

pub record Books (trusty : Controller → Bool) (allowed : Controller → Policy) (v : ℕ → Held) (b : Ledger) : Type 0 where
  pub apart : {i j x y : ℕ} {k l : Controller} {p q : Program} → v i ≡ held k p x → v j ≡ held l q y → (x ≡ y) ↔ (b.stay i ≡ b.stay j)
  pub homed : {i x : ℕ} {k : Controller} {p : Program} → v i ≡ held k p x → (b.stay i < b.begun) × (b.home (b.stay i) ≡ k)
  pub honest : {i x : ℕ} {k : Controller} {p : Program} → v i ≡ held k p x → T (trusty k) → Honest p
  pub within : (k : ℕ) → k < b.begun → T (trusty (b.home k)) → (α : ℕ) → Fits (join (finite (b.used k α)) (total v b.stay k α)) (allowed (b.home k) α)
  pub quiet : (k α : ℕ) → b.begun ≤ k → b.used k α ≡ 0

-- what a thread with the program p, at k and with the pass x, may leave in a slot
pub data Leaves (k : Controller) (x : ℕ) (p : Program) : Held → Type 0 where
  none : Leaves k x p nobody
  some : {q : Program} → (Honest p → Honest q) → Leaves k x p (held k q x)

-- what a step inside a stay enters: the stay of slot t, if a thread is put there, is that of s, and that stay has used d more
pub record Entered (b b' : Ledger) (s t : ℕ) (h' : Held) (d : ℕ → ℕ) : Type 0 where
  pub begun : b'.begun ≡ b.begun
  pub homes : (j : ℕ) → b'.home j ≡ b.home j
  pub stays : (j : ℕ) → j ≢ t → b'.stay j ≡ b.stay j
  pub joined : (h' ≡ nobody) ⊎ (b'.stay t ≡ b.stay s)
  pub spent : (j α : ℕ) → b'.used j α ≡ b.used j α + cond (eqb (b.stay s) j) (d α) 0

pub nothing_more : (u : ℕ) (c : Bool) → u ≡ u + cond c 0 0
nothing_more u true = omega arith
nothing_more u false = omega arith

pub enters_nothing : (b : Ledger) (s t : ℕ) → Entered b b s t nobody (λ α. 0)
enters_nothing b s t = record { begun = refl; homes = λ j. refl; stays = λ j n. refl; joined = inl refl; spent = λ j α. nothing_more (b.used j α) (eqb (b.stay s) j) }

pub enters_charge : (b : Ledger) (s t a : ℕ) → Entered b (charges b s a) s t nobody (same a)
enters_charge b s t a = record { begun = refl; homes = λ j. refl; stays = λ j n. refl; joined = inl refl; spent = λ j α. refl }

pub enters_join : (b : Ledger) (s t : ℕ) (h' : Held) → Entered b (joins b s t) s t h' (λ α. 0)
enters_join b s t h' = record {
  begun = refl;
  homes = λ j. refl;
  stays = λ j n. put_other b.stay t (b.stay s) j n;
  joined = inr (put_same b.stay t (b.stay s));
  spent = λ j α. nothing_more (b.used j α) (eqb (b.stay s) j);
}

module _ (trusty : Controller → Bool) (allowed : Controller → Policy) (v : ℕ → Held) (b : Ledger) (books : Books trusty allowed v b) where
  -- WORK inside a stay
  module _ (s t : ℕ) (k : Controller) (x : ℕ) (p : Program) (h h' : Held) (v' : ℕ → Held) (was : v s ≡ held k p x) (free : v t ≡ nobody) (turn : Turns v v' s t h h')
      (one : Leaves k x p h) (two : Leaves k x p h') (s-low : s < 65) (t-low : t < 65) (b' : Ledger) (d : ℕ → ℕ) (entry : Entered b b' s t h' d)
      (fits : (α : ℕ) → Fits (join (finite (d α)) (join (need_of h α) (need_of h' α))) (need p α)) where
    ne : t ≢ s
    ne e = nobody_held (sym free ∙ ap v e ∙ was)

    -- each thread was one with the same pass, controller and stay
    record Was (i : ℕ) (k' : Controller) (x' : ℕ) (q : Program) : Type 0 where
      from : ℕ
      old : Program
      held_there : v from ≡ held k' old x'
      same_stay : b'.stay i ≡ b.stay from
      honest_too : Honest old → Honest q

    from_leaves : {g : Held} {i x' : ℕ} {k' : Controller} {q : Program} → Leaves k x p g → g ≡ held k' q x' → b'.stay i ≡ b.stay s → Was i k' x' q
    from_leaves none e f = nobody_held e
    from_leaves {x' = x'} {k' = k'} {q = q} (some {q = q₀} g) e f =
        let i : k ≡ k' = cc in
        let j : x ≡ x' = cc in
        let m : q₀ ≡ q = cc in
        record { from = s; old = p; held_there = was ∙ (λ r. held (i r) p (j r)); same_stay = f; honest_too = λ y. subst Honest m (g y) }

    traced : (i : ℕ) (k' : Controller) (x' : ℕ) (q : Program) → v' i ≡ held k' q x' → Was i k' x' q
    traced i k' x' q e = at (ℕ_discrete i s) (ℕ_discrete i t)
      where
        at : Dec (i ≡ s) → Dec (i ≡ t) → Was i k' x' q
        at (yes y) d = from_leaves one (sym turn.one ∙ ap v' (sym y) ∙ e) (entry.stays i (λ z. ne (sym z ∙ y)) ∙ ap b.stay y)
        at (no n) (yes y) = from_leaves two (sym turn.two ∙ ap v' (sym y) ∙ e) (⊎_elim (λ z. nobody_held (sym z ∙ sym turn.two ∙ ap v' (sym y) ∙ e)) (λ z. ap b'.stay y ∙ z) entry.joined)
        at (no n) (no m) = record { from = i; old = q; held_there = sym (turn.rest i n m) ∙ e; same_stay = entry.stays i m; honest_too = λ y. y }

    -- the shares of the two slots, where they belong to a stay or not
    share_two : (j α : ℕ) → share v' b'.stay j α t ≡ cond (eqb (b.stay s) j) (need_of h' α) (finite 0)
    share_two j α = ⊎_elim (λ z. shut z) (λ z. ap (λ y. cond (eqb y j) (need_of (v' t) α) (finite 0)) z ∙ ap (λ y. cond (eqb (b.stay s) j) (need_of y α) (finite 0)) turn.two) entry.joined
      where
        shut : h' ≡ nobody → share v' b'.stay j α t ≡ cond (eqb (b.stay s) j) (need_of h' α) (finite 0)
        shut z =
            ap (λ y. cond (eqb (b'.stay t) j) (need_of y α) (finite 0)) (turn.two ∙ z) ∙ zero_both (eqb (b'.stay t) j) ∙ sym (zero_both (eqb (b.stay s) j))
            ∙ ap (λ y. cond (eqb (b.stay s) j) (need_of y α) (finite 0)) (sym z)

    share_one : (j α : ℕ) → share v' b'.stay j α s ≡ cond (eqb (b.stay s) j) (need_of h α) (finite 0)
    share_one j α = ap (λ y. cond (eqb y j) (need_of (v' s) α) (finite 0)) (entry.stays s (λ e. ne (sym e))) ∙ ap (λ y. cond (eqb (b.stay s) j) (need_of y α) (finite 0)) turn.one

    share_was : (j α : ℕ) → share v b.stay j α s ≡ cond (eqb (b.stay s) j) (need p α) (finite 0)
    share_was j α = ap (λ y. cond (eqb (b.stay s) j) (need_of y α) (finite 0)) was

    share_free : (j α : ℕ) → share v b.stay j α t ≡ finite 0
    share_free j α = ap (λ y. cond (eqb (b.stay t) j) (need_of y α) (finite 0)) free ∙ zero_both (eqb (b.stay t) j)

    share_rest : (j α i : ℕ) → i ≢ s → i ≢ t → share v' b'.stay j α i ≡ share v b.stay j α i
    share_rest j α i n m = ap (λ y. cond (eqb y j) (need_of (v' i) α) (finite 0)) (entry.stays i m) ∙ ap (λ y. cond (eqb (b.stay i) j) (need_of y α) (finite 0)) (turn.rest i n m)

    fits_stay : (c : Bool) (α : ℕ) → Fits (join (finite (cond c (d α) 0)) (join (cond c (need_of h α) (finite 0)) (cond c (need_of h' α) (finite 0)))) (cond c (need p α) (finite 0))
    fits_stay true α = fits α
    fits_stay false α = fits_refl (finite 0)

    total_fits : (j α : ℕ) → Fits (join (finite (b'.used j α)) (total v' b'.stay j α)) (join (finite (b.used j α)) (total v b.stay j α))
    total_fits j α =
        subst (λ u. Fits (join (finite u) (total v' b'.stay j α)) (join (finite (b.used j α)) (total v b.stay j α))) (sym (entry.spent j α))
        (sum_turn (share v b.stay j α) (share v' b'.stay j α) 65 s t s-low t-low ne (share_free j α) (share_rest j α) (b.used j α) (cond (eqb (b.stay s) j) (d α) 0)
        (rw (share_one j α, share_two j α, share_was j α) (fits_stay (eqb (b.stay s) j) α)))

    pub works : Books trusty allowed v' b'
    works = record {
      apart = λ {i} {j} {x} {y} {k} {l} {p} {q} e f. apart_at i j k l x y p q e f;
      homed = λ {i} {x} {k} {p} e. homed_at i k x p e;
      honest = λ {i} {x} {k} {p} e g. let w = traced i k x p e in w.honest_too (books.honest w.held_there g);
      within = λ j l g α.
          fits_trans (total_fits j α)
          (subst (λ m. Fits (join (finite (b.used j α)) (total v b.stay j α)) (allowed m α)) (sym (entry.homes j))
          (books.within j (omega (arith, entry.begun)) (subst (λ m. T (trusty m)) (entry.homes j) g) α));
      quiet = λ j α l. at_quiet j α l;
    }
      where
        apart_at : (i j : ℕ) (k l : Controller) (x y : ℕ) (p q : Program) → v' i ≡ held k p x → v' j ≡ held l q y → (x ≡ y) ↔ (b'.stay i ≡ b'.stay j)
        apart_at i j k l x y p q e f =
            let w = traced i k x p e in
            let u = traced j l y q f in
            let a = books.apart w.held_there u.held_there in
            (λ z. w.same_stay ∙ a.0 z ∙ sym u.same_stay, λ z. a.1 (sym w.same_stay ∙ z ∙ u.same_stay))

        homed_at : (i : ℕ) (k : Controller) (x : ℕ) (p : Program) → v' i ≡ held k p x → (b'.stay i < b'.begun) × (b'.home (b'.stay i) ≡ k)
        homed_at i k x p e =
            let w = traced i k x p e in
            let a = books.homed w.held_there in
            (omega (arith, a.0, w.same_stay, entry.begun), ap b'.home w.same_stay ∙ entry.homes _ ∙ a.1)

        at_quiet : (j α : ℕ) → b'.begun ≤ j → b'.used j α ≡ 0
        at_quiet j α l =
            entry.spent j α ∙ ap (λ u. u + cond (eqb (b.stay s) j) (d α) 0) (books.quiet j α (omega (arith, entry.begun)))
            ∙ ap (λ c. 0 + cond c (d α) 0) (ne_eqb (b.stay s) j (λ e. omega (arith, (books.homed was).0, entry.begun)))

  -- a stay BEGINS
  module _ (s : ℕ) (c : Controller) (x : ℕ) (p : Program) (v' : ℕ → Held) (s-low : s < 65) (free : v s ≡ nobody) (new : v' s ≡ held c p x) (rest : (j : ℕ) → j ≢ s → v' j ≡ v j)
      (fresh : (i : ℕ) (k : Controller) (y : ℕ) (q : Program) → v i ≡ held k q y → x ≢ y) (honest : T (trusty c) → Honest p) (fits : T (trusty c) → (α : ℕ) → Fits (need p α) (allowed c α)) where
    -- the new thread, or one that was there
    data Or (i : ℕ) (k : Controller) (y : ℕ) (q : Program) : Type 0 where
      newly : i ≡ s → k ≡ c → y ≡ x → q ≡ p → Or i k y q
      still : i ≢ s → v i ≡ held k q y → Or i k y q

    which : (i : ℕ) (k : Controller) (y : ℕ) (q : Program) → v' i ≡ held k q y → Or i k y q
    which i k y q e = at (ℕ_discrete i s)
      where
        at : Dec (i ≡ s) → Or i k y q
        at (yes z) = let f : held c p x ≡ held k q y = sym new ∙ ap v' (sym z) ∙ e in newly z (cc) (cc) (cc)
        at (no n) = still n (sym (rest i n) ∙ e)

    stay_new : (i : ℕ) → i ≡ s → put b.stay s b.begun i ≡ b.begun
    stay_new i e = ap (put b.stay s b.begun) e ∙ put_same b.stay s b.begun

    apart_at : {i j y z : ℕ} {k l : Controller} {q r : Program} → Or i k y q → Or j l z r → (y ≡ z) ↔ (put b.stay s b.begun i ≡ put b.stay s b.begun j)
    apart_at {i} {j} (newly e e' e'' e''') (newly f f' f'' f''') = (λ _. stay_new i e ∙ sym (stay_new j f), λ _. e'' ∙ sym f'')
    apart_at {i} {j} (newly e e' e'' e''') (still n f) = (
      λ z. absurd (fresh j _ _ _ f (sym e'' ∙ z)),
      λ z. absurd (omega (arith, (books.homed f).0, sym (stay_new i e) ∙ z ∙ put_other b.stay s b.begun j n)),
    )
    apart_at {i} {j} (still n f) (newly e e' e'' e''') = (
      λ z. absurd (fresh i _ _ _ f (sym e'' ∙ sym z)),
      λ z. absurd (omega (arith, (books.homed f).0, sym (stay_new j e) ∙ sym z ∙ put_other b.stay s b.begun i n)),
    )
    apart_at {i} {j} (still n f) (still m g) =
        let a = books.apart f g in
        let e = put_other b.stay s b.begun i n in
        let e' = put_other b.stay s b.begun j m in
        (λ z. e ∙ a.0 z ∙ sym e', λ z. a.1 (sym e ∙ z ∙ e'))

    homed_at : {i y : ℕ} {k : Controller} {q : Program} → Or i k y q → (put b.stay s b.begun i < b.begun + 1) × (put b.home b.begun c (put b.stay s b.begun i) ≡ k)
    homed_at {i} (newly e e' e'' e''') = (omega (arith, stay_new i e), ap (put b.home b.begun c) (stay_new i e) ∙ put_same b.home b.begun c ∙ sym e')
    homed_at {i} (still n f) =
        let a = books.homed f in
        let e = put_other b.stay s b.begun i n in
        (omega (arith, a.0, e), ap (put b.home b.begun c) e ∙ put_other b.home b.begun c (b.stay i) (λ z. omega (arith, a.0)) ∙ a.1)

    honest_at : {i y : ℕ} {k : Controller} {q : Program} → Or i k y q → T (trusty k) → Honest q
    honest_at (newly e e' e'' e''') g = subst Honest (sym e''') (honest (subst (λ m. T (trusty m)) e' g))
    honest_at (still n f) g = books.honest f g

    -- an older stay has what it had
    share_old : (j α i : ℕ) → j < b.begun → share v' (put b.stay s b.begun) j α i ≡ share v b.stay j α i
    share_old j α i l = at (ℕ_discrete i s)
      where
        at : Dec (i ≡ s) → share v' (put b.stay s b.begun) j α i ≡ share v b.stay j α i
        at (yes e) =
            ap (λ y. cond (eqb y j) (need_of (v' i) α) (finite 0)) (stay_new i e) ∙ ap (λ t. cond t (need_of (v' i) α) (finite 0)) (ne_eqb b.begun j (λ z. omega arith))
            ∙ sym (ap (λ y. cond (eqb (b.stay i) j) (need_of y α) (finite 0)) (ap v e ∙ free) ∙ zero_both (eqb (b.stay i) j))
        at (no n) = ap (λ y. cond (eqb y j) (need_of (v' i) α) (finite 0)) (put_other b.stay s b.begun i n) ∙ ap (λ y. cond (eqb (b.stay i) j) (need_of y α) (finite 0)) (rest i n)

    -- in the new stay there is only the new thread
    share_new : (α i : ℕ) → i ≢ s → share v' (put b.stay s b.begun) b.begun α i ≡ finite 0
    share_new α i n = ap (λ y. cond (eqb y b.begun) (need_of (v' i) α) (finite 0)) (put_other b.stay s b.begun i n) ∙ at (v i) refl
      where
        at : (h : Held) → v i ≡ h → cond (eqb (b.stay i) b.begun) (need_of (v' i) α) (finite 0) ≡ finite 0
        at nobody e = ap (λ y. cond (eqb (b.stay i) b.begun) (need_of y α) (finite 0)) (rest i n ∙ e) ∙ zero_both (eqb (b.stay i) b.begun)
        at (held k q y) e = ap (λ t. cond t (need_of (v' i) α) (finite 0)) (ne_eqb (b.stay i) b.begun (λ z. omega (arith, (books.homed e).0)))

    total_new : (α : ℕ) → total v' (put b.stay s b.begun) b.begun α ≡ need p α
    total_new α =
        pull (share v' (put b.stay s b.begun) b.begun α) 65 s s-low
        ∙ ap (λ c. join (share v' (put b.stay s b.begun) b.begun α s) c) (sum_ext _ (λ j. finite 0) 65 (λ j l. others j (ℕ_discrete j s)) ∙ sum_zero 65)
        ∙ join_nothing _
        ∙ ap (λ y. cond (eqb y b.begun) (need_of (v' s) α) (finite 0)) (put_same b.stay s b.begun)
        ∙ ap (λ t. cond t (need_of (v' s) α) (finite 0)) (eq-eqb b.begun b.begun refl) ∙ ap (λ y. need_of y α) new
      where
        others : (j : ℕ) → Dec (j ≡ s) → put (share v' (put b.stay s b.begun) b.begun α) s (finite 0) j ≡ finite 0
        others j (yes e) = ap (put (share v' (put b.stay s b.begun) b.begun α) s (finite 0)) e ∙ put_same (share v' (put b.stay s b.begun) b.begun α) s (finite 0)
        others j (no n) = put_other (share v' (put b.stay s b.begun) b.begun α) s (finite 0) j n ∙ share_new α j n

    within_at : (k : ℕ) → k < b.begun + 1 → Dec (k ≡ b.begun) → T (trusty (put b.home b.begun c k)) → (α : ℕ) →
        Fits (join (finite (b.used k α)) (total v' (put b.stay s b.begun) k α)) (allowed (put b.home b.begun c k) α)
    within_at k l (yes e) g α =
        let i : put b.home b.begun c k ≡ c = ap (put b.home b.begun c) e ∙ put_same b.home b.begun c in
        let t : join (finite (b.used k α)) (total v' (put b.stay s b.begun) k α) ≡ need p α =
        (λ r. join (finite (books.quiet k α (omega arith) r)) (total v' (put b.stay s b.begun) (e r) α)) ∙ ap (join (finite 0)) (total_new α) ∙ join_comm (finite 0) (need p α) ∙ join_nothing (need p α) in
        subst (λ m. Fits (join (finite (b.used k α)) (total v' (put b.stay s b.begun) k α)) (allowed m α)) (sym i)
        (subst (λ m. Fits m (allowed c α)) (sym t) (fits (subst (λ m. T (trusty m)) i g) α))
    within_at k l (no n) g α =
        let i = put_other b.home b.begun c k n in
        let low : k < b.begun = ⊎_elim (λ (z : k ≡ b.begun). absurd (n z)) (λ (z : k < b.begun). z) (eq-or-lt_of_le (omega arith)) in
        subst (λ m. Fits (join (finite (b.used k α)) (total v' (put b.stay s b.begun) k α)) (allowed m α)) (sym i)
        (subst (λ m. Fits (join (finite (b.used k α)) m) (allowed (b.home k) α)) (sym (sum_ext _ _ 65 (λ j l. share_old k α j low)))
        (books.within k low (subst (λ m. T (trusty m)) i g) α))

    pub begun_books : Books trusty allowed v' (begins b s c)
    begun_books = record {
      apart = λ {i} {j} {x} {y} {k} {l} {p} {q} e f. apart_at (which i k x p e) (which j l y q f);
      homed = λ {i} {x} {k} {p} e. homed_at (which i k x p e);
      honest = λ {i} {x} {k} {p} e g. honest_at (which i k x p e) g;
      within = λ k l g α. within_at k l (ℕ_discrete k b.begun) g α;
      quiet = λ k α l. books.quiet k α (omega arith);
    }
