-- Sums of counts over slots. Assumes nothing.
use Rattle.std.proofs.Common.{◌≡◌, ℕ, zero, suc, ◌+◌, ◌<◌, ◌≤◌, ◌≢◌, sym, refl, ap, ◌∙◌, subst, ⊎_elim, eq-or-lt_of_le, arith, eq-eqb, ne_eqb}
use native.Mathlib.Decide.{ℕ_discrete}
use Rattle.policy.specs.Counts.{Count, finite, join, Fits}
use Rattle.policy.proofs.Counts.{join_assoc, join_comm, join_nothing, join_more, fits_refl, fits_left}
use Rattle.rules.specs.History.{put}

pub put_same : {A : Type 0} (f : ℕ → A) (i : ℕ) (a : A) → put f i a i ≡ a
put_same f i a = rw (eq-eqb i i refl)

pub put_other : {A : Type 0} (f : ℕ → A) (i : ℕ) (a : A) (j : ℕ) → j ≢ i → put f i a j ≡ f j
put_other f i a j n = rw (ne_eqb i j (λ e. n (sym e)))

abbrev pub sum : (ℕ → Count) → ℕ → Count
sum f zero = finite 0
sum f (suc n) = join (f n) (sum f n)

pub sum_ext : (f g : ℕ → Count) (n : ℕ) → ((j : ℕ) → j < n → f j ≡ g j) → sum f n ≡ sum g n
sum_ext f g zero h = refl
sum_ext f g (suc n) h = λ i. join (h n (omega arith) i) (sum_ext f g n (λ j l. h j (omega arith)) i)

pub zero_join : (c : Count) → join (finite 0) c ≡ c
zero_join c = join_comm (finite 0) c ∙ join_nothing c

pub sum_zero : (n : ℕ) → sum (λ j. finite 0) n ≡ finite 0
sum_zero zero = refl
sum_zero (suc n) = zero_join (sum (λ j. finite 0) n) ∙ sum_zero n

swapped : (a b c : Count) → join a (join b c) ≡ join b (join a c)
swapped a b c = sym (join_assoc a b c) ∙ ap (λ d. join d c) (join_comm a b) ∙ join_assoc b a c

-- one slot's share apart
pub pull : (f : ℕ → Count) (n i : ℕ) → i < n → sum f n ≡ join (f i) (sum (put f i (finite 0)) n)
pull f zero i h = absurd (omega arith)
pull f (suc n) i h = ⊎_elim last (early (pull f n i)) (eq-or-lt_of_le (le_of h))
  where
    le_of : suc i ≤ suc n → i ≤ n
    le_of h = omega arith

    last : i ≡ n → sum f (suc n) ≡ join (f i) (sum (put f i (finite 0)) (suc n))
    last e = subst (λ (k : ℕ). sum f (suc n) ≡ join (f k) (sum (put f k (finite 0)) (suc n))) (sym e) (ap (join (f n)) (sum_ext f (put f n (finite 0)) n (λ j l. sym (put_other f n (finite 0) j (λ e. omega arith))) ∙ sym (zero_join _) ∙ ap (λ c. join c (sum (put f n (finite 0)) n)) (sym (put_same f n (finite 0)))))

    early : (i < n → sum f n ≡ join (f i) (sum (put f i (finite 0)) n)) → i < n → sum f (suc n) ≡ join (f i) (sum (put f i (finite 0)) (suc n))
    early more l =
        ap (join (f n)) (more l) ∙ swapped (f n) (f i) _
        ∙ ap (λ c. join (f i) (join c (sum (put f i (finite 0)) n))) (sym (put_other f i (finite 0) n (λ e. omega arith)))

-- a part fits the whole
pub sum_at : (f : ℕ → Count) (n i : ℕ) → i < n → Fits (f i) (sum f n)
sum_at f n i h = rw (pull f n i h) (fits_left (f i) _)

pull_two : (f : ℕ → Count) (n i j : ℕ) → i < n → j < n → j ≢ i → sum f n ≡ join (f i) (join (f j) (sum (put (put f i (finite 0)) j (finite 0)) n))
pull_two f n i j a b ne = pull f n i a ∙ ap (join (f i)) (pull (put f i (finite 0)) n j b ∙ ap (λ c. join c (sum (put (put f i (finite 0)) j (finite 0)) n)) (put_other f i (finite 0) j ne))

regroup : (a b c d e : Count) → join (join a b) (join c (join d e)) ≡ join a (join (join b (join c d)) e)
regroup a b c d e = simp join_assoc

module _ (f g : ℕ → Count) (n s t : ℕ) (s-low : s < n) (t-low : t < n) (ne : t ≢ s) (none : f t ≡ finite 0) (rest : (j : ℕ) → j ≢ s → j ≢ t → g j ≡ f j) where
  same_rest : sum (put (put g s (finite 0)) t (finite 0)) n ≡ sum (put (put f s (finite 0)) t (finite 0)) n
  same_rest = sum_ext _ _ n (λ j l. at j (ℕ_discrete j s) (ℕ_discrete j t))
    where
      at : (j : ℕ) → Dec (j ≡ s) → Dec (j ≡ t) → put (put g s (finite 0)) t (finite 0) j ≡ put (put f s (finite 0)) t (finite 0) j
      at j d (yes e) = rw (e, put_same (put g s (finite 0)) t (finite 0), put_same (put f s (finite 0)) t (finite 0))
      at j (yes e) (no m) = put_other (put g s (finite 0)) t (finite 0) j m ∙ (rw (e, put_same g s (finite 0), put_same f s (finite 0))) ∙ sym (put_other (put f s (finite 0)) t (finite 0) j m)
      at j (no m) (no m') =
          put_other (put g s (finite 0)) t (finite 0) j m' ∙ put_other g s (finite 0) j m ∙ rest j m m'
          ∙ sym (put_other f s (finite 0) j m) ∙ sym (put_other (put f s (finite 0)) t (finite 0) j m')

  -- what slots s and t now need, with d more uses, fits what s needed: so does the whole
  pub sum_turn : (u d : ℕ) → Fits (join (finite d) (join (g s) (g t))) (f s) → Fits (join (finite (u + d)) (sum g n)) (join (finite u) (sum f n))
  sum_turn u d h =
      let R = sum (put (put f s (finite 0)) t (finite 0)) n in
      let e : join (finite (u + d)) (sum g n) ≡ join (finite u) (join (join (finite d) (join (g s) (g t))) R) =
      ap (join (finite (u + d))) (pull_two g n s t s-low t-low ne ∙ ap (λ r. join (g s) (join (g t) r)) same_rest) ∙ regroup (finite u) (finite d) (g s) (g t) R in
      let e' : join (finite u) (sum f n) ≡ join (finite u) (join (f s) R) =
      ap (join (finite u)) (pull_two f n s t s-low t-low ne ∙ ap (λ c. join (f s) (join c R)) none ∙ ap (join (f s)) (zero_join R)) in
      subst (λ c. Fits c (join (finite u) (sum f n))) (sym e)
      (subst (λ c. Fits (join (finite u) (join (join (finite d) (join (g s) (g t))) R)) c) (sym e')
      (join_more (fits_refl (finite u)) (join_more h (fits_refl R))))
