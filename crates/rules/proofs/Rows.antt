-- What a table of refusals answers. Assumes nothing.
use Rattle.std.proofs.Common.{◌≡◌, ℕ, Bool, true, false, cond, not, T, ◌↔◌, List, [], ◌∷◌, ◌++◌, sym, refl, ap, ◌∙◌, arith, Ok, Err}
use Rattle.rules.specs.declared.net.Net.{Net}
use Rattle.rules.specs.declared.reply.Fields.{Fields}
use Rattle.rules.specs.declared.reply.Refusal.{Refusal}
use Rattle.rules.specs.declared.reply.Outcome.{Outcome}
use Rattle.rules.specs.Rows.{Row, ◌gives◌, refused, answer, First, here, later, NoneHolds}

-- tests as facts
pub never : {A : Type 0} → false ≡ true → A
never e = let z : ◌≡◌ {A = ℕ} 0 1 = cc in absurd (omega arith)

pub true_T : {b : Bool} → T b → b ≡ true
true_T {b} t = go b t
  where
    go : (b : Bool) → T b → b ≡ true
    go true t = refl
    go false t = elim t [ ]

pub T_true : {b : Bool} → b ≡ true → T b
T_true e = rw e tt

pub not_T : {b : Bool} → T (not b) → b ≡ false
not_T {b} t = go b t
  where
    go : (b : Bool) → T (not b) → b ≡ false
    go false t = refl
    go true t = elim t [ ]

pub T_not : {b : Bool} → b ≡ false → T (not b)
T_not e = rw e tt

-- a row whose test is a negation does not hold: the test passes
pub passed : (b : Bool) → not b ≡ false → T b
passed true e = tt
passed false e = never (sym e)

pub passes : (b : Bool) → T b → not b ≡ false
passes true t = refl
passes false t = absurd t

pub done_refused : {A : Type 0} {f : Fields} {r : Refusal} → Ok f ≡ Err r → A
done_refused e = let z : ◌≡◌ {A = ℕ} 0 1 = cc in absurd (omega arith)

-- what holds of each refusal, and of what is done where no row holds, holds of the answer
pub answered : (P : Outcome → Type 0) (rows : List Row) (net : Net) (done : Outcome) → ((r : Refusal) → P (refused r net)) → (NoneHolds rows → P done) → P (answer rows net done)
answered P [] net done each all = all tt
answered P (test gives r ∷ rows) net done each all = go test refl (answered P rows net done each)
  where
    go : (b : Bool) → test ≡ b → ((NoneHolds rows → P done) → P (answer rows net done)) → P (cond b (refused r net) (answer rows net done))
    go true e more = each r
    go false e more = more (λ h. all (e, h))

-- where no row holds the call is done
pub none_done : (net : Net) (done : Outcome) (rows : List Row) → NoneHolds rows → answer rows net done ≡ done
none_done net done [] h = refl
none_done net done (test gives r ∷ rows) h = rw h.0 (none_done net done rows h.1)

-- rows that do not hold may be left out
pub none_before : (net : Net) (done : Outcome) (rows more : List Row) → NoneHolds rows → answer (rows ++ more) net done ≡ answer more net done
none_before net done [] more h = refl
none_before net done (test gives r ∷ rows) more h = rw h.0 (none_before net done rows more h.1)

-- none of two lists of rows holds
pub none_front : (rows more : List Row) → NoneHolds (rows ++ more) → NoneHolds rows
none_front [] more h = tt
none_front (test gives r ∷ rows) more h = (h.0, none_front rows more h.1)

pub none_back : (rows more : List Row) → NoneHolds (rows ++ more) → NoneHolds more
none_back [] more h = h
none_back (test gives r ∷ rows) more h = none_back rows more h.1

-- the first row that holds refuses
pub refuses : (net : Net) (done : Outcome) {rows : List Row} {r : Refusal} → First rows r → answer rows net done ≡ refused r net
refuses net done (here t) = rw t
refuses net done (later t h) = rw t (refuses net done h)

module _ (net : Net) (done : Outcome) (f : Fields) (is : done.reply ≡ Ok f) where
  first_to : (rows : List Row) (r : Refusal) → (answer rows net done).reply ≡ Err r → First rows r
  first_to [] r e = done_refused (sym is ∙ e)
  first_to (test gives q ∷ rows) r e = go test refl (first_to rows r) e
    where
      go : (b : Bool) → test ≡ b → ((answer rows net done).reply ≡ Err r → First rows r) → (cond b (refused q net) (answer rows net done)).reply ≡ Err r →
          First (test gives q ∷ rows) r
      go true t more e = let i : q ≡ r = cc in rw (← i) (here t)
      go false t more e = later t (more e)

  -- the reply is r exactly if the first row that holds gives r
  pub refused_exactly : (rows : List Row) (r : Refusal) → ((answer rows net done).reply ≡ Err r) ↔ First rows r
  refused_exactly rows r = (first_to rows r, λ h. ap (λ o. o.reply) (refuses net done h))

  pub done_to : (rows : List Row) (g : Fields) → (answer rows net done).reply ≡ Ok g → NoneHolds rows
  done_to [] g e = tt
  done_to (test gives r ∷ rows) g e = go test refl (done_to rows g) e
    where
      go : (b : Bool) → test ≡ b → ((answer rows net done).reply ≡ Ok g → NoneHolds rows) → (cond b (refused r net) (answer rows net done)).reply ≡ Ok g →
          (test ≡ false) × NoneHolds rows
      go true t more e = done_refused (sym e)
      go false t more e = (t, more e)

  -- the call is done exactly if no row holds
  pub done_exactly : (rows : List Row) → (answer rows net done ≡ done) ↔ NoneHolds rows
  done_exactly rows = (λ e. done_to rows f (ap (λ o. o.reply) e ∙ is), none_done net done rows)

  -- a refusal leaves the net as found
  pub leaves : (rows : List Row) (r : Refusal) → (answer rows net done).reply ≡ Err r → (answer rows net done).net ≡ net
  leaves rows r = answered (λ o. o.reply ≡ Err r → o.net ≡ net) rows net done (λ q e. refl) (λ h e. done_refused (sym is ∙ e))
