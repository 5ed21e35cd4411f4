-- A call, by the first of its rows that holds. Assumes nothing.
use Rattle.std.proofs.Common.{◌≡◌, Bool, true, false, cond, List, [], ◌∷◌, ◌++◌, Result, Ok, Err, is_ok, refl, sym, ap, ◌∙◌}
use Rattle.std.specs.Prelude.{⊤}
use Rattle.std.specs.Result.{result_unwrap_or}
use Rattle.rules.specs.declared.net.Net.{Net}
use Rattle.rules.specs.declared.reply.Refusal.{Refusal}
use Rattle.rules.specs.declared.reply.Refusal.TheVariants as refusal
use Rattle.rules.specs.declared.reply.Outcome.{Outcome}
use Rattle.rules.specs.Rows.{Row, ◌gives◌, refused, answer, NoneHolds}
use Rattle.rules.proofs.Rows.{never}
use Rattle.net.specs.Checks.{first_row, concluded, unless}

-- the first row that holds decides, and where none refuses none holds
answer_is : (rows : List Row) (net : Net) (done : Outcome) → answer rows net done ≡ concluded (first_row rows) net done
answer_is [] net done = refl
answer_is (test gives r ∷ rows) net done = go test (answer_is rows net done)
  where
    go : (b : Bool) → answer rows net done ≡ concluded (first_row rows) net done →
        cond b (concluded (Err r) net done) (answer rows net done) ≡ concluded (cond b (Err r) (first_row rows)) net done
    go true rest = refl
    go false rest = rest

none_holds : (rows : List Row) {u : ⊤} → first_row rows ≡ Ok u → NoneHolds rows
none_holds [] e = tt
none_holds (test gives r ∷ rows) {u} e = go test refl e (none_holds rows)
  where
    go : (b : Bool) → test ≡ b → cond b (Err r) (first_row rows) ≡ Ok u → (first_row rows ≡ Ok u → NoneHolds rows) → (test ≡ false) × NoneHolds rows
    go true t e more = never (ap is_ok e)
    go false t e more = (t, more e)

-- one list of rows, and then another
abbrev pub or_else : Result ⊤ Refusal → Result ⊤ Refusal → Result ⊤ Refusal
or_else (Ok u) more = more
or_else (Err r) more = Err r

pub first_append : (rows more : List Row) → first_row (rows ++ more) ≡ or_else (first_row rows) (first_row more)
first_append [] more = refl
first_append (test gives r ∷ rows) more = go test (first_append rows more)
  where
    go : (b : Bool) → first_row (rows ++ more) ≡ or_else (first_row rows) (first_row more) →
        cond b (Err r) (first_row (rows ++ more)) ≡ or_else (cond b (Err r) (first_row rows)) (first_row more)
    go true h = refl
    go false h = h

-- why a value is not there
abbrev why : {A : Type 0} → Result A Refusal → Refusal
why (Ok a) = refusal.NotSound
why (Err r) = r

-- a value that is there where no row holds: where it is not, the call is refused
module _ {A : Type 0} (rows : List Row) (a : A) {x : Result A Refusal} (i : x ≡ unless (first_row rows) a) where
  pub refuses : (net : Net) (done : Outcome) {r : Refusal} → x ≡ Err r → refused r net ≡ answer rows net done
  refuses net done {r} j = go (first_row rows) (sym j ∙ i) ∙ sym (answer_is rows net done)
    where
      go : (w : Result ⊤ Refusal) → Err r ≡ unless w a → refused r net ≡ concluded w net done
      go (Ok u) h = never (ap is_ok h)
      go (Err q) h = ap (λ r. refused r net) (ap why h)

  pub passes : {b : A} → x ≡ Ok b → NoneHolds rows × (b ≡ a)
  passes {b} j = go (first_row rows) refl (sym j ∙ i)
    where
      go : (w : Result ⊤ Refusal) → first_row rows ≡ w → Ok b ≡ unless w a → NoneHolds rows × (b ≡ a)
      go (Ok u) e h = (none_holds rows e, ap (λ w. result_unwrap_or w a) h)
      go (Err q) e h = never (sym (ap is_ok h))

  pub does : (net : Net) (done : Outcome) {b : A} → x ≡ Ok b → done ≡ answer rows net done
  does net done {b} j = go (first_row rows) (sym j ∙ i) ∙ sym (answer_is rows net done)
    where
      go : (w : Result ⊤ Refusal) → Ok b ≡ unless w a → done ≡ concluded w net done
      go (Ok u) h = refl
      go (Err q) h = never (sym (ap is_ok h))
