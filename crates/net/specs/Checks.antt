-- What the tests answer: the first row that holds. Definitions only.
use Rattle.std.specs.Prelude.{ℕ, Bool, true, false, cond, List, [], ◌∷◌, ◌==◌, Result, Ok, Err, ⊤}
use Rattle.program.specs.declared.names.Controller.{Controller}
use Rattle.program.specs.Reading.{read_at}
use Rattle.policy.specs.declared.test.CodeFault.{CodeFault}
use Rattle.policy.specs.Counts.{policy_allows}
use Rattle.policy.specs.Tallies.{slip_test, test_of}
use Rattle.rules.specs.declared.net.Net.{Net}
use Rattle.rules.specs.declared.reply.Refusal.{Refusal}
use Rattle.rules.specs.declared.reply.Refusal.TheVariants as refusal
use Rattle.rules.specs.declared.reply.Outcome.{Outcome}
use Rattle.rules.specs.Rows.{Row, ◌gives◌, refused, of_code}
use Rattle.rules.specs.Nets.{free_slot, free_place}
use Rattle.rules.specs.Calls.{set_up_net, set_up_rows, launch, rows_of}
use Rattle.net.specs.declared.entry.Look.{Look}
use Rattle.net.specs.declared.entry.Look.TheVariants.{BytesOnly, TheSlip, TheCode}
use Rattle.net.specs.Parts.{trust_in}

-- the first row that holds
abbrev pub first_row : List Row → Result ⊤ Refusal
first_row [] = Ok tt
first_row (test gives r ∷ rows) = cond test (Err r) (first_row rows)

-- what a call then gives; and a value, where none holds
abbrev pub concluded : Result ⊤ Refusal → Net → Outcome → Outcome
concluded (Ok u) net done = done
concluded (Err r) net done = refused r net

abbrev pub unless : {A : Type 0} → Result ⊤ Refusal → A → Result A Refusal
unless (Ok u) a = Ok a
unless (Err r) a = Err r

-- a set-up's net, and a launch's slot and place, where none of their rows holds
unfoldable pub described : List ℕ → Result Net Refusal
described bytes = unless (first_row (set_up_rows bytes)) (set_up_net bytes)

unfoldable pub room : Net → Controller → List ℕ → Result (ℕ × ℕ) Refusal
room net c bytes = unless (first_row (rows_of net (launch c bytes))) (free_slot net, free_place net)

-- ENTRY: what is looked at, over the trust bytes
abbrev pub launch_look : List ℕ → Controller → Look
launch_look trust c = cond (trust_in trust c c == 1) TheCode BytesOnly

abbrev pub entry_look : List ℕ → Controller → Controller → Look
entry_look trust target present = cond (trust_in trust target present == 1) TheSlip TheCode

-- and what is refused, over the bytes: `launch_rows_lem` and `depart_rows` say that these are the rows of `entry_rows` for what is read there
abbrev pub of_slip : Bool → Result ⊤ Refusal
of_slip true = Ok tt
of_slip false = Err refusal.SlipNotFitting

abbrev pub of_test : Result ⊤ CodeFault → Result ⊤ Refusal
of_test (Ok u) = Ok tt
of_test (Err f) = Err (of_code f)

abbrev pub entered : Look → List ℕ → List ℕ → ℕ → ℕ → ℕ → Result ⊤ Refusal
entered BytesOnly policy tree slip n code = Ok tt
entered TheSlip policy tree slip n code = of_slip (slip_test tree slip n policy)
entered TheCode policy tree slip n code = of_test (test_of (policy_allows policy) (read_at tree code))
