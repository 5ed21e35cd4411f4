-- Histories, and a ledger of stays that is kept of them without pass numbers. Definitions only.
use Rattle.std.specs.Prelude.{◌≡◌, ℕ, ◌+◌, cond, List, ◌==◌, Ok, Err}
use Rattle.program.specs.declared.names.Controller.{Controller}
use Rattle.program.specs.Names.{controller}
use Rattle.program.specs.Tree.{Program, end, act, split, repeat, depart}
use Rattle.policy.specs.Needs.{same}
use Rattle.rules.specs.declared.net.Net.{Net}
use Rattle.rules.specs.declared.reply.Fields.{Fields}
use Rattle.rules.specs.Rows.{Reply}
use Rattle.rules.specs.Nets.{thread_at, program_at, free_slot}
use Rattle.rules.specs.Calls.{Call, set_up, launch, step, called}

-- stays are numbered as they begin: how many have begun, the stay of each slot, each stay's controller, and its uses of each name
pub record Ledger : Type 0 where
  pub begun : ℕ
  pub stay : ℕ → ℕ
  pub home : ℕ → Controller
  pub used : ℕ → ℕ → ℕ

abbrev pub blank : Ledger
blank = record { begun = 0; stay = λ slot. 0; home = λ stay. controller 0; used = λ stay α. 0 }

abbrev pub put : {A : Type 0} → (ℕ → A) → ℕ → A → ℕ → A
put f i a j = cond (i == j) a (f j)

-- a stay begins at a controller, with the thread in a slot; another slot joins a slot's stay; a slot's stay uses a name
abbrev pub begins : Ledger → ℕ → Controller → Ledger
begins b slot c = record { begun = b.begun + 1; stay = put b.stay slot b.begun; home = put b.home b.begun c; used = b.used }

abbrev pub joins : Ledger → ℕ → ℕ → Ledger
joins b slot other = record { begun = b.begun; stay = put b.stay other (b.stay slot); home = b.home; used = b.used }

abbrev pub charges : Ledger → ℕ → ℕ → Ledger
charges b slot a = record { begun = b.begun; stay = b.stay; home = b.home; used = λ stay α. b.used stay α + cond (b.stay slot == stay) (same a α) 0 }

-- what a done call enters: a set-up starts the ledger anew, a launch begins a stay, a step goes by its node
abbrev pub step_entry : Ledger → ℕ → ℕ → Program → Ledger
step_entry b slot other end = b
step_entry b slot other (act a p) = charges b slot a.0
step_entry b slot other (split p q) = joins b slot other
step_entry b slot other (repeat p) = joins b slot other
step_entry b slot other (depart l slip p) = begins (charges b slot l.0) slot l

abbrev pub entered : Net → Ledger → Call → Ledger
entered net b (set_up bytes) = blank
entered net b (launch c bytes) = begins b (free_slot net) c
entered net b (step slot) = step_entry b slot (free_slot net) (program_at net (thread_at net slot))

-- a refused call enters nothing
abbrev pub if_done : Reply → Ledger → Ledger → Ledger
if_done (Ok f) b b' = b'
if_done (Err r) b b' = b

abbrev pub recorded : Net → Ledger → Call → Ledger
recorded net b call = if_done (called net call).reply b (entered net b call)

-- a history: a set-up that was accepted, on any record, and then any calls, each on the net that the one before left
pub data History : Net → Ledger → Type 0 where
  opened : (before : Net) (bytes : List ℕ) (f : Fields) → (called before (set_up bytes)).reply ≡ Ok f → History (called before (set_up bytes)).net blank
  then : {net : Net} {b : Ledger} → History net b → (call : Call) → History (called net call).net (recorded net b call)
