-- What the proofs settle: each statement beside the sentence of the demands or of document 01 that it settles. Definitions only.
use Rattle.std.specs.Prelude.{◌≡◌, ℕ, ◌+◌, ◌-◌, ◌*◌, ◌<◌, ◌≤◌, Bool, true, false, cond, not, ◌||◌, T, leb, ◌≢◌, ◌⊎◌, ◌↔◌, List, ◌++◌, length, ◌==◌, nat_le, nat_lt, slice_index, Option, Some, None, Ok, Err}
use Rattle.std.specs.List.{list_all}
use Rattle.program.specs.declared.names.Controller.{Controller}
use Rattle.program.specs.declared.envelope.EnvelopeFault.TheVariants as envelopes
use Rattle.program.specs.Tree.{Slip, Program, end, act, split, repeat, depart, encode, Good}
use Rattle.program.specs.Reading.{whole, cut, bad}
use Rattle.program.specs.Envelope.{stated, envelope, Means}
use Rattle.policy.specs.Counts.{Policy, Enforces, Within, slip_allows}
use Rattle.policy.specs.Needs.{same, FitsAll, Honest}
use Rattle.policy.specs.Tests.{fits_allb, honestb, slip_fitsb}
use Rattle.policy.specs.Runs.{Keeps, KeepsSlips}
use Rattle.policy.specs.Figures.{Typed}
use Rattle.rules.specs.declared.net.Net.{Net}
use Rattle.rules.specs.declared.reply.Name.{Name}
use Rattle.rules.specs.declared.reply.Name.TheVariants as name
use Rattle.rules.specs.declared.reply.Fields.{Fields}
use Rattle.rules.specs.declared.reply.Refusal.{Refusal}
use Rattle.rules.specs.declared.reply.Refusal.TheVariants as refusal
use Rattle.rules.specs.declared.reply.Outcome.{Outcome}
use Rattle.rules.specs.Rows.{NoneHolds, First}
use Rattle.rules.specs.Nets.{free, thread_at, free_slot, free_place, candidate, carried, passed_over, new_pass, program_at, in_net, trust, good, trustworthy, policy_of, allows}
use Rattle.rules.specs.Sound.{Sound, Sized, soundb}
use Rattle.rules.specs.Calls.{is_fewer, is_length, is_version, tree, read_tree, code_of, is_cut, is_bad, leaves_over, tree_rows, the_code, entry_rows, controllers_of, set_up_net, coherentb, Call, set_up, launch, step, rows_of, done_of, called}
use Rattle.rules.specs.History.{Ledger, recorded, History}
use Rattle.rules.specs.Paper.{held, view, standing, Coherent, Admits, Reduces}

-- DEMAND 1. "A refused call returns its number from the table, and the net is afterwards byte for byte what it was."
abbrev pub RefusedLeaves : Type 0
RefusedLeaves = (net : Net) (call : Call) (r : Refusal) → (called net call).reply ≡ Err r → (called net call).net ≡ net

-- "any two results it permits are proved equal": the promise of each call is the equation with `called`
abbrev pub ResultsUnique : Type 0
ResultsUnique = (net : Net) (call : Call) (x y : Outcome) → x ≡ called net call → y ≡ called net call → x ≡ y

-- the test of soundness is exact; no call makes a sound record unsound, and a done set-up makes a sound one of any
abbrev pub SoundExact : Type 0
SoundExact = (net : Net) → T (soundb net) ↔ Sound net

abbrev pub SoundAfter : Type 0
SoundAfter = (net : Net) (call : Call) → Sized net → Sound net → Sized (called net call).net × Sound (called net call).net

abbrev pub SoundSetUp : Type 0
SoundSetUp = (net : Net) (bytes : List ℕ) (f : Fields) → (called net (set_up bytes)).reply ≡ Ok f →
    Sized (called net (set_up bytes)).net × Sound (called net (set_up bytes)).net

-- DEMAND 2. "each refusal is given exactly when its row says": exactly if its row is the first that holds; and a call is done exactly if none does
abbrev pub RowsExact : Type 0
RowsExact = (net : Net) (call : Call) →
    ((r : Refusal) → ((called net call).reply ≡ Err r) ↔ First (rows_of net call) r)
    × ((called net call ≡ done_of net call) ↔ NoneHolds (rows_of net call))

-- what each row says, in plain words
abbrev pub Runs : Net → ℕ → Type 0
Runs net slot = T (not (free (thread_at net slot)))

pub record Meanings : Type 0 where
  -- 1 "fewer than 2 bytes, or fewer than 2 + length"; 2 "length outside its range, or bytes beyond 2 + length"; 3 "version not 1"
  pub row_1 : (most : ℕ) (bytes : List ℕ) → T (is_fewer (envelope 2 most bytes)) ↔ Means 2 most bytes (Err envelopes.Fewer)
  pub row_2 : (most : ℕ) (bytes : List ℕ) → T (is_length (envelope 2 most bytes)) ↔ Means 2 most bytes (Err envelopes.Length)
  pub row_3 : (most : ℕ) (bytes : List ℕ) → T (is_version (envelope 2 most bytes)) ↔ Means 2 most bytes (Err envelopes.Version)
  -- 4 "the bytes end before the tree is whole"; 5 "a byte with no meaning at its place"; 6 "tree bytes left over"; and else the tree is a program's
  pub row_4 : (bytes : List ℕ) → T (is_cut (read_tree bytes)) ↔ (read_tree bytes ≡ cut)
  pub row_5 : (bytes : List ℕ) → T (is_bad (read_tree bytes)) ↔ ((o : ℕ) × (read_tree bytes ≡ bad o))
  pub row_6 : (bytes : List ℕ) → T (leaves_over (read_tree bytes) (length (tree bytes)))
      ↔ ((p : Program) × (m : ℕ) × (read_tree bytes ≡ whole p m) × (m < length (tree bytes)))
  pub rows_4_5_6 : (bytes : List ℕ) → NoneHolds (tree_rows bytes) ↔ (Good (code_of bytes) × (tree bytes ≡ encode (code_of bytes)))
  -- 7 "a need doesn't fit the policy"; 8 "not honest"; 12 "slip compared: a count doesn't fit the policy"
  pub row_7 : (allowed : Policy) (p : Program) → T (not (fits_allb allowed p)) ↔ (¬ FitsAll allowed p)
  pub row_8 : (p : Program) → T (not (honestb p)) ↔ (¬ Honest p)
  pub row_12 : (allowed : Policy) (slip : Slip) → T (not (slip_fitsb allowed slip)) ↔ (¬ Enforces (slip_allows slip) allowed)
  -- 9 "no free slot"; 10 "no free place"; 11 "slot above 63 or free"; 13 "departure to the controller it is at"; 16 "no such controller in this net"
  pub row_9 : (net : Net) → T (nat_le 64 (free_slot net)) ↔ ((slot : ℕ) → slot < 64 → Runs net slot)
  pub row_10 : (net : Net) → T (nat_le 8 (free_place net)) ↔ ((place : ℕ) → place < 8 → (slot : ℕ) × Runs net slot × ((thread_at net slot).place ≡ place))
  pub row_11 : (net : Net) (slot : ℕ) → T (nat_lt 63 slot || free (thread_at net slot)) ↔ ((63 < slot) ⊎ ((thread_at net slot).controller.0 ≡ 0))
  pub row_13 : (k l : Controller) → T (l.0 == k.0) ↔ (l ≡ k)
  pub row_16 : (net : Net) (c : Controller) → T (not (in_net net c)) ↔ (¬ ((16 ≤ c.0) × (c.0 < 16 + net.n)))
  -- 14 "n outside 1..16, length not fitting n, or a trust byte above 2"; 15 "not coherent"; 99 "the net record is not sound"
  pub row_14_n : (bytes : List ℕ) → T (nat_lt (controllers_of bytes) 1 || nat_lt 16 (controllers_of bytes)) ↔ ((controllers_of bytes < 1) ⊎ (16 < controllers_of bytes))
  pub row_14_length : (bytes : List ℕ) →
      T (not (stated bytes == 2 + controllers_of bytes * controllers_of bytes + 32 * controllers_of bytes))
      ↔ (stated bytes ≢ 2 + controllers_of bytes * controllers_of bytes + 32 * controllers_of bytes)
  pub row_14_trust : (bytes : List ℕ) → T (not (list_all (λ b. leb b 2) (set_up_net bytes).trust)) ↔ (¬ ((i : ℕ) → slice_index (set_up_net bytes).trust i ≤ 2))
  pub row_15 : (net : Net) → T (not (coherentb net)) ↔ (¬ Coherent net)
  pub row_99 : (net : Net) → T (not (soundb net)) ↔ (¬ Sound net)

-- "Entry, splitting, repeating, acting and moving follow the counted-policy rules of the paper": a done step is a reduction of the paper on its
-- thread, and leaves every other thread alone
abbrev pub Follows : Type 0
Follows = (net : Net) (s : ℕ) (f : Fields) → Sized net → (called net (step s)).reply ≡ Ok f →
    Reduces net (thread_at net s).controller (program_at net (thread_at net s))
    (standing (view (called net (step s)).net s) ++ standing (view (called net (step s)).net (free_slot net)))
    × ((j : ℕ) → j ≢ s → j ≢ free_slot net → view (called net (step s)).net j ≡ view net j)

-- a departure to another controller of the net is refused with 12, 8 or 7 exactly if the membrane does not admit it
abbrev pub MembraneExact : Type 0
MembraneExact = (net : Net) (s : ℕ) (l : Controller) (slip : Slip) (p : Program) → Sized net → Sound net → Runs net s →
    program_at net (thread_at net s) ≡ depart l slip p → l ≢ (thread_at net s).controller → T (in_net net l) →
    (((called net (step s)).reply ≡ Err refusal.SlipNotFitting)
    ⊎ (((called net (step s)).reply ≡ Err refusal.NotHonest) ⊎ ((called net (step s)).reply ≡ Err refusal.NotFitting)))
    ↔ (¬ Admits net l (thread_at net s).controller slip p)

-- a done launch puts its code into the lowest free slot, with the new pass, and leaves every other thread alone
abbrev pub Launches : Type 0
Launches = (net : Net) (c : Controller) (bytes : List ℕ) (f : Fields) → Sized net → (called net (launch c bytes)).reply ≡ Ok f →
    (view (called net (launch c bytes)).net (free_slot net) ≡ held c (code_of bytes) (new_pass net))
    × ((j : ℕ) → j ≢ free_slot net → view (called net (launch c bytes)).net j ≡ view net j)

-- "n × n trust bytes row by row (row: who trusts), n × 32 policy counts": where a done set-up's net has them from
pub record Layout (bytes : List ℕ) : Type 0 where
  pub trusts : (k l : Controller) → T (in_net (set_up_net bytes) k) → T (in_net (set_up_net bytes) l) →
      trust (set_up_net bytes) k l ≡ slice_index bytes (4 + controllers_of bytes * (k.0 - 16) + (l.0 - 16))
  pub policies : (k : Controller) → T (in_net (set_up_net bytes) k) → (α : ℕ) → α < 32 →
      slice_index (policy_of (set_up_net bytes) k) α ≡ slice_index bytes (4 + controllers_of bytes * controllers_of bytes + (32 * (k.0 - 16) + α))

abbrev pub LaidOut : Type 0
LaidOut = (bytes : List ℕ) → controllers_of bytes ≤ 16 → Layout bytes

-- DEMAND 3. "tested code passes exactly if no run of it, in the paper's sense, uses a name more often than the policy, and each carried program at
-- any depth keeps its slip"
abbrev pub TestExact : Type 0
TestExact = (allowed : Policy) (slip : Slip) (p : Program) → NoneHolds (entry_rows the_code allowed slip p) ↔ (Keeps allowed p × KeepsSlips p)

-- "The need is tested after honesty, so both faults give 8": what the reply to tested code is exactly
abbrev pub Tested : Outcome → Policy → Program → Type 0
Tested o allowed p =
    ((o.reply ≡ Err refusal.NotHonest) ↔ (¬ KeepsSlips p))
    × ((o.reply ≡ Err refusal.NotFitting) ↔ (KeepsSlips p × (¬ Keeps allowed p)))

-- so at a launch at a trustworthy controller, where no earlier row holds
abbrev pub LaunchExact : Type 0
LaunchExact = (net : Net) (c : Controller) (bytes : List ℕ) → T (trustworthy net c) → Sound net → envelope 2 385 bytes ≡ Ok tt →
    NoneHolds (tree_rows bytes) → T (in_net net c) → Tested (called net (launch c bytes)) (allows net c) (code_of bytes)

-- and at an entry from a controller that is not good
abbrev pub EntryExact : Type 0
EntryExact = (net : Net) (s : ℕ) (l : Controller) (slip : Slip) (p : Program) → Sound net → Runs net s → s < 64 →
    program_at net (thread_at net s) ≡ depart l slip p → l ≢ (thread_at net s).controller → T (in_net net l) → T (not (good net l (thread_at net s).controller)) →
    Tested (called net (step s)) (allows net l) p

-- "from any accepted set-up, after any calls, no stay at a trustworthy controller has used a name more often than that controller's policy"
abbrev pub Safety : Type 0
Safety = (net : Net) (b : Ledger) → History net b → (stay : ℕ) → stay < b.begun → T (trustworthy net (b.home stay)) → (α : ℕ) →
    Within (b.used stay α) (allows net (b.home stay) α)

-- the paper's (WF-G.SITE_M): each thread at a trustworthy controller is typed by that controller's policy
abbrev pub WellFormed : Type 0
WellFormed = (net : Net) (b : Ledger) → History net b → (i : ℕ) → Runs net i → T (trustworthy net (thread_at net i).controller) →
    Typed (program_at net (thread_at net i)) (allows net (thread_at net i).controller)

-- THE INCIDENT. two running threads carry one pass exactly if they belong to one stay, and a stay's threads stand at its controller
abbrev pub PassesApart : Type 0
PassesApart = (net : Net) (b : Ledger) → History net b →
    ((i j : ℕ) → Runs net i → Runs net j → ((thread_at net i).pass ≡ (thread_at net j).pass) ↔ (b.stay i ≡ b.stay j))
    × ((i : ℕ) → Runs net i → (b.stay i < b.begun) × (b.home (b.stay i) ≡ (thread_at net i).controller))

-- "the first number after the last issued .. that no thread carries at that moment .. At most 64 numbers are passed over"
pub record FirstFree (net : Net) : Type 0 where
  pub free : carried net.threads (new_pass net) ≡ false
  pub least : (d : ℕ) → d < passed_over net → carried net.threads (candidate net.counter.last d) ≡ true
  pub few : passed_over net ≤ 64

abbrev pub PassFirst : Type 0
PassFirst = (net : Net) → Sized net → FirstFree net

-- "the number passed over is part of the reply and equals what the definition passes over"; a pass is issued by a done launch and a done departure
-- alone, and is then the last issued
abbrev pub departs : Program → Bool
departs end = false
departs (act a p) = false
departs (split p q) = false
departs (repeat p) = false
departs (depart l slip p) = true

abbrev pub issues : Net → Call → Bool
issues net (set_up bytes) = false
issues net (launch c bytes) = true
issues net (step slot) = departs (program_at net (thread_at net slot))

abbrev pub PassTold : Type 0
PassTold = (net : Net) (call : Call) (f : Fields) → (called net call).reply ≡ Ok f →
    (f.fresh ≡ cond (issues net call) (Some (new_pass net)) None)
    × (f.over ≡ cond (issues net call) (passed_over net) 0)
    × (T (issues net call) → (called net call).net.counter.last ≡ new_pass net)

-- what a done step shows is the acting stay's pass and controller, and the name that the ledger charges to it, which is all that it charges
abbrev pub charged : Option Name → ℕ → ℕ
charged (Some (name.Acted a)) α = same a.0 α
charged (Some (name.Went l)) α = same l.0 α
charged None α = 0

abbrev pub Told : Type 0
Told = (net : Net) (b : Ledger) → History net b → (s : ℕ) (f : Fields) → (called net (step s)).reply ≡ Ok f →
    (f.pass ≡ Some (thread_at net s).pass)
    × (f.controller ≡ Some (b.home (b.stay s)))
    × ((stay α : ℕ) → (recorded net b (step s)).used stay α ≡ b.used stay α + cond (b.stay s == stay) (charged f.name α) 0)
