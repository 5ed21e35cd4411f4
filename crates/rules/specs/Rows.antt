-- Refusals as rows of document 01's table, in its order: the first row that holds gives the reply. Definitions only.
use Rattle.std.specs.Prelude.{◌≡◌, ℕ, Bool, true, false, cond, List, [], ◌∷◌, None, Result, Ok, Err}
use Rattle.program.specs.declared.envelope.EnvelopeFault.{EnvelopeFault}
use Rattle.program.specs.declared.envelope.EnvelopeFault.TheVariants as envelopes
use Rattle.program.specs.declared.reader.Fault.{Fault}
use Rattle.program.specs.declared.reader.Fault.TheVariants as reading
use Rattle.policy.specs.declared.test.CodeFault.{CodeFault}
use Rattle.policy.specs.declared.test.CodeFault.TheVariants as testing
use Rattle.rules.specs.declared.net.Net.{Net}
use Rattle.rules.specs.declared.reply.Fields.{Fields}
use Rattle.rules.specs.declared.reply.Refusal.{Refusal}
use Rattle.rules.specs.declared.reply.Refusal.TheVariants as refusal
use Rattle.rules.specs.declared.reply.Name.{Name}
use Rattle.rules.specs.declared.reply.Name.TheVariants as name
use Rattle.rules.specs.declared.reply.Outcome.{Outcome}

-- what a call replies: done, with its fields, or refused
abbrev pub Reply : Type 0
Reply = Result Fields Refusal

-- the document's number for each refusal
abbrev pub refusal_number : Refusal → ℕ
refusal_number refusal.Fewer = 1
refusal_number refusal.Length = 2
refusal_number refusal.Version = 3
refusal_number refusal.Cut = 4
refusal_number refusal.Bad = 5
refusal_number refusal.LeftOver = 6
refusal_number refusal.NotFitting = 7
refusal_number refusal.NotHonest = 8
refusal_number refusal.NoSlot = 9
refusal_number refusal.NoPlace = 10
refusal_number refusal.NoThread = 11
refusal_number refusal.SlipNotFitting = 12
refusal_number refusal.AlreadyHere = 13
refusal_number refusal.BadSetUp = 14
refusal_number refusal.NotCoherent = 15
refusal_number refusal.NoController = 16
refusal_number refusal.NotSound = 99

-- the refusal for each fault of the parts: of an envelope, of reading a tree, and of testing code, which a sound net has
-- whole wherever code is tested
abbrev pub of_envelope : EnvelopeFault → Refusal
of_envelope envelopes.Fewer = refusal.Fewer
of_envelope envelopes.Length = refusal.Length
of_envelope envelopes.Version = refusal.Version

abbrev pub of_reading : Fault → Refusal
of_reading reading.Cut = refusal.Cut
of_reading (reading.Bad at) = refusal.Bad

abbrev pub of_code : CodeFault → Refusal
of_code testing.Unread = refusal.NotSound
of_code testing.NotHonest = refusal.NotHonest
of_code testing.NotFitting = refusal.NotFitting

-- the number of the name that a done step used: actions are 0 to 15, controllers 16 to 31
abbrev pub number_of : Name → ℕ
number_of (name.Acted a) = a.0
number_of (name.Went c) = c.0

-- the number and the values of each reply: a refusal returns zeros, every field marked as absent
abbrev pub number : Reply → ℕ
number (Ok f) = 0
number (Err r) = refusal_number r

abbrev pub no_fields : Fields
no_fields = record { pass = None; controller = None; name = None; fresh = None; over = 0 }

abbrev pub fields : Reply → Fields
fields (Ok f) = f
fields (Err r) = no_fields

-- a test, and the refusal that it gives
infix 68 ◌gives◌
pub data Row : Type 0 where
  ◌gives◌ : Bool → Refusal → Row

-- a refused call leaves the net as found
abbrev pub refused : Refusal → Net → Outcome
refused r net = record { reply = Err r; net = net }

-- the first row that holds refuses; where none holds, the call is done
abbrev pub answer : List Row → Net → Outcome → Outcome
answer [] net done = done
answer (test gives r ∷ rows) net done = cond test (refused r net) (answer rows net done)

-- r's row is the first that holds; and no row holds
pub data First : List Row → Refusal → Type 0 where
  here : {test : Bool} {r : Refusal} {rows : List Row} → test ≡ true → First (test gives r ∷ rows) r
  later : {test : Bool} {q r : Refusal} {rows : List Row} → test ≡ false → First rows r → First (test gives q ∷ rows) r

abbrev pub NoneHolds : List Row → Type 0
NoneHolds [] = Unit {0}
NoneHolds (test gives r ∷ rows) = (test ≡ false) × NoneHolds rows
