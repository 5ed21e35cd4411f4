-- Document 01's ten cases marked P, one list under one statement; and its worked listing. Definitions only.
use Rattle.std.specs.Prelude.{◌≡◌, ℕ, suc, List, [], ◌∷◌, ◌++◌, map, length, replicate, slice_set}
use Rattle.program.specs.Names.{controller}
use Rattle.program.specs.Reading.{read_at}
use Rattle.policy.specs.Counts.{Count, finite, unlimited}
use Rattle.policy.specs.Needs.{need}
use Rattle.rules.specs.declared.net.Thread.{Thread}
use Rattle.rules.specs.declared.net.Net.{Net}
use Rattle.rules.specs.Rows.{number, Reply}
use Rattle.rules.specs.Nets.{program_of, new_pass, passed_over}
use Rattle.rules.specs.Calls.{Call, set_up, launch, step, called}

-- calls one after the other, and what they answer
abbrev pub answers : Net → List Call → List Reply
answers net [] = []
answers net (c ∷ calls) = (called net c).reply ∷ answers (called net c).net calls

-- calls with the numbers of their replies; a tree's need of a name; the next pass after the last, with some carried, and how many are passed over
pub data Case : Type 0 where
  replies : List Call → List ℕ → Case
  needs : List ℕ → ℕ → Count → Case
  issues : ℕ → List ℕ → ℕ → ℕ → Case

-- a record before any set-up; and one of which nothing is asked but threads and the last pass
abbrev pub with_threads : ℕ → List Thread → Net
with_threads last threads =
    record { n = 0; trust = replicate 256 0; policies = replicate 512 0; threads = threads; places = replicate 3072 0; counter = record { last = last } }

abbrev pub carrying : ℕ → Thread
carrying pass = record { place = 0; position = 0; controller = controller 16; pass = pass }

abbrev pub Holds : Case → Type 0
Holds (replies calls numbers) = map number (answers (with_threads 0 []) calls) ≡ numbers
Holds (needs tree α c) = need (program_of (read_at tree 0)) α ≡ c
Holds (issues last passes next over) = (new_pass (with_threads last (map carrying passes)) ≡ next) × (passed_over (with_threads last (map carrying passes)) ≡ over)

abbrev pub AllHold : List Case → Type 0
AllHold [] = Unit {0}
AllHold (c ∷ cases) = Holds c × AllHold cases

-- the policy that allows one name alone, n times; one trustworthy controller; and two, of which the second trusts the first so
abbrev pub only : ℕ → ℕ → List ℕ
only α n = slice_set (replicate 32 0) α n

abbrev pub alone : List ℕ → Call
alone policy = set_up (0 ∷ 35 ∷ 1 ∷ 1 ∷ 1 ∷ policy)

abbrev pub two : ℕ → List ℕ → List ℕ → Call
two trust policy policy' = set_up (0 ∷ 70 ∷ 1 ∷ 2 ∷ 1 ∷ 1 ∷ trust ∷ 1 ∷ (policy ++ policy'))

abbrev pub at16 : List ℕ → Call
at16 tree = launch (controller 16) (0 ∷ suc (length tree) ∷ 1 ∷ tree)

-- the trees of cases 3 to 6, and of 9
abbrev pub twice : List ℕ
twice = 1 ∷ 3 ∷ 1 ∷ 3 ∷ 0 ∷ []

abbrev pub both : List ℕ
both = 2 ∷ 1 ∷ 3 ∷ 0 ∷ 1 ∷ 3 ∷ 0 ∷ []

abbrev pub again : List ℕ
again = 3 ∷ 1 ∷ 3 ∷ 0 ∷ []

abbrev pub away : List ℕ
away = 4 ∷ 17 ∷ 1 ∷ 3 ∷ 1 ∷ 1 ∷ 3 ∷ 0 ∷ []

abbrev pub wide : List ℕ
wide = 4 ∷ 17 ∷ 1 ∷ 3 ∷ 2 ∷ 1 ∷ 3 ∷ 0 ∷ []

abbrev pub cases : List Case
cases =
    replies (alone (only 0 0) ∷ at16 (0 ∷ []) ∷ []) (0 ∷ 0 ∷ [])  -- 1
    ∷ replies (alone (only 0 0) ∷ at16 (3 ∷ 0 ∷ []) ∷ []) (0 ∷ 0 ∷ [])  -- 2
    ∷ needs twice 3 (finite 2)  -- 3
    ∷ replies (alone (only 3 2) ∷ at16 twice ∷ []) (0 ∷ 0 ∷ [])
    ∷ replies (alone (only 3 1) ∷ at16 twice ∷ []) (0 ∷ 7 ∷ [])
    ∷ needs both 3 (finite 2)  -- 4
    ∷ replies (alone (only 3 2) ∷ at16 both ∷ []) (0 ∷ 0 ∷ [])
    ∷ replies (alone (only 3 1) ∷ at16 both ∷ []) (0 ∷ 7 ∷ [])
    ∷ replies (alone (only 3 255) ∷ at16 again ∷ []) (0 ∷ 0 ∷ [])  -- 5
    ∷ replies (alone (only 3 254) ∷ at16 again ∷ []) (0 ∷ 7 ∷ [])
    ∷ needs away 17 (finite 1)  -- 6
    ∷ needs away 3 (finite 0)
    ∷ replies (alone (only 17 1) ∷ at16 away ∷ []) (0 ∷ 0 ∷ [])
    ∷ replies (alone (only 0 0) ∷ at16 (4 ∷ 17 ∷ 0 ∷ 1 ∷ 3 ∷ 0 ∷ []) ∷ []) (0 ∷ 8 ∷ [])  -- 7, which does not fit either
    ∷ needs (3 ∷ 4 ∷ 17 ∷ 0 ∷ 0 ∷ []) 17 unlimited  -- 8
    ∷ replies (two 1 (only 17 1) (only 3 1) ∷ at16 wide ∷ step 0 ∷ []) (0 ∷ 0 ∷ 12 ∷ [])  -- 9
    ∷ replies (two 0 (only 17 1) (only 3 1) ∷ at16 wide ∷ step 0 ∷ []) (0 ∷ 0 ∷ 0 ∷ [])
    ∷ issues 65535 (0 ∷ 1 ∷ []) 2 2  -- 10
    ∷ []

-- the worked listing: "Two controllers, all trust good; 16 counts name 17 once, 17 counts action 3 once .. Launch case 6 at 16, step slot 0 four times"
abbrev pub listing : List Call
listing = two 1 (only 17 1) (only 3 1) ∷ at16 away ∷ step 0 ∷ step 0 ∷ step 0 ∷ step 0 ∷ []
