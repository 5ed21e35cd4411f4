-- Document 01, "The net": the record in the document's words. Definitions only.
use Rattle.std.specs.Prelude.{ℕ, zero, suc, ◌+◌, ◌-◌, ◌*◌, ◌%◌, Bool, cond, not, ◌&&◌, List, take, drop, ◌==◌, nat_le, nat_lt, slice_index, slice_index_or}
use Rattle.std.specs.List.{list_any}
use Rattle.program.specs.declared.names.Controller.{Controller}
use Rattle.program.specs.Names.{controller}
use Rattle.program.specs.Tree.{Program, end}
use Rattle.program.specs.Reading.{Found, whole, cut, bad, read_at}
use Rattle.policy.specs.Counts.{Policy, policy_allows}
use Rattle.rules.specs.declared.net.Thread.{Thread}
use Rattle.rules.specs.declared.net.Net.{Net}

-- "a slot with controller 0 is free and all zero"
abbrev pub zero_thread : Thread
zero_thread = record { place = 0; position = 0; controller = controller 0; pass = 0 }

abbrev pub free : Thread → Bool
free t = t.controller.0 == 0

abbrev pub thread_at : Net → ℕ → Thread
thread_at net slot = slice_index_or net.threads slot zero_thread

-- a running thread has x for its place, or for its pass
abbrev pub has : (Thread → ℕ) → ℕ → Thread → Bool
has field x t = not (free t) && field t == x

-- the lowest number from k on, of n, that passes a test; k + n where none does
unfoldable pub lowest_from : (ℕ → Bool) → ℕ → ℕ → ℕ
lowest_from f k zero = k
lowest_from f k (suc n) = let later = lowest_from f (k + 1) n in cond (f k) k later

-- the lowest free slot of n slots from k on, and the lowest free place of n places from k on: "a place is free when no thread uses it"
abbrev pub slot_in : List Thread → ℕ → ℕ → ℕ
slot_in threads k n = lowest_from (λ slot. free (slice_index_or threads slot zero_thread)) k n

abbrev pub place_in : List Thread → ℕ → ℕ → ℕ
place_in threads k n = lowest_from (λ place. not (list_any (has (λ t. t.place) place) threads)) k n

-- of the whole net; 64 and 8 where there is none
abbrev pub free_slot : Net → ℕ
free_slot net = slot_in net.threads 0 64

abbrev pub free_place : Net → ℕ
free_place net = place_in net.threads 0 8

-- "the first number after the last issued, with 0 after 65,535, that no thread carries at that moment": the number d after the next, how many
-- numbers are passed over, and the new pass
abbrev pub candidate : ℕ → ℕ → ℕ
candidate last d = (last + 1 + d) % 65536

abbrev pub carried : List Thread → ℕ → Bool
carried threads p = list_any (has (λ t. t.pass) p) threads

abbrev pub over_in : List Thread → ℕ → ℕ
over_in threads last = lowest_from (λ d. not (carried threads (candidate last d))) 0 65

abbrev pub pass_in : List Thread → ℕ → ℕ
pass_in threads last = candidate last (over_in threads last)

abbrev pub passed_over : Net → ℕ
passed_over net = over_in net.threads net.counter.last

abbrev pub new_pass : Net → ℕ
new_pass net = pass_in net.threads net.counter.last

-- a place's 384 bytes, and what is read at a thread's position inside its place
unfoldable pub place_bytes : List ℕ → ℕ → List ℕ
place_bytes places place = take 384 (drop (384 * place) places)

abbrev pub located : Net → Thread → Found Program
located net t = read_at (place_bytes net.places t.place) t.position

abbrev pub program_of : Found Program → Program
program_of (whole p m) = p
program_of cut = end
program_of (bad o) = end

abbrev pub program_at : Net → Thread → Program
program_at net t = program_of (located net t)

-- "The controllers are 16 to 15 + n"; the trust of k in l: 0 unknown, 1 good, 2 bad; what k's policy allows
abbrev pub in_net : Net → Controller → Bool
in_net net k = nat_le 16 k.0 && nat_lt k.0 (16 + net.n)

abbrev pub trust : Net → Controller → Controller → ℕ
trust net k l = slice_index net.trust (16 * (k.0 - 16) + (l.0 - 16))

abbrev pub good : Net → Controller → Controller → Bool
good net k l = trust net k l == 1

-- "A controller is trustworthy if its trust in itself is good"
abbrev pub trustworthy : Net → Controller → Bool
trustworthy net k = good net k k

unfoldable pub policy_of : Net → Controller → List ℕ
policy_of net k = take 32 (drop (32 * (k.0 - 16)) net.policies)

abbrev pub allows : Net → Controller → Policy
allows net k = policy_allows (policy_of net k)
