-- Document 01: "A record is sound if ..", as plain statements and as a test. Definitions only.
use Rattle.std.specs.Prelude.{◌≡◌, ℕ, ◌<◌, ◌≤◌, Bool, true, false, cond, not, ◌&&◌, T, leb, length, ◌==◌, nat_le, nat_lt, slice_index}
use Rattle.std.specs.List.{list_all}
use Rattle.program.specs.Tree.{Program}
use Rattle.program.specs.Reading.{Found, whole, cut, bad}
use Rattle.rules.specs.declared.net.Thread.{Thread}
use Rattle.rules.specs.declared.net.Net.{Net}
use Rattle.rules.specs.Nets.{zero_thread, free, thread_at, located, in_net}

-- "each thread has a place below 8, a controller of the net and a position from which a whole program can be read inside its place"
pub record Placed (net : Net) (t : Thread) : Type 0 where
  pub place : t.place < 8
  pub stands : T (in_net net t.controller)
  pub reads : (p : Program) × (m : ℕ) × (located net t ≡ whole p m)

-- "n is at most 16, trust bytes are at most 2, free slots are zero"
pub record Sound (net : Net) : Type 0 where
  pub few : net.n ≤ 16
  pub trusts : (i : ℕ) → slice_index net.trust i ≤ 2
  pub frees : (slot : ℕ) → T (free (thread_at net slot)) → thread_at net slot ≡ zero_thread
  pub runs : (slot : ℕ) → T (not (free (thread_at net slot))) → Placed net (thread_at net slot)

-- the arrays are as long as the struct has them
pub record Sized (net : Net) : Type 0 where
  pub slots : length net.threads ≡ 64
  pub bytes : length net.places ≡ 3072

-- the same as a test
abbrev pub is_whole : Found Program → Bool
is_whole (whole p m) = true
is_whole cut = false
is_whole (bad o) = false

abbrev pub is_zero : Thread → Bool
is_zero t = t.place == 0 && (t.position == 0 && (t.controller.0 == 0 && t.pass == 0))

abbrev pub placedb : Net → Thread → Bool
placedb net t = nat_lt t.place 8 && (in_net net t.controller && is_whole (located net t))

abbrev pub slotb : Net → Thread → Bool
slotb net t = cond (free t) (is_zero t) (placedb net t)

unfoldable pub soundb : Net → Bool
soundb net = nat_le net.n 16 && (list_all (λ b. leb b 2) net.trust && list_all (slotb net) net.threads)
