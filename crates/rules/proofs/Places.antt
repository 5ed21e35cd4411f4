-- Reading at the positions inside a program, and after a place is written. Assumes nothing.
use Rattle.std.proofs.Common.{◌≡◌, ℕ, ◌+◌, ◌-◌, ◌*◌, ◌<◌, ◌≤◌, ◌≢◌, ◌⊎◌, List, ◌++◌, length, get_or, take, drop, replicate, sym, refl, ap, ◌∙◌, inl, inr, arith, length-append, length-drop, length-take-le, get_or-drop, get_or-take, take_at, get_or-append-add, ext_get_or, drop_at}
use native.Mathlib.Decide.{dec_lt}
use lib.ListN.{length-replicate, get_or-append}
use Rattle.program.specs.declared.names.Action.{Action}
use Rattle.program.specs.declared.names.Controller.{Controller}
use Rattle.program.specs.Tree.{Slip, Program, act, split, repeat, depart, entries, encode}
use Rattle.program.specs.Reading.{whole, read_at}
use Rattle.program.proofs.Laws.{in_act, in_split, in_repeat, in_depart}
use Rattle.rules.specs.Nets.{place_bytes}
use Rattle.rules.specs.Calls.{written}

-- the program p is read at k
abbrev pub Reads : List ℕ → ℕ → Program → Type 0
Reads s k p = (m : ℕ) × (read_at s k ≡ whole p m)

-- and so are the programs inside it, each where a step goes
module _ (s : List ℕ) (k : ℕ) where
  pub reads_act : {a : Action} {p : Program} → Reads s k (act a p) → Reads s (k + 1 + 1) p
  reads_act (m, e) = (m, in_act s k e)

  pub reads_first : {p q : Program} → Reads s k (split p q) → Reads s (k + 1) p
  reads_first (m, e) = (_, (in_split s k e).0)

  pub reads_second : {p q : Program} → Reads s k (split p q) → Reads s (k + 1 + length (encode p)) q
  reads_second (m, e) = (m, (in_split s k e).1)

  pub reads_repeat : {p : Program} → Reads s k (repeat p) → Reads s (k + 1) p
  reads_repeat (m, e) = (m, in_repeat s k e)

  pub reads_depart : {l : Controller} {slip : Slip} {p : Program} → Reads s k (depart l slip p) → Reads s (k + 1 + 1 + 1 + length (entries slip)) p
  reads_depart (m, e) = (m, (in_depart s k e).1)

-- a place's bytes
place_long : (l : List ℕ) (q : ℕ) → length l ≡ 3072 → q < 8 → length (place_bytes l q) ≡ 384
unfolding place_bytes
place_long l q e h = length-take-le 384 (drop (384 * q) l) (omega (arith, length-drop (384 * q) l))

place_at : (l : List ℕ) (q i : ℕ) → i < 384 → get_or (place_bytes l q) i 0 ≡ get_or l (384 * q + i) 0
unfolding place_bytes
place_at l q i h = get_or-take 384 (drop (384 * q) l) i 0 h ∙ get_or-drop (384 * q) l i 0

-- what lies behind two lists
behind : (a b c : List ℕ) (n j : ℕ) → length a + length b ≡ n → get_or (a ++ (b ++ c)) (n + j) 0 ≡ get_or c j 0
behind a b c n j e =
    let i : n + j ≡ length a + (length b + j) = omega arith in
    ap (λ i. get_or (a ++ (b ++ c)) i 0) i ∙ get_or-append-add a (b ++ c) (length b + j) 0 ∙ get_or-append-add b c j 0

-- a place that is written holds the tree, and every other place is as it was
module _ (places : List ℕ) (p : ℕ) (tree : List ℕ) (long : length places ≡ 3072) (low : p < 8) (short : length tree ≤ 384) where
  front : length (take (384 * p) places) ≡ 384 * p
  front = length-take-le (384 * p) places (omega arith)

  block : List ℕ
  block = tree ++ replicate (384 - length tree) 0

  block_long : length block ≡ 384
  unfolding block
  block_long = length-append tree _ ∙ ap (λ n. length tree + n) (length-replicate (384 - length tree) 0) ∙ omega arith

  written_is : written places p tree ≡ take (384 * p) places ++ (block ++ drop (384 * p + 384) places)
  unfolding block written
  written_is = refl

  pub written_long : length (written places p tree) ≡ 3072
  written_long =
      ap length written_is ∙ length-append (take (384 * p) places) _
      ∙ omega (arith, front, length-append block (drop (384 * p + 384) places), block_long, length-drop (384 * p + 384) places)

  pub written_here : place_bytes (written places p tree) p ≡ tree ++ replicate (384 - length tree) 0
  unfolding block place_bytes
  written_here = ap (λ t. take 384 (drop (384 * p) t)) written_is ∙ ap (take 384) (drop_at (take (384 * p) places) _ (384 * p) front) ∙ take_at block _ 384 block_long

  at_written : (j : ℕ) → (j < 384 * p) ⊎ (384 * p + 384 ≤ j) → get_or (written places p tree) j 0 ≡ get_or places j 0
  at_written j (inl h) = ap (λ t. get_or t j 0) written_is ∙ get_or-append (take (384 * p) places) _ 0 j (omega (arith, front)) ∙ get_or-take (384 * p) places j 0 h
  at_written j (inr h) =
      let e : 384 * p + 384 + (j - (384 * p + 384)) ≡ j = omega arith in
      ap (λ i. get_or (written places p tree) i 0) (sym e) ∙ ap (λ t. get_or t (384 * p + 384 + (j - (384 * p + 384))) 0) written_is
      ∙ behind (take (384 * p) places) block (drop (384 * p + 384) places) (384 * p + 384) (j - (384 * p + 384)) (omega (arith, front, block_long))
      ∙ get_or-drop (384 * p + 384) places (j - (384 * p + 384)) 0 ∙ ap (λ i. get_or places i 0) e

  pub written_other : (q : ℕ) → q < 8 → q ≢ p → place_bytes (written places p tree) q ≡ place_bytes places q
  written_other q h ne =
      ext_get_or 0 _ _ (place_long (written places p tree) q written_long h ∙ sym (place_long places q long h))
      (λ i u.
      let v : i < 384 = omega (arith, u, place_long (written places p tree) q written_long h) in
      place_at (written places p tree) q i v ∙ at_written (384 * q + i) (side i v) ∙ sym (place_at places q i v))
    where
      side : (i : ℕ) → i < 384 → (384 * q + i < 384 * p) ⊎ (384 * p + 384 ≤ 384 * q + i)
      side i v = elim (dec_lt q p) [ yes l ↦ inl (omega arith) | no g ↦ inr (omega arith) ]
