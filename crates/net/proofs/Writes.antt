-- A place's bytes, read and written. Assumes nothing.
use Rattle.std.proofs.Common.{◌≡◌, ℕ, ◌+◌, ◌*◌, ◌-◌, ◌≤◌, List, [], ◌++◌, length, take, drop, replicate, arith, ap, sym, refl, ◌∙◌}
use borrow.Rule.Slice.PartMut.{put_mid, mid_of}
use lib.ListN.{length-take, drop_of_length-le}
use Rattle.std.proofs.lemmas.List.{drop-replicate, drop-drop}
use Rattle.rules.specs.Nets.{place_bytes}
use Rattle.rules.specs.Calls.{written}

module _ (places : List ℕ) (place : ℕ) where
  pub no_ninth_place : length places ≡ 3072 → 8 ≤ place → [] ≡ place_bytes places place
  unfolding place_bytes
  no_ninth_place e h = sym (ap (take 384) (drop_of_length-le places {i = 384 * place} (omega (arith, e))))

  pub place_short : length (place_bytes places place) ≤ 384
  unfolding place_bytes
  place_short = omega (arith, length-take 384 (drop (384 * place) places))

  pub place_is : {a : ℕ} → a ≡ place → mid_of (384 * a) (384 * a + 384 - 384 * a) places ≡ place_bytes places place
  unfolding place_bytes
  place_is {a} i = let e : 384 * a + 384 - 384 * a ≡ 384 = omega arith in rw (e, i) refl

  pub written_is : {a : ℕ} (tree bytes : List ℕ) → a ≡ place → bytes ≡ put_mid 0 (length tree) (replicate 384 0) tree → length tree ≤ 384 →
      put_mid (384 * a) (384 * a + 384 - 384 * a) places bytes ≡ written places place tree
  unfolding written
  written_is {a} tree bytes i e h =
      let k : 384 * a + 384 - 384 * a ≡ 384 = omega arith in
      let b : bytes ≡ tree ++ replicate (384 - length tree) 0 = e ∙ ap (λ l. tree ++ l) (drop-replicate (length tree) 384 0) in
      rw (k, b, i, drop-drop) refl

pub ruleset places = (no_ninth_place, place_is, written_is)
