-- Bytes that stand in a list: one after the other, and back to each. Assumes nothing.
use mathlib.Core.Path.{◌≡◌, refl, sym, ap, ◌∙◌}
use mathlib.Core.List.{List, [], ◌∷◌, ◌++◌, append_assoc}
use Prim.Native.Nat.{ℕ, suc, ◌+◌, ◌-◌, ◌≤◌, ◌<◌}
use native.Mathlib.Numerals.{add-one}
use native.Mathlib.Omega.{arith}
use lib.ListN.{length, get_or, drop, length-append, length-drop}
use lib.Seq.{drop-cons, drop-drop, drop-append_seam}
use Rattle.program.specs.Tree.{Stands}

module _ {s : List ℕ} where
  pub none : (k : ℕ) → Stands s k [] k
  none k = record { bytes = refl; up = omega arith }

  -- a byte, and what stands behind it
  pub more : {xs : List ℕ} {k b m : ℕ} → k < length s → get_or s k 0 ≡ b → Stands s (k + 1) xs m → Stands s k (b ∷ xs) m
  more {xs} {k} {b} {m} h e t = record {
    bytes = drop-cons s k 0 h ∙ rw (← add-one k, t.bytes, e);
    up = t.up ∙ omega arith;
  }

  pub after : {xs ys : List ℕ} {k m e : ℕ} → Stands s k xs m → Stands s m ys e → Stands s k (xs ++ ys) e
  after {xs} {ys} {k} {m} {e} a b = record {
    bytes = a.bytes ∙ ap (λ t. xs ++ t) b.bytes ∙ sym (append_assoc xs ys (drop e s));
    up = omega (arith, a.up, b.up, length-append xs ys);
  }

  -- bytes that stand in a list end behind their start, and inside it
  pub inside : {xs : List ℕ} {k m : ℕ} → 0 < length xs → Stands s k xs m → (k < m) × (m ≤ length s)
  inside {xs} {k} {m} h t =
      let l = sym (length-drop k s) ∙ ap length t.bytes ∙ length-append xs (drop m s) in
      (omega (arith, t.up), omega (arith, t.up, length-drop m s))

  pub first : {b k m : ℕ} {xs : List ℕ} → Stands s k (b ∷ xs) m → (k < length s) × (get_or s k 0 ≡ b) × Stands s (k + 1) xs m
  first {b} {k} {m} {xs} t =
      let l : length s - k ≡ suc (length (xs ++ drop m s)) = sym (length-drop k s) ∙ ap length t.bytes in
      let h : k < length s = omega arith in
      let c : get_or s k 0 ∷ drop (k + 1) s ≡ b ∷ (xs ++ drop m s) = rw add-one (sym (drop-cons s k 0 h)) ∙ t.bytes in
      (h, cc, record { bytes = cc; up = t.up ∙ omega arith })

  pub parts : (xs : List ℕ) {ys : List ℕ} {k e : ℕ} → Stands s k (xs ++ ys) e → Stands s k xs (k + length xs) × Stands s (k + length xs) ys e
  parts xs {ys} {k} {e} t =
      let b = t.bytes ∙ append_assoc xs ys (drop e s) in
      let r : drop (k + length xs) s ≡ ys ++ drop e s = sym (drop-drop (length xs) k s) ∙ ap (drop (length xs)) b ∙ drop-append_seam xs _ in
      (record { bytes = b ∙ ap (λ t. xs ++ t) (sym r); up = refl }, record { bytes = r; up = omega (arith, t.up, length-append xs ys) })

-- bytes that stand in one list stand in another where it goes on with them
pub elsewhere : {s' : List ℕ} (j : ℕ) (xs rest : List ℕ) → drop j s' ≡ xs ++ rest → Stands s' j xs (j + length xs)
elsewhere {s'} j xs rest f =
    record { bytes = f ∙ ap (λ t. xs ++ t) (sym (sym (drop-drop (length xs) j s') ∙ ap (drop (length xs)) f ∙ drop-append_seam xs rest)); up = refl }
