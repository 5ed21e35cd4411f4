-- What reading finds is exactly the bytes that stand there: of a node's start, of a slip, of a departure's own bytes. Assumes nothing.
use mathlib.Core.Path.{◌≡◌, refl, sym, ap, ◌∙◌}
use mathlib.Core.List.{List, [], ◌∷◌}
use Prim.Native.Nat.{ℕ, zero, suc, ◌+◌, ◌-◌, ◌≤◌, ◌<◌}
use native.Mathlib.Numerals.{sub-one}
use native.Mathlib.Omega.{arith}
use lib.ListN.{length, get_or}
use Rattle.program.specs.declared.names.Controller.{Controller}
use Rattle.program.specs.Tree.{Slip, entry, entries, Rising, Stands}
use Rattle.program.specs.Reading.{Found, whole, Kind, ends, acts, splits, repeats, departs, kind_by, kind_at, entry_at, slip_at, head_at}
use Rattle.program.proofs.Found.{whole_as, byte_is, byte_inv, then_inv, then_is}
use Rattle.program.proofs.Stands.{none, more, first}

-- a node's start: its bytes, and that its action is in range
abbrev pub start_bytes : Kind → List ℕ
start_bytes ends = 0 ∷ []
start_bytes (acts a) = 1 ∷ a.0 ∷ []
start_bytes splits = 2 ∷ []
start_bytes repeats = 3 ∷ []
start_bytes departs = 4 ∷ []

abbrev pub GoodStart : Kind → Type 0
GoodStart ends = Unit {0}
GoodStart (acts a) = a.0 < 16
GoodStart splits = Unit {0}
GoodStart repeats = Unit {0}
GoodStart departs = Unit {0}

module _ (s : List ℕ) (k : ℕ) where
  pub start_is : {kind : Kind} {m : ℕ} → kind_at s k ≡ whole kind m → Stands s k (start_bytes kind) m × GoodStart kind
  unfolding kind_at kind_by
  start_is {kind} {m} e = let b = byte_inv s k 0 5 _ e in go (get_or s k 0) refl b.0 b.2 b.3
    where
      Is : Kind → ℕ → Type 0
      Is x j = Stands s k (start_bytes x) j × GoodStart x

      go : (b : ℕ) → get_or s k 0 ≡ b → k < length s → b < 5 → kind_by s (k + 1) b ≡ whole kind m → Is kind m
      go zero i h u e = whole_as Is e (more h i (none (k + 1)), tt)
      go (suc zero) i h u e =
          let c = byte_inv s (k + 1) 0 16 _ e in
          whole_as Is c.3 (more h i (more c.0 refl (none (k + 1 + 1))), c.2)
      go (suc (suc zero)) i h u e = whole_as Is e (more h i (none (k + 1)), tt)
      go (suc (suc (suc zero))) i h u e = whole_as Is e (more h i (none (k + 1)), tt)
      go (suc (suc (suc (suc b)))) i h u e = whole_as Is e (more h (omega arith) (none (k + 1)), tt)

  first_is : (b : ℕ) {m : ℕ} {xs : List ℕ} → b < 5 → Stands s k (b ∷ xs) m → (kind_at s k ≡ kind_by s (k + 1) b) × Stands s (k + 1) xs m
  unfolding kind_at
  first_is b u t = let f = first t in (byte_is s k 0 5 _ f.0 (omega arith) (omega arith) ∙ ap (kind_by s (k + 1)) f.1, f.2)

  pub start_back : (kind : Kind) {m : ℕ} → GoodStart kind → Stands s k (start_bytes kind) m → kind_at s k ≡ whole kind m
  unfolding kind_by
  start_back ends g t = let f = first_is 0 (omega arith) t in f.0 ∙ ap (whole ends) (omega arith)
  start_back (acts a) g t =
      let f = first_is 1 (omega arith) t in
      let h = first f.1 in
      f.0 ∙ byte_is s (k + 1) 0 16 _ h.0 (omega arith) (omega arith) ∙ rw h.1 (ap (whole (acts a)) (omega arith))
  start_back splits g t = let f = first_is 2 (omega arith) t in f.0 ∙ ap (whole splits) (omega arith)
  start_back repeats g t = let f = first_is 3 (omega arith) t in f.0 ∙ ap (whole repeats) (omega arith)
  start_back departs g t = let f = first_is 4 (omega arith) t in f.0 ∙ ap (whole departs) (omega arith)

-- a slip's entries
entry_is : {slip : Slip} {n m : ℕ} (rest : ℕ → Found Slip) (s : List ℕ) (low k : ℕ) →
    ((l : ℕ) (slip : Slip) (m : ℕ) → rest l ≡ whole slip m → Stands s (k + 1 + 1) (entries slip) m × Rising l slip × (length slip ≡ n)) →
    entry_at rest s low k ≡ whole slip m → Stands s k (entries slip) m × Rising low slip × (length slip ≡ suc n)
unfolding entry_at entries Rising
entry_is {slip} {n} {m} rest s low k later e =
    let x = byte_inv s k low 32 _ e in
    let c = byte_inv s (k + 1) 1 256 _ x.3 in
    let t = then_inv (rest (get_or s k 0 + 1)) _ c.3 in
    let r = later (get_or s k 0 + 1) _ _ t.2 in
    whole_as (λ sl j. Stands s k (entries sl) j × Rising low sl × (length sl ≡ suc n)) t.3
    (more x.0 refl (more c.0 refl r.0), (x.1, x.2, c.1, c.2, r.1), ap suc r.2)

-- one entry, and those after it
pub slip_step : (s : List ℕ) (n low k : ℕ) → 0 < n → slip_at s n low k ≡ entry_at (λ l. slip_at s (n - 1) l (k + 1 + 1)) s low k
unfolding slip_at
slip_step s zero low k h = absurd (omega arith)
slip_step s (suc n) low k h = rw (sub-one (suc n))

pub slip_is : (s : List ℕ) (n low k : ℕ) {slip : Slip} {m : ℕ} → slip_at s n low k ≡ whole slip m →
    Stands s k (entries slip) m × Rising low slip × (length slip ≡ n)
unfolding slip_at entries Rising
slip_is s zero low k e = whole_as (λ sl j. Stands s k (entries sl) j × Rising low sl × (length sl ≡ 0)) e (none k, tt, refl)
slip_is s (suc n) low k e = entry_is _ s low k (λ l slip m. slip_is s n l (k + 1 + 1)) e

pub slip_long : (s : List ℕ) (n low k : ℕ) (slip : Slip) (m : ℕ) → slip_at s n low k ≡ whole slip m → length slip ≡ n
slip_long s n low k slip m e = (slip_is s n low k e).2

pub slip_back : (s : List ℕ) (slip : Slip) (low k : ℕ) {m : ℕ} → Rising low slip → Stands s k (entries slip) m → slip_at s (length slip) low k ≡ whole slip m
unfolding slip_at entry_at entries Rising
slip_back s [] low k g t = ap (whole []) (omega arith)
slip_back s (entry x c ∷ slip) low k {m} g t =
    let a = first t in
    let b = first a.2 in
    byte_is s k low 32 _ a.0 (omega arith) (omega arith) ∙ byte_is s (k + 1) 1 256 _ b.0 (omega arith) (omega arith)
    ∙ rw (a.1, b.1) (then_is (λ sl j. whole (entry x c ∷ sl) j) (slip_back s slip (x + 1) (k + 1 + 1) g.4 b.2))

-- names that rise to below 32 are at most 32
short : (low : ℕ) (slip : Slip) → low ≤ 32 → Rising low slip → length slip + low ≤ 32
unfolding Rising
short low [] h g = omega arith
short low (entry x c ∷ slip) h g = omega (arith, short (x + 1) slip (omega arith) g.4)

-- a departure's own bytes
abbrev pub head_bytes : Controller × Slip → List ℕ
head_bytes h = h.0.0 ∷ length h.1 ∷ entries h.1

abbrev pub GoodHead : Controller × Slip → Type 0
GoodHead h = (16 ≤ h.0.0) × (h.0.0 < 32) × Rising 0 h.1

module _ (s : List ℕ) (k : ℕ) where
  pub head_is : {h : Controller × Slip} {m : ℕ} → head_at s k ≡ whole h m → Stands s k (head_bytes h) m × GoodHead h
  unfolding head_at
  head_is {h} {m} e =
      let c = byte_inv s k 16 32 _ e in
      let n = byte_inv s (k + 1) 0 33 _ c.3 in
      let t = then_inv (slip_at s (get_or s (k + 1) 0) 0 (k + 1 + 1)) _ n.3 in
      let r = slip_is s (get_or s (k + 1) 0) 0 (k + 1 + 1) t.2 in
      whole_as (λ x j. Stands s k (head_bytes x) j × GoodHead x) t.3
      (more c.0 refl (more n.0 (sym r.2) r.0), (c.1, c.2, r.1))

  pub head_back : (h : Controller × Slip) {m : ℕ} → GoodHead h → Stands s k (head_bytes h) m → head_at s k ≡ whole h m
  unfolding head_at
  head_back h g t =
      let c = first t in
      let n = first c.2 in
      byte_is s k 16 32 _ c.0 (omega arith) (omega arith)
      ∙ byte_is s (k + 1) 0 33 _ n.0 (omega arith) (omega (arith, short 0 h.1 (omega arith) g.2))
      ∙ rw (c.1, n.1) (then_is (λ sl j. whole (h.0, sl) j) (slip_back s h.1 0 (k + 1 + 1) g.2 n.2))
