-- Reading a beginning of the bytes finds what reading all of them finds, as far as the beginning shows it; so faults come in the order of
-- their bytes. Assumes nothing.
use mathlib.Core.Path.{◌≡◌, refl, sym, ap, subst, ◌∙◌}
use mathlib.Core.List.{List}
use mathlib.Core.Bool.{Bool, true, false}
use Prim.Native.Nat.{ℕ, zero, suc, ◌+◌, ◌≤◌, ◌<◌}
use native.Mathlib.Omega.{arith}
use native.Mathlib.Nat.{le_refl, le_trans}
use lib.ListN.{length, get_or, take, length-take}
use lib.Seq.{get_or-take, take_all}
use lib.Dec.{ltb, leb}
use borrow.Author.Tests.{lt-ltb, le-ltb, ltb-true, ltb-false}
use Rattle.program.specs.Tree.{Program}
use Rattle.program.specs.Reading.{Found, whole, cut, bad, and_then, judge, byte_at, Kind, ends, acts, splits, repeats, departs, kind_by, kind_at, entry_at, slip_at, head_at, depart_at, inside_at, step, read_by, read_at}
use Rattle.program.specs.Faults.{InOrder}
use Rattle.program.proofs.Found.{byte_cut}
use Rattle.program.proofs.Step.{read_by_lem}

-- it takes k bytes or more to find this, or more than there are
data Later {A : Type 0} (k : ℕ) : Found A → Type 0 where
  later_whole : {a : A} {m : ℕ} → k ≤ m → Later k (whole a m)
  later_cut : Later k cut
  later_bad : {o : ℕ} → k ≤ o + 1 → Later k (bad o)

weaker : {A : Type 0} {j k : ℕ} {r : Found A} → j ≤ k → Later k r → Later j r
weaker h (later_whole l) = later_whole (le_trans h l)
weaker h later_cut = later_cut
weaker h (later_bad l) = later_bad (le_trans h l)

byte_later : {A : Type 0} (s : List ℕ) (k lo hi : ℕ) (g : ℕ → Found A) → ((b : ℕ) → Later (k + 1) (g b)) → Later (k + 1) (byte_at s k lo hi g)
unfolding byte_at judge
byte_later s k lo hi g later = go (ltb k (length s)) (leb lo (get_or s k 0)) (ltb (get_or s k 0) hi)
  where
    go : (x y z : Bool) → Later (k + 1) (judge x y z k (get_or s k 0) g)
    go false y z = later_cut
    go true false z = later_bad (le_refl (k + 1))
    go true true false = later_bad (le_refl (k + 1))
    go true true true = later (get_or s k 0)

then_later : {A B : Type 0} {k : ℕ} {o : Found A} (f : A → ℕ → Found B) → Later k o → ((a : A) (m : ℕ) → Later m (f a m)) → Later k (and_then o f)
unfolding and_then
then_later f (later_whole h) later = weaker h (later _ _)
then_later f later_cut later = later_cut
then_later f (later_bad h) later = later_bad h

-- what a beginning of n bytes shows of what all bytes show: the same, or cut where it takes more
data Shows {A : Type 0} (n : ℕ) : Found A → Found A → Type 0 where
  shows_whole : {a : A} {m : ℕ} → m ≤ n → Shows n (whole a m) (whole a m)
  shows_bad : {o : ℕ} → o < n → Shows n (bad o) (bad o)
  shows_cut : {r : Found A} → Later (n + 1) r → Shows n r cut

-- a byte inside the beginning is the same byte
there : (n : ℕ) (s : List ℕ) (k : ℕ) → k < n → ltb k (length (take n s)) ≡ ltb k (length s)
there n s k h = go (ltb k (length s)) refl
  where
    go : (t : Bool) → ltb k (length s) ≡ t → ltb k (length (take n s)) ≡ t
    go true e = lt-ltb k _ (omega (arith, length-take n s, ltb-true k (length s) e))
    go false e = le-ltb k _ (omega (arith, length-take n s, ltb-false k (length s) e))

byte_shows : {A : Type 0} (n : ℕ) (s : List ℕ) (k lo hi : ℕ) (g f : ℕ → Found A) → ((b : ℕ) → Later (k + 1) (g b)) → (k < n → (b : ℕ) → Shows n (g b) (f b)) →
    Shows n (byte_at s k lo hi g) (byte_at (take n s) k lo hi f)
unfolding byte_at judge
byte_shows {A} n s k lo hi g f later same = go (ltb k n) refl
  where
    by : k < n → (x y z : Bool) (b : ℕ) → Shows n (judge x y z k b g) (judge x y z k b f)
    by h false y z b = shows_cut later_cut
    by h true false z b = shows_bad h
    by h true true false b = shows_bad h
    by h true true true b = same h b

    go : (t : Bool) → ltb k n ≡ t → Shows n (byte_at s k lo hi g) (byte_at (take n s) k lo hi f)
    go true e =
        let h = ltb-true k n e in
        rw (there n s k h, get_or-take n s k 0 h) (by h (ltb k (length s)) (leb lo (get_or s k 0)) (ltb (get_or s k 0) hi) (get_or s k 0))
    go false e =
        let h = ltb-false k n e in
        subst (Shows n (byte_at s k lo hi g)) (sym (byte_cut (take n s) k lo hi f (omega (arith, length-take n s))))
        (shows_cut (weaker (omega arith) (byte_later s k lo hi g later)))

then_shows : {A B : Type 0} {n : ℕ} {o o' : Found A} (f f' : A → ℕ → Found B) → Shows n o o' → ((a : A) (m : ℕ) → Later m (f a m)) →
    ((a : A) (m : ℕ) → m ≤ n → Shows n (f a m) (f' a m)) → Shows n (and_then o f) (and_then o' f')
unfolding and_then
then_shows f f' (shows_whole h) later same = same _ _ h
then_shows f f' (shows_bad h) later same = shows_bad h
then_shows f f' (shows_cut l) later same = shows_cut (then_later f l later)

-- a reading of all bytes from k, which takes j bytes or more, beside the same reading of a beginning of n bytes
record Beside {A : Type 0} (n j k : ℕ) (r r' : Found A) : Type 0 where
  later : Later j r
  shows : k ≤ n → Shows n r r'

module _ (n : ℕ) where
  beside_whole : {A : Type 0} {a : A} (k : ℕ) → Beside n k k (whole a k) (whole a k)
  beside_whole k = record { later = later_whole (le_refl k); shows = shows_whole }

  beside_weaker : {A : Type 0} {i j k : ℕ} {r r' : Found A} → i ≤ j → Beside n j k r r' → Beside n i k r r'
  beside_weaker h t = record { later = weaker h t.later; shows = t.shows }

  beside_byte : {A : Type 0} (s : List ℕ) (k lo hi : ℕ) (g f : ℕ → Found A) → ((b : ℕ) → Beside n (k + 1) (k + 1) (g b) (f b)) →
      Beside n (k + 1) k (byte_at s k lo hi g) (byte_at (take n s) k lo hi f)
  beside_byte s k lo hi g f t = record {
    later = byte_later s k lo hi g (λ b. (t b).later);
    shows = λ h. byte_shows n s k lo hi g f (λ b. (t b).later) (λ l b. (t b).shows (omega arith));
  }

  beside_then : {A B : Type 0} {j k : ℕ} {o o' : Found A} (f f' : A → ℕ → Found B) → Beside n j k o o' → ((a : A) (m : ℕ) → Beside n m m (f a m) (f' a m)) →
      Beside n j k (and_then o f) (and_then o' f')
  beside_then f f' t u = record {
    later = then_later f t.later (λ a m. (u a m).later);
    shows = λ h. then_shows f f' (t.shows h) (λ a m. (u a m).later) (λ a m. (u a m).shows);
  }

-- each reading beside that of a beginning
module _ (n : ℕ) (s : List ℕ) where
  kind_by_beside : (k b : ℕ) → Beside n k k (kind_by s k b) (kind_by (take n s) k b)
  unfolding kind_by
  kind_by_beside k zero = beside_whole n k
  kind_by_beside k (suc zero) = beside_weaker n (omega arith) (beside_byte n s k 0 16 _ _ (λ a. beside_whole n (k + 1)))
  kind_by_beside k (suc (suc zero)) = beside_whole n k
  kind_by_beside k (suc (suc (suc zero))) = beside_whole n k
  kind_by_beside k (suc (suc (suc (suc b)))) = beside_whole n k

  kind_beside : (k : ℕ) → Beside n (k + 1) k (kind_at s k) (kind_at (take n s) k)
  unfolding kind_at
  kind_beside k = beside_byte n s k 0 5 _ _ (kind_by_beside (k + 1))

  slip_beside : (e low k : ℕ) → Beside n k k (slip_at s e low k) (slip_at (take n s) e low k)
  unfolding slip_at entry_at
  slip_beside zero low k = beside_whole n k
  slip_beside (suc e) low k =
      beside_weaker n (omega arith) (beside_byte n s k low 32 _ _ (λ x.
      beside_weaker n (omega arith) (beside_byte n s (k + 1) 1 256 _ _ (λ c.
      beside_then n _ _ (slip_beside e (x + 1) (k + 1 + 1)) (λ slip m. beside_whole n m)))))

  head_beside : (k : ℕ) → Beside n k k (head_at s k) (head_at (take n s) k)
  unfolding head_at
  head_beside k =
      beside_weaker n (omega arith) (beside_byte n s k 16 32 _ _ (λ c.
      beside_weaker n (omega arith) (beside_byte n s (k + 1) 0 33 _ _ (λ e.
      beside_then n _ _ (slip_beside e 0 (k + 1 + 1)) (λ slip m. beside_whole n m)))))

  module _ (ask ask' : ℕ → Found Program) (asked : (k : ℕ) → Beside n k k (ask k) (ask' k)) where
    inside_beside : (kind : Kind) (k : ℕ) → Beside n k k (inside_at ask s kind k) (inside_at ask' (take n s) kind k)
    unfolding inside_at depart_at
    inside_beside ends k = beside_whole n k
    inside_beside (acts a) k = beside_then n _ _ (asked k) (λ p m. beside_whole n m)
    inside_beside splits k = beside_then n _ _ (asked k) (λ p m. beside_then n _ _ (asked m) (λ q e. beside_whole n e))
    inside_beside repeats k = beside_then n _ _ (asked k) (λ p m. beside_whole n m)
    inside_beside departs k = beside_then n _ _ (head_beside k) (λ h m. beside_then n _ _ (asked m) (λ p e. beside_whole n e))

    step_beside : (k : ℕ) → Beside n (k + 1) k (step ask s k) (step ask' (take n s) k)
    unfolding step
    step_beside k = beside_then n _ _ (kind_beside k) inside_beside

  by_beside : (depth k : ℕ) → Beside n (k + 1) k (read_by depth s k) (read_by depth (take n s) k)
  unfolding read_by
  by_beside zero k = record { later = later_cut; shows = λ h. shows_cut later_cut }
  by_beside (suc depth) k = step_beside (read_by depth s) (read_by depth (take n s)) (λ j. beside_weaker n (omega arith) (by_beside depth j)) k

  beside : (k : ℕ) → Beside n (k + 1) k (read_at s k) (read_at (take n s) k)
  unfolding read_at
  beside k = subst (Beside n (k + 1) k (read_at s k)) (sym (read_by_lem (suc (length s)) (take n s) k (omega (arith, length-take n s)))) (by_beside (suc (length s)) k)

  -- what a beginning shows, from any offset
  beginning : (k : ℕ) → Shows n (read_at s k) (read_at (take n s) k)
  unfolding read_by
  beginning k = go (ltb n k) refl
    where
      go : (t : Bool) → ltb n k ≡ t → Shows n (read_at s k) (read_at (take n s) k)
      go true e =
          let h = ltb-true n k e in
          subst (Shows n (read_at s k)) (sym (read_by_lem 0 (take n s) k (omega (arith, length-take n s)))) (shows_cut (weaker (omega arith) (beside k).later))
      go false e = (beside k).shows (ltb-false n k e)

-- what follows from what a beginning shows
shown_short : {n : ℕ} {r : Found Program} {p : Program} {m : ℕ} → Shows n (whole p m) r → n < m → r ≡ cut
shown_short (shows_whole l) h = absurd (omega arith)
shown_short (shows_cut l) h = refl

shown_cut : {n : ℕ} {r : Found Program} → Shows n cut r → r ≡ cut
shown_cut (shows_cut l) = refl

shown_before : {n : ℕ} {r : Found Program} {o : ℕ} → Shows n (bad o) r → n ≤ o → r ≡ cut
shown_before (shows_bad l) h = absurd (omega arith)
shown_before (shows_cut l) h = refl

shown_bad : {n : ℕ} {r : Found Program} {o : ℕ} → Shows n (bad o) r → o < n → r ≡ bad o
shown_bad (shows_bad l) h = refl
shown_bad (shows_cut (later_bad l)) h = absurd (omega arith)

shows_that : {n : ℕ} {r : Found Program} {o : ℕ} → Shows n r (bad o) → (r ≡ bad o) × (o < n)
shows_that (shows_bad l) = (refl, l)

not_before : {k o : ℕ} → Later {A = Program} (k + 1) (bad o) → k ≤ o
not_before (later_bad l) = omega arith

pub faults_in_order : (s : List ℕ) (k : ℕ) → InOrder s k (read_at s k)
faults_in_order s k = go (read_at s k) refl
  where
    shown : {r : Found Program} (n : ℕ) → read_at s k ≡ r → Shows n r (read_at (take n s) k)
    shown n e = subst (λ r. Shows n r (read_at (take n s) k)) e (beginning n s k)

    agrees : (o : ℕ) → read_at s k ≡ bad o → (t : List ℕ) → take (o + 1) t ≡ take (o + 1) s → read_at t k ≡ bad o
    agrees o e t i =
        let b : read_at (take (o + 1) s) k ≡ bad o = shown_bad (shown (o + 1) e) (omega arith) in
        (shows_that (subst (Shows (o + 1) (read_at t k)) (ap (λ x. read_at x k) i ∙ b) (beginning (o + 1) t k))).0

    all : (o : ℕ) → read_at s k ≡ bad o → o < length s
    all o e =
        (shows_that (subst (Shows (length s) (read_at s k)) (ap (λ x. read_at x k) (take_all (length s) s (le_refl (length s))) ∙ e) (beginning (length s) s k))).1

    go : (r : Found Program) → read_at s k ≡ r → InOrder s k r
    go (whole p m) e = λ n h. shown_short (shown n e) h
    go cut e = λ n. shown_cut (shown n e)
    go (bad o) e =
        (not_before (subst (Later (k + 1)) e (beside 0 s k).later), all o e, shown_before (shown o e) (le_refl o), agrees o e)
