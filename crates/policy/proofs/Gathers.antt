-- What is gathered from left to right is the need.
use Prim.Native.Nat.{ℕ, zero, suc, ◌<◌}
use mathlib.Core.Path.{◌≡◌, refl, sym, ap, subst, ◌∙◌}
use mathlib.Core.List.{List}
use mathlib.Core.Logic.{inl, inr}
use native.Mathlib.Nat.{zero-add, suc-add}
use lib.ListN.{length, get_or, length-set, length-replicate, get_or-replicate}
use lib.Seq.{get_or-set_same, get_or-set_other, ext_get_or}
use borrow.Author.Tests.{eqb-false, eq-eqb}
use Rattle.program.specs.Tree.{Program, end, act, split, repeat, depart}
use Rattle.policy.specs.Counts.{Count, finite, unlimited, join, often}
use Rattle.policy.specs.Needs.{once, need}
use Rattle.policy.specs.Bytes.{byte_of, join_byte, need_bytes, none, more, gathered}
use Rattle.policy.proofs.Counts.{join_comm, join_assoc, join_nothing}
use Rattle.policy.proofs.Tests.{apart}
use Rattle.policy.proofs.Bytes.{byte_join, table_length, table_at}

nothing_join : (c : Count) → join (finite 0) c ≡ c
nothing_join c = join_comm (finite 0) c ∙ join_nothing c

often_join : (c d : Count) → often (join c d) ≡ join (often c) (often d)
often_join (finite zero) (finite n) = rw (zero-add n) (sym (nothing_join (often (finite n))))
often_join (finite (suc m)) (finite n) = rw (suc-add m n)
often_join (finite zero) unlimited = refl
often_join (finite (suc m)) unlimited = refl
often_join unlimited d = refl

often_often : (c : Count) → often (often c) ≡ often c
often_often (finite zero) = refl
often_often (finite (suc n)) = refl
often_often unlimited = refl

-- a byte of times, and what it makes of a need
record Times (times : ℕ) (F : Count → Count) : Type 0 where
  nothing : F (finite 0) ≡ finite 0
  one : times ≡ byte_of (F (finite 1))
  joins : (c d : Count) → F (join c d) ≡ join (F c) (F d)
  again : (c : Count) → often c ≡ F (often c)

-- once leaves it as it is, and 255 is what a repeat makes of it
single : Times 1 (λ c. c)
single = record { nothing = refl; one = refl; joins = λ c d. refl; again = λ c. refl }

ever : Times 255 often
ever = record { nothing = refl; one = refl; joins = often_join; again = λ c. sym (often_often c) }

module _ {times : ℕ} {F : Count → Count} (t : Times times F) where
  more_same : (before : List ℕ) (a : ℕ) (c : Count) → a < length before → get_or before a 0 ≡ byte_of c →
      get_or (more before a times) a 0 ≡ byte_of (join c (F (once a a)))
  more_same before a c l e =
      get_or-set_same before a _ 0 l ∙ rw (e, eq-eqb a a refl, byte_join c (F (finite 1))) (ap (join_byte (byte_of c)) t.one)

  -- one name more
  more_at : (before : List ℕ) (a α : ℕ) (c : Count) → α < length before → get_or before α 0 ≡ byte_of c →
      get_or (more before a times) α 0 ≡ byte_of (join c (F (once a α)))
  more_at before a α c l e = elim (apart a α) [
    | inl h ↦ rw (h, t.nothing, join_nothing c) (get_or-set_other before a α _ 0 (λ q. eqb-false a α h (sym q)) ∙ e)
    | inr q ↦ subst (λ x. x < length before → get_or before x 0 ≡ byte_of c → get_or (more before a times) x 0 ≡ byte_of (join c (F (once a x)))) (sym q) (more_same before a c) l e
  ]

length_gathered : (times : ℕ) (before : List ℕ) (p : Program) → length (gathered times before p) ≡ length before
unfolding gathered
length_gathered times before end = refl
length_gathered times before (act a p) = length_gathered times _ p ∙ length-set before a.0 _
length_gathered times before (split p q) = length_gathered times _ q ∙ length_gathered times before p
length_gathered times before (repeat p) = length_gathered 255 before p
length_gathered times before (depart c slip p) = length-set before c.0 _

-- what stood there before, with the need as often as told
gathered_at : {times : ℕ} {F : Count → Count} → Times times F → (before : List ℕ) (p : Program) (α : ℕ) (c : Count) → α < length before → get_or before α 0 ≡ byte_of c →
    get_or (gathered times before p) α 0 ≡ byte_of (join c (F (need p α)))
unfolding gathered
gathered_at t before end α c l e = rw (t.nothing, join_nothing c) e
gathered_at {F = F} t before (act a p) α c l e =
    rw (t.joins (need p α) (once a.0 α), join_comm (F (need p α)) (F (once a.0 α)), ← join_assoc c (F (once a.0 α)) (F (need p α)))
    (gathered_at t (more before a.0 _) p α (join c (F (once a.0 α))) (rw length-set l) (more_at t before a.0 α c l e))
gathered_at {F = F} t before (split p q) α c l e =
    rw (t.joins (need p α) (need q α), ← join_assoc c (F (need p α)) (F (need q α)))
    (gathered_at t (gathered _ before p) q α (join c (F (need p α))) (rw length_gathered l) (gathered_at t before p α c l e))
gathered_at t before (repeat p) α c l e = gathered_at ever before p α c l e ∙ ap (λ d. byte_of (join c d)) (t.again (need p α))
gathered_at t before (depart c slip p) α d l e = more_at t before c.0 α d l e

pub gathers_needs : (p : Program) → gathered 1 none p ≡ need_bytes p
gathers_needs p = ext_get_or 0 (gathered 1 none p) (need_bytes p) (long ∙ sym (table_length (λ α. byte_of (need p α)) 32)) (λ α l. at α (rw long at l))
  where
    long : length (gathered 1 none p) ≡ 32
    long = length_gathered 1 none p ∙ length-replicate {A = ℕ} 32 0

    at : (α : ℕ) → α < 32 → get_or (gathered 1 none p) α 0 ≡ get_or (need_bytes p) α 0
    at α l =
        gathered_at single none p α (finite 0) (rw (length-replicate {A = ℕ} 32 0) l) (get_or-replicate 32 α 0 0 l) ∙ ap byte_of (nothing_join (need p α))
        ∙ sym (table_at (λ α. byte_of (need p α)) 32 α l)
