-- What the answers say: the needs, and the verdict on code.
use Prim.Native.Nat.{ℕ}
use mathlib.Core.Path.{◌≡◌, refl, sym, ap, ap₂, ◌∙◌}
use mathlib.Core.Bool.{true, false}
use mathlib.Core.List.{List}
use Rattle.std.proofs.Common.{Ok, Err}
use Rattle.program.specs.Tree.{Program}
use Rattle.program.specs.Reading.{Found, whole, cut, bad, read_at}
use Rattle.program.proofs.Laws.{bytes_are}
use Rattle.policy.specs.declared.tally.Tally.{Tally}
use Rattle.policy.specs.declared.test.CodeFault.TheVariants.{NotFitting}
use Rattle.policy.specs.Counts.{policy_allows}
use Rattle.policy.specs.Tests.{honestb}
use Rattle.policy.specs.Bytes.{need_bytes, none, fits_bytes, gathered}
use Rattle.policy.specs.Tallies.{tally_of, verdict, test_of}
use Rattle.policy.proofs.Gathers.{gathers_needs}
use Rattle.policy.proofs.Slips.{code_fits}
use Rattle.policy.proofs.Ways.{was_read}

-- what is gathered on top of nothing
pub all_needs : (o : Found Program) → tally_of (gathered 1 none) o ≡ tally_of need_bytes o
all_needs (whole p m) = λ i. Ok (record { end = m; honest = honestb p; needs = gathers_needs p i })
all_needs cut = refl
all_needs (bad o) = refl

-- the test of code, by its tally
module _ (s : List ℕ) (k : ℕ) (policy : List ℕ) {y : Tally} (e : tally_of need_bytes (read_at s k) ≡ Ok y) where
  judged : test_of (policy_allows policy) (read_at s k) ≡ verdict y.honest (fits_bytes y.needs policy)
  judged =
      let p = was_read need_bytes (read_at s k) e in
      ap (test_of (policy_allows policy)) p.1 ∙ ap (verdict (honestb p.0)) (sym (code_fits policy p.0 (bytes_are s k p.1).1))
      ∙ (λ i. verdict (p.2 i).honest (fits_bytes (p.2 i).needs policy))

  module _ (h : y.honest ≡ true) where
    pub c_passed : fits_bytes y.needs policy ≡ true → test_of (policy_allows policy) (read_at s k) ≡ Ok tt
    c_passed f = judged ∙ ap₂ verdict h f

    pub c_not : fits_bytes y.needs policy ≡ false → test_of (policy_allows policy) (read_at s k) ≡ Err NotFitting
    c_not f = judged ∙ ap₂ verdict h f

pub ruleset verdicts = (c_passed, c_not)
