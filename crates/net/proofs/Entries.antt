-- Entry of code: what the code refuses over the bytes is what the rules refuse of what is read there. Assumes nothing.
use Rattle.std.proofs.Common.{◌≡◌, ℕ, ◌+◌, Bool, true, false, cond, not, List, [], length, ◌==◌, Ok, Err, refl, ap, ◌∙◌}
use Rattle.program.specs.declared.names.Controller.{Controller}
use Rattle.program.specs.Tree.{Slip, Program}
use Rattle.program.specs.Reading.{whole, head_at, read_at}
use Rattle.policy.specs.Counts.{policy_allows}
use Rattle.policy.specs.Tests.{fits_allb, honestb, slip_fitsb}
use Rattle.policy.specs.Tallies.{verdict, test_of}
use Rattle.policy.proofs.Slips.{slip_fits}
use Rattle.rules.specs.declared.reply.Refusal.TheVariants as refusal
use Rattle.rules.specs.Calls.{bytes_only, the_slip, the_code, entry_rows}
use Rattle.net.specs.declared.entry.Look.TheVariants.{BytesOnly, TheSlip, TheCode}
use Rattle.net.specs.Parts.{trust_in}
use Rattle.net.specs.Checks.{first_row, launch_look, entry_look, of_slip, of_test, entered}

code_rows : (honest fits : Bool) → of_test (verdict honest fits) ≡ cond (not honest) (Err refusal.NotHonest) (cond (not fits) (Err refusal.NotFitting) (Ok tt))
code_rows false fits = refl
code_rows true false = refl
code_rows true true = refl

slip_rows : (fits : Bool) → of_slip fits ≡ cond (not fits) (Err refusal.SlipNotFitting) (Ok tt)
slip_rows false = refl
slip_rows true = refl

module _ (policy tree : List ℕ) (slip n code : ℕ) {p : Program} {m : ℕ} (read : read_at tree code ≡ whole p m) where
  code_is : (s : Slip) → entered TheCode policy tree slip n code ≡ first_row (entry_rows the_code (policy_allows policy) s p)
  code_is s = ap (λ o. of_test (test_of (policy_allows policy) o)) read ∙ code_rows (honestb p) (fits_allb (policy_allows policy) p)

  -- a launch
  pub launch_rows_lem : (trust : List ℕ) (c : Controller) →
      entered (launch_look trust c) policy tree slip n code ≡ first_row (entry_rows (cond (trust_in trust c c == 1) the_code bytes_only) (policy_allows policy) [] p)
  launch_rows_lem trust c = go (trust_in trust c c == 1)
    where
      go : (b : Bool) → entered (cond b TheCode BytesOnly) policy tree slip n code ≡ first_row (entry_rows (cond b the_code bytes_only) (policy_allows policy) [] p)
      go true = code_is []
      go false = refl

-- a departure, whose controller's byte stands at k
pub depart_rows : (policy tree : List ℕ) (k code : ℕ) {p : Program} {m : ℕ} {c : Controller} (slip : Slip) {e : ℕ} → head_at tree k ≡ whole (c, slip) e →
    read_at tree code ≡ whole p m → (trust : List ℕ) (target present : Controller) →
    entered (entry_look trust target present) policy tree (k + 1 + 1) (length slip) code
    ≡ first_row (entry_rows (cond (trust_in trust target present == 1) the_slip the_code) (policy_allows policy) slip p)
depart_rows policy tree k code {p} {m} slip {e} head read trust target present = go (trust_in trust target present == 1)
  where
    go : (b : Bool) → entered (cond b TheSlip TheCode) policy tree (k + 1 + 1) (length slip) code ≡ first_row (entry_rows (cond b the_slip the_code) (policy_allows policy) slip p)
    go true = ap of_slip (slip_fits tree k e slip head policy) ∙ slip_rows (slip_fitsb (policy_allows policy) slip)
    go false = code_is policy tree (k + 1 + 1) (length slip) code read slip
