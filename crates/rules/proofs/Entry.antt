-- The rows of entry refuse exactly what the paper does not admit, and what enters a trustworthy controller keeps its policy. Assumes nothing.
use Rattle.std.proofs.Common.{◌≡◌, ℕ, Bool, true, false, cond, not, T, ◌↔◌, sym, refl, subst, arith, eqb→eq}
use Rattle.program.specs.declared.names.Controller.{Controller}
use Rattle.program.specs.Tree.{Slip, Program, depart}
use Rattle.policy.specs.Counts.{Policy, Enforces, slip_allows}
use Rattle.policy.specs.Needs.{FitsAll, Honest}
use Rattle.policy.specs.Tests.{honestb, fits_allb, slip_fitsb}
use Rattle.policy.specs.Runs.{Keeps, KeepsSlips}
use Rattle.policy.proofs.Counts.{fits_trans}
use Rattle.policy.proofs.Tests.{honest_test, fits_all_test, slip_test_lem}
use Rattle.policy.proofs.Exact.{exact, exact_honest}
use Rattle.policy.proofs.Figures.{figure_6}
use Rattle.rules.specs.declared.net.Net.{Net}
use Rattle.rules.specs.Rows.{NoneHolds}
use Rattle.rules.specs.Nets.{in_net, trust, good, trustworthy, allows}
use Rattle.rules.specs.Calls.{Look, the_slip, the_code, entry_rows, at_launch, at_entry}
use Rattle.rules.specs.Paper.{Admits, by_digest, by_code, ◌<:◌, unknown, equal, Coherent}
use Rattle.rules.proofs.Rows.{true_T, not_T, T_true, T_not, passed, passes}

module _ (allowed : Policy) (slip : Slip) (p : Program) where
  -- code that is tested passes exactly if it is honest and its needs fit
  pub code_passes : NoneHolds (entry_rows the_code allowed slip p) ↔ (Honest p × FitsAll allowed p)
  code_passes = (
    λ h. ((honest_test p).0 (passed (honestb p) h.0), (fits_all_test allowed p).0 (passed (fits_allb allowed p) h.1.0)),
    λ k. (passes (honestb p) ((honest_test p).1 k.0), (passes (fits_allb allowed p) ((fits_all_test allowed p).1 k.1), tt)),
  )

  -- a slip that is compared passes exactly if what it allows is allowed
  pub slip_passes : NoneHolds (entry_rows the_slip allowed slip p) ↔ Enforces (slip_allows slip) allowed
  slip_passes = (λ h. (slip_test_lem allowed slip).0 (passed (slip_fitsb allowed slip) h.0), λ e. (passes (slip_fitsb allowed slip) ((slip_test_lem allowed slip).1 e), tt))

  -- so tested code is let in exactly if no run of it exceeds what is allowed and each carried program keeps its slip
  pub code_exact : NoneHolds (entry_rows the_code allowed slip p) ↔ (Keeps allowed p × KeepsSlips p)
  code_exact = (
    λ h. let k = code_passes.0 h in ((exact allowed p).1 k.1, (exact_honest p).1 k.0),
    λ k. code_passes.1 ((exact_honest p).0 k.1, (exact allowed p).0 k.0),
  )

-- what a controller looks at
pub looks_code : (net : Net) (c : Controller) → T (trustworthy net c) → at_launch net c ≡ the_code
looks_code net c t = rw (true_T {b = trustworthy net c} t)

pub looks_slip : (net : Net) (l k : Controller) → T (good net l k) → at_entry net l k ≡ the_slip
looks_slip net l k t = rw (true_T {b = good net l k} t)

pub looks_carried : (net : Net) (l k : Controller) → T (not (good net l k)) → at_entry net l k ≡ the_code
looks_carried net l k t = rw (not_T {b = good net l k} t)

module _ (net : Net) (l k : Controller) (slip : Slip) (p : Program) where
  rows : Look → Type 0
  rows look = NoneHolds (entry_rows look (allows net l) slip p)

  -- no refusal 12, 8 or 7 exactly if the membrane admits
  pub admits_exactly : NoneHolds (entry_rows (at_entry net l k) (allows net l) slip p) ↔ Admits net l k slip p
  unfolding rows
  admits_exactly = (λ h. to (good net l k) refl h, from)
    where
      to : (g : Bool) → good net l k ≡ g → NoneHolds (entry_rows (cond g the_slip the_code) (allows net l) slip p) → Admits net l k slip p
      to true e h = by_digest (T_true e) ((slip_passes (allows net l) slip p).0 h)
      to false e h = by_code (T_not e) ((figure_6 p (allows net l)).1 ((code_passes (allows net l) slip p).0 h))

      from : Admits net l k slip p → NoneHolds (entry_rows (at_entry net l k) (allows net l) slip p)
      from (by_digest g e) = subst rows (sym (looks_slip net l k g)) ((slip_passes (allows net l) slip p).1 e)
      from (by_code g d) = subst rows (sym (looks_carried net l k g)) ((code_passes (allows net l) slip p).1 ((figure_6 p (allows net l)).0 d))

  -- what a coherent net's trustworthy controller admits keeps its policy, whoever vouched for it
  pub admitted_keeps : Coherent net → T (in_net net l) → T (in_net net k) → (T (trustworthy net k) → Honest (depart l slip p)) → Admits net l k slip p →
      T (trustworthy net l) → Honest p × FitsAll (allows net l) p
  admitted_keeps coherent il ik source (by_digest g e) t =
      let own : trust net k k ≡ 1 = vouched (coherent.agrees l k il ik t) (eqb→eq (trust net l k) 1 g) in
      let h = source (rw own tt) in
      (h.1, λ α. fits_trans (h.0 α) (e α))
    where
      vouched : {a b : ℕ} → a <: b → a ≡ 1 → b ≡ 1
      vouched unknown e = absurd (omega arith)
      vouched equal e = e
  admitted_keeps coherent il ik source (by_code g d) t = (figure_6 p (allows net l)).0 d
