-- The paper's figure 5, and document 01's runs: "act gives its action; depart gives its controller's name and is then finished; either
-- side of a split may give the next name; repeat may unfold as often as it likes". Needs are not used here. Definitions only.
use Rattle.std.specs.Prelude.{ℕ, ◌+◌, ◌≤◌, List, [], ◌∷◌}
use Rattle.program.specs.declared.names.Action.{Action}
use Rattle.program.specs.declared.names.Controller.{Controller}
use Rattle.program.specs.Tree.{Slip, Program, end, act, split, repeat, depart}
use Rattle.policy.specs.Counts.{Policy, Within, slip_allows}
use Rattle.policy.specs.Needs.{same, Everywhere}

-- p gives the name α and goes on as p'
pub data Gives : Program → ℕ → Program → Type 0 where
  lts_act : {a : Action} {p : Program} → Gives (act a p) a.0 p
  lts_mig : {c : Controller} {slip : Slip} {p : Program} → Gives (depart c slip p) c.0 end
  lts_repl : {α : ℕ} {p p' : Program} → Gives (split p (repeat p)) α p' → Gives (repeat p) α p'
  lts_par_left : {α : ℕ} {p p' q : Program} → Gives p α p' → Gives (split p q) α (split p' q)
  lts_par_right : {α : ℕ} {p q q' : Program} → Gives q α q' → Gives (split p q) α (split p q')

-- p gives the names of a list, one after the other, and goes on as p'
pub data Run : Program → List ℕ → Program → Type 0 where
  done : {p : Program} → Run p [] p
  step : {α : ℕ} {σ : List ℕ} {p p' p'' : Program} → Gives p α p' → Run p' σ p'' → Run p (α ∷ σ) p''

-- how often a name stands in a run
abbrev pub uses : ℕ → List ℕ → ℕ
uses α [] = 0
uses α (a ∷ σ) = same a α + uses α σ

-- some run of p uses a name at least n times
pub data Reaches (p : Program) (α n : ℕ) : Type 0 where
  reach : {σ : List ℕ} {p' : Program} → Run p σ p' → n ≤ uses α σ → Reaches p α n

-- no run uses a name more often than is allowed
abbrev pub Keeps : Policy → Program → Type 0
Keeps allowed p = (σ : List ℕ) (p' : Program) → Run p σ p' → (α : ℕ) → Within (uses α σ) (allowed α)

-- each carried program, at any depth, keeps its slip
abbrev pub KeepsSlips : Program → Type 0
KeepsSlips p = Everywhere (λ slip q. Keeps (slip_allows slip) q) p
