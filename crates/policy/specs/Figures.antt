-- The paper's figures 6 and 7, by the names of their rules. Definitions only.
use Rattle.program.specs.declared.names.Action.{Action}
use Rattle.program.specs.declared.names.Controller.{Controller}
use Rattle.program.specs.Tree.{Slip, Program, end, act, split, repeat, depart}
use Rattle.policy.specs.Counts.{finite, join, often, Policy, Enforces, slip_allows}
use Rattle.policy.specs.Needs.{once}

-- ∅, T ∪ U and T^ω; {a} is `once a`
abbrev pub nothing : Policy
nothing α = finite 0

abbrev pub union : Policy → Policy → Policy
union T U α = join (T α) (U α)

abbrev pub forever : Policy → Policy
forever T α = often (T α)

-- figure 6, ⊢ p : T
pub data Typed : Program → Policy → Type 0 where
  tc_empty : {T : Policy} → Typed end T
  tc_act : {a : Action} {p : Program} {T : Policy} → Typed p T → Typed (act a p) (union T (once a.0))
  tc_mig : {c : Controller} {slip : Slip} {p : Program} (T : Policy) → Typed p (slip_allows slip) → Typed (depart c slip p) (union T (once c.0))
  tc_par : {p q : Program} {T U : Policy} → Typed p T → Typed q U → Typed (split p q) (union T U)
  tc_repl : {p : Program} {T U : Policy} → Typed p T → Enforces (forever T) U → Typed (repeat p) U

-- figure 7, the policy that is inferred
pub data Infers : Program → Policy → Type 0 where
  ti_empty : Infers end nothing
  ti_act : {a : Action} {p : Program} {T : Policy} → Infers p T → Infers (act a p) (union T (once a.0))
  ti_mig : {c : Controller} {slip : Slip} {p : Program} {T : Policy} → Infers p T → Enforces T (slip_allows slip) → Infers (depart c slip p) (once c.0)
  ti_par : {p q : Program} {T U : Policy} → Infers p T → Infers q U → Infers (split p q) (union T U)
  ti_repl : {p : Program} {T : Policy} → Infers p T → Infers (repeat p) (forever T)
