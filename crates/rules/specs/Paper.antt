-- The net as the paper sees it: definition 2.4, the membrane's formula (1), and figure 2 for one thread. Definitions only.
use Rattle.std.specs.Prelude.{◌≡◌, ℕ, cond, not, T, List, [], ◌∷◌}
use Rattle.program.specs.declared.names.Action.{Action}
use Rattle.program.specs.declared.names.Controller.{Controller}
use Rattle.program.specs.Tree.{Slip, Program, end, act, split, repeat, depart}
use Rattle.policy.specs.Counts.{Enforces, slip_allows}
use Rattle.policy.specs.Figures.{Typed}
use Rattle.rules.specs.declared.net.Thread.{Thread}
use Rattle.rules.specs.declared.net.Net.{Net}
use Rattle.rules.specs.Nets.{free, thread_at, program_at, in_net, trust, good, trustworthy, allows}

-- what a slot holds: nobody, or a program at a controller, with its stay's pass
pub data Held : Type 0 where
  nobody : Held
  held : Controller → Program → ℕ → Held

abbrev pub view_of : Net → Thread → Held
view_of net t = cond (free t) nobody (held t.controller (program_at net t) t.pass)

abbrev pub view : Net → ℕ → Held
view net slot = view_of net (thread_at net slot)

-- a thread at a site, l[P]
pub data Located : Type 0 where
  at : Controller → Program → Located

abbrev pub standing : Held → List Located
standing nobody = []
standing (held k p pass) = at k p ∷ []

-- definition 2.4: the order of trust, in which unknown may still become good or bad; and the trust of trustworthy controllers reflects who
-- is trustworthy
infix 50 ◌<:◌
pub data ◌<:◌ : ℕ → ℕ → Type 0 where
  unknown : {t : ℕ} → 0 <: t
  equal : {t : ℕ} → t <: t

pub record Coherent (net : Net) : Type 0 where
  pub agrees : (k l : Controller) → T (in_net net k) → T (in_net net l) → T (trustworthy net k) → trust net k l <: trust net l l

-- formula (1): the membrane of l admits p from k with the digest slip
pub data Admits (net : Net) (l k : Controller) (slip : Slip) (p : Program) : Type 0 where
  by_digest : T (good net l k) → Enforces (slip_allows slip) (allows net l) → Admits net l k slip p
  by_code : T (not (good net l k)) → Typed p (allows net l) → Admits net l k slip p

-- figure 2, (R-ACT) and (R-MIG), and the structural laws of nil, | and !, for one thread at k
pub data Reduces (net : Net) (k : Controller) : Program → List Located → Type 0 where
  s_nil : Reduces net k end []
  r_act : {a : Action} {p : Program} → Reduces net k (act a p) (at k p ∷ [])
  s_par : {p q : Program} → Reduces net k (split p q) (at k p ∷ at k q ∷ [])
  s_rep : {p : Program} → Reduces net k (repeat p) (at k (repeat p) ∷ at k p ∷ [])
  r_mig : {l : Controller} {slip : Slip} {p : Program} → ¬ (l ≡ k) → T (in_net net l) → Admits net l k slip p → Reduces net k (depart l slip p) (at l p ∷ [])
