-- A reply as numbers: document 01's number, and each field beside a mark that says whether it is there. Definitions only.
use Rattle.std.specs.Prelude.{ℕ, List, Option, Some, None}
use Rattle.program.specs.declared.names.Controller.{Controller}
use Rattle.rules.specs.declared.net.Net.{Net}
use Rattle.rules.specs.declared.reply.Name.{Name}
use Rattle.rules.specs.declared.reply.Name.TheVariants as name
use Rattle.rules.specs.declared.reply.Fields.{Fields}
use Rattle.rules.specs.declared.reply.Outcome.{Outcome}
use Rattle.rules.specs.Rows.{Reply, number, fields}
use Rattle.rules.specs.Calls.{set_up, launch, step, called}
use Rattle.diverter.specs.declared.answer.Shown.{Shown}
use Rattle.diverter.specs.declared.answer.Answer.{Answer}
use Rattle.diverter.specs.declared.told.Told.{Told}

-- a field that is there, and one that is absent
abbrev pub present : ℕ → Shown
present x = record { present = 1; value = x }

abbrev pub absent : Shown
absent = record { present = 0; value = 0 }

abbrev pub shown_pass : Option ℕ → Shown
shown_pass (Some x) = present x
shown_pass None = absent

abbrev pub shown_controller : Option Controller → Shown
shown_controller (Some c) = present c.0
shown_controller None = absent

abbrev pub shown_name : Option Name → Shown
shown_name (Some (name.Acted a)) = present a.0
shown_name (Some (name.Went c)) = present c.0
shown_name None = absent

abbrev pub answer_for : ℕ → Fields → Answer
answer_for n f = record {
  number = n;
  over = f.over;
  pass = shown_pass f.pass;
  controller = shown_controller f.controller;
  name = shown_name f.name;
  fresh = shown_pass f.fresh;
}

abbrev pub answer_of : Reply → Answer
answer_of r = answer_for (number r) (fields r)

abbrev pub told_of : Outcome → Told
told_of o = record { answer = answer_of o.reply; net = o.net }

-- what each call means, by the rules
abbrev pub set_up_of : Net → List ℕ → Outcome
set_up_of net bytes = called net (set_up bytes)

abbrev pub launch_of : Net → Controller → List ℕ → Outcome
launch_of net c bytes = called net (launch c bytes)

abbrev pub step_of : Net → ℕ → Outcome
step_of net slot = called net (step slot)
