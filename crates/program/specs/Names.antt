-- Actions are 0 to 15, controllers 16 to 31: disjoint, and of two types. Definitions only.
use Rattle.std.specs.Prelude.{ℕ, Bool, true, false, ◌&&◌, ltb, leb, Result, Ok, Err}
use Rattle.program.specs.declared.names.Action.{Action}
use Rattle.program.specs.declared.names.Controller.{Controller}
use Rattle.program.specs.declared.names.Unnamed.{Unnamed}

abbrev pub action : ℕ → Action
action b = record { 0 = b }

abbrev pub controller : ℕ → Controller
controller b = record { 0 = b }

abbrev pub unnamed : ℕ → Unnamed
unnamed b = record { 0 = b }

-- the action that a byte names, if it names one
abbrev pub pick_action : Bool → ℕ → Result Action Unnamed
pick_action true b = Ok (action b)
pick_action false b = Err (unnamed b)

abbrev pub action_byte : ℕ → Result Action Unnamed
action_byte b = pick_action (ltb b 16) b

-- the controller that a byte names, if it names one
abbrev pub pick_controller : Bool → ℕ → Result Controller Unnamed
pick_controller true b = Ok (controller b)
pick_controller false b = Err (unnamed b)

abbrev pub controller_byte : ℕ → Result Controller Unnamed
controller_byte b = pick_controller (leb 16 b && ltb b 32) b
