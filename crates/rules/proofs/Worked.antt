-- The ten cases marked P hold, and the worked listing is what document 01 prints, by computation. Assumes nothing.
use Rattle.std.proofs.Common.{◌≡◌, ℕ, [], ◌∷◌, refl, Option, Some, None, Ok, Err}
use Rattle.program.specs.declared.names.Controller.{Controller}
use Rattle.program.specs.Names.{action, controller}
use Rattle.program.specs.Tree.{encode, entries}
use Rattle.program.specs.Reading.{and_then, judge, byte_at, kind_by, kind_at, entry_at, slip_at, head_at, depart_at, inside_at, step as read_step, read_by, read_at}
use Rattle.program.specs.Envelope.{envelope}
use Rattle.rules.specs.declared.reply.Name.{Name}
use Rattle.rules.specs.declared.reply.Name.TheVariants as name
use Rattle.rules.specs.declared.reply.Refusal.TheVariants as refusal
use Rattle.rules.specs.Rows.{Reply}
use Rattle.rules.specs.Nets.{lowest_from, place_bytes, policy_of}
use Rattle.rules.specs.Sound.{soundb}
use Rattle.rules.specs.Calls.{written, launch_done, step_done, set_up_net, set_up_done, coherentb, rows_of, done_of}
use Rattle.rules.specs.Cases.{answers, with_threads, AllHold, cases, listing}

pub cases_hold : AllHold cases
unfolding read_at read_by read_step kind_at kind_by inside_at depart_at head_at slip_at entry_at byte_at judge and_then encode entries envelope lowest_from place_bytes policy_of soundb written launch_done step_done set_up_net set_up_done coherentb rows_of done_of
cases_hold = (refl, (refl, (refl, (refl, (refl, (refl, (refl, (refl, (refl, (refl, (refl, (refl, (refl, (refl, (refl, (refl, (refl, ((refl, refl), tt))))))))))))))))))

-- a line of the listing: pass, controller, name and new pass of a done call that passes over nothing
abbrev shows : Option ℕ → Option Controller → Option Name → Option ℕ → Reply
shows pass controller name fresh = Ok (record { pass = pass; controller = controller; name = name; fresh = fresh; over = 0 })

pub listing_is :
    answers (with_threads 0 []) listing
    ≡ shows None None None None
    ∷ shows None (Some (controller 16)) None (Some 0)
    ∷ shows (Some 0) (Some (controller 16)) (Some (name.Went (controller 17))) (Some 1)
    ∷ shows (Some 1) (Some (controller 17)) (Some (name.Acted (action 3))) None
    ∷ shows (Some 1) (Some (controller 17)) None None
    ∷ Err refusal.NoThread
    ∷ []
unfolding read_at read_by read_step kind_at kind_by inside_at depart_at head_at slip_at entry_at byte_at judge and_then encode entries envelope lowest_from place_bytes policy_of soundb written launch_done step_done set_up_net set_up_done coherentb rows_of done_of
listing_is = refl
