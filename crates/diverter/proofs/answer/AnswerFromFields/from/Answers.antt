use Rattle.std.proofs.Common.{◌≡◌, rules}
use Rattle.diverter.specs.Answers.{shown_controller, shown_name}
use Rattle.diverter.proofs.answer.AnswerFromFields.from.Goals as goal

pub returns : goal.returns
returns c =
    let controller : c.from-2.result ≡ shown_controller c.args.fields.controller = search rules in
    let name : c.from-3.result ≡ shown_name c.args.fields.name = search rules in
    λ i. record { number = 0; over = c.args.fields.over; pass = c.from.ensures i; controller = controller i; name = name i; fresh = c.from-4.ensures i }
