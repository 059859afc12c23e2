use Rattle.operating.proofs.PayLemmas.{withheld_sound, withheld_steps}
use Rattle.operating.proofs.pay.withhold.Goals as goal

pub returns-clause-sound : goal.returns-clause-sound
returns-clause-sound c =
    let game = c.args.history.now in
    let new = c.move_token_left.new.history in
    withheld_sound game new c.args.company c.args.amount
    (withheld_steps game c.append.new.self c.record_broken.new.self new c.args.company c.args.amount
    c.in_ok-append.ensures.ok c.in_ok-record_broken.ensures.ok c.in_ok-move_token_left.ensures)
    c.requires.sound
