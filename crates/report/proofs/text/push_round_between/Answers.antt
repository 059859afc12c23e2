use Rattle.std.proofs.Common.{◌≡◌, ℕ, ◌++◌, ◌-◌, List, OnOk, ap, drop, subst, take}
use Rattle.std.specs.Prelude.{slice_range}
use Rattle.events.specs.declared.event.Event.{Event}
use Rattle.report.proofs.Rounds.{text_as_it_stood}
use Rattle.report.proofs.text.push_round_between.Goals as goal

-- the game stood as the walk along its events saw it at the end of the round
pub returns-clause-text : goal.returns-clause-text
returns-clause-text c =
    let listed : c.events-events.result.now ≡ c.args.game.now.game.events = cc in
    let stood : c.view-stood.result
    ≡ record { seats = c.args.game.now.game.seats; events = take c.args.end c.args.game.now.game.events } = cc in
    subst (λ (text : List ℕ). OnOk c.push_round.result (c.push_round.new.out.items ≡ c.args.out.now.items ++ text))
    (text_as_it_stood c.args.game.now c.sheets.result.now c.view-stood.result c.args.begun c.args.end
    (take (c.args.end - c.args.begun) (drop c.args.begun c.events-events.result.now)) c.sheets.ensures stood
    (ap (λ (events : List Event). slice_range events c.args.begun c.args.end) listed) c.requires.ordered
    c.requires.within)
    c.push_round.ensures
