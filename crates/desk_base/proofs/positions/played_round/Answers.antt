use Rattle.std.proofs.Common.{◌≡◌, ◌∙◌, ap, subst, sym, Some}
use Rattle.desk_base.proofs.PositionLemmas.{is_played_round}
use Rattle.desk_base.specs.Positions.{IsAt}
use Rattle.desk_base.specs.declared.between_rounds.Moment.{Moment}
use Rattle.totals.specs.LookBack.{Game, round_of}
use Rattle.desk_base.proofs.positions.played_round.Goals as goal

-- the last round of the position is the named one, or else the last that was played
pub returns-in-Some-clause-round : goal.returns-in-Some-clause-round
returns-in-Some-clause-round c =
    let last : round_of c.in_ok-position.position.history.events ≡ Some c.in-Some.round =
    ap (λ (game : Game). round_of game.events) (sym c.now.ensures) ∙ sym c.round.ensures ∙ c.in-Some.is in
    is_played_round c.rounds_only_add.ensures c.args.sheets.now c.args.asked _
    (subst (λ (moment : Moment). IsAt c.args.sheets.now moment c.in_ok-position.position) c.after.ensures
    c.in_ok-position.ensures.at)
    last
