use Rattle.std.proofs.Common.{◌≤◌, ℕ, List, Option, length, ap, sym, subst, ◌∙◌}
use Rattle.desk_base.proofs.MomentLemmas.{shows_there}
use Rattle.desk_base.specs.Moments.{IsNumbered, end_shown}
use Rattle.rounds.specs.declared.game.End.{End}
use Rattle.sheets.specs.File.{players_of}
use Rattle.tables.specs.declared.round.Round.{Round}
use Rattle.desk_base.proofs.between_rounds.stood_in.Goals as goal

pub returns-clause-there : goal.returns-clause-there
returns-clause-there c =
    let play = c.args.play.now in
    let events = c.args.history.now.events in
    let players : 3 ≤ length (players_of play.file) =
    subst (λ (count : ℕ). 3 ≤ count)
    (c.seats-players.ensures.value ∙ ap (λ (file : List ℕ). length (players_of file)) c.sheets.ensures)
    c.seats-players.ensures.least in
    λ there at from_start. shows_there c.sheets_are_numbered.ensures c.rounds_only_add.ensures play _ players c.requires
    (λ numbered. c.end_shown-end.ensures (subst IsNumbered (sym c.last_round.ensures) numbered)
    ∙ ap (λ (its : Option End). end_shown its c.last_round.result events) c.outcome.ensures
    ∙ ap (λ (its : Option Round). end_shown play.outcome its events) c.last_round.ensures)
    c.number_after.ensures there at from_start
