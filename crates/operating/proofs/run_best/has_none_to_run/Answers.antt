use Rattle.std.proofs.Common.{ap, ◌∙◌}
use Rattle.operating.proofs.RunBestLemmas.{with_train, without_train}
use Rattle.operating.specs.Progress.{has_any_run}
use Rattle.purchases.specs.Train.{has_trains}
use Rattle.totals.specs.LookBack.{Game}
use Rattle.operating.proofs.run_best.has_none_to_run.Goals as goal

pub returns-then-not-has_trains : goal.returns-then-not-has_trains
returns-then-not-has_trains c =
    without_train c.has_trains.result (has_trains c.args.history.now.events c.args.company)
    (has_any_run c.args.progress.now)
    (c.has_trains.ensures ∙ ap (λ (game : Game). has_trains game.events c.args.company) c.now.ensures)
    c.if-not-has_trains.true

pub returns-else-not-has_trains : goal.returns-else-not-has_trains
returns-else-not-has_trains c =
    c.has_any_run.ensures
    ∙ with_train c.has_trains.result (has_trains c.args.history.now.events c.args.company)
    (has_any_run c.args.progress.now)
    (c.has_trains.ensures ∙ ap (λ (game : Game). has_trains game.events c.args.company) c.now.ensures)
    c.if-not-has_trains.false
