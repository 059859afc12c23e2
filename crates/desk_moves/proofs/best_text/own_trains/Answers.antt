use Rattle.std.proofs.Common.{ap, ◌∙◌}
use Rattle.operating.specs.RunBest.{trains_now}
use Rattle.totals.specs.LookBack.{Game}
use Rattle.desk_moves.proofs.best_text.own_trains.Goals as goal

pub returns : goal.returns
returns c = c.in_ok-trains.ensures ∙ ap (λ (game : Game). trains_now game.events c.args.company) c.now.ensures
