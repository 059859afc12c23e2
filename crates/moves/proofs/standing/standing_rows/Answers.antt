use Rattle.std.proofs.Common.{◌++◌, List, ap, ◌∙◌}
use Rattle.moves.specs.StandingRows.{standing_rows}
use Rattle.moves.specs.declared.row.Row.{Row}
use Rattle.moves.proofs.standing.standing_rows.Goals as goal

pub returns : goal.returns
returns c =
    c.in_ok-push_lines.ensures
    ∙ ap (λ (rows : List Row). rows ++ standing_rows c.args.history.now.events c.args.seat c.args.round) c.new-rows.ensures.items
