use Rattle.board_state.specs.MapState.{position_of}
use Rattle.operating.proofs.RunLemmas.{run_counted}
use Rattle.operating.proofs.run.run_on.Goals as goal

pub returns-in-Ok-clause-counted : goal.returns-in-Ok-clause-counted
returns-in-Ok-clause-counted c =
    let was = c.runs.inside in
    run_counted (position_of c.args.board.now) c.args.company c.args.kind
    (record { trains = was.trains; borders = was.borders; revenue = was.revenue }) c.args.runs.now c.args.run.now
    c.check_run.new.used c.in-Ok.money c.runs.view_is c.runs.invariant c.keeps_laws.ensures
    c.runs_earn_by_borders.ensures c.in-Ok.ensures.no_fault c.in-Ok.ensures.earns c.in-Ok.ensures.crosses
    c.requires.few
