use Rattle.desk_moves.specs.Lines.{lay_line}
use Rattle.desk_moves.proofs.line_text.push_lay_lines.Goals as goal
use Rattle.tables.proofs.OneMore.{elements_step}

pub loop-lay-preserved : goal.loop-lay-preserved
loop-lay-preserved c =
    elements_step lay_line c.args.lays.now c.loop-lay.lay-index _ _ _ _ c.loop-lay-test.true c.loop-lay.invariant
    c.in_ok-push_lay_line.ensures
