use Rattle.desk_moves.specs.Lines.{token_line}
use Rattle.desk_moves.proofs.line_text.push_token_lines.Goals as goal
use Rattle.tables.proofs.OneMore.{elements_step}

pub loop-token-preserved : goal.loop-token-preserved
loop-token-preserved c =
    elements_step token_line c.args.tokens.now c.loop-token.token-index _ _ _ _ c.loop-token-test.true c.loop-token.invariant
    c.in_ok-push_token_line.ensures
