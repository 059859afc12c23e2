-- the rows of the tokens so far
use Rattle.std.proofs.Common.{◌≡◌, ◌++◌, map, take}
use Rattle.page_lays.specs.MoveRows.{token_row}
use Rattle.page_lays.proofs.move_rows.push_tokens.Given as goal

abbrev pub invariant-loop-token : goal.invariant-loop-token
invariant-loop-token l = l.rows.items ≡ l.fn.rows.items ++ map token_row (take l.token-index l.tokens)
