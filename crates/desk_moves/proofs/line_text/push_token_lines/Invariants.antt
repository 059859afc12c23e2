-- the lines of the tokens so far
use Rattle.std.proofs.Common.{◌≡◌, ◌++◌, take}
use Rattle.std.specs.List.{flat_map}
use Rattle.desk_moves.specs.Lines.{token_line}
use Rattle.desk_moves.proofs.line_text.push_token_lines.Given as goal

abbrev pub invariant-loop-token : goal.invariant-loop-token
invariant-loop-token l = l.out.items ≡ l.fn.out.items ++ flat_map token_line (take l.token-index l.tokens)
