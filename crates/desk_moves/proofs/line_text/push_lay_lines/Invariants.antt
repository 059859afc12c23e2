-- the lines of the lays so far
use Rattle.std.proofs.Common.{◌≡◌, ◌++◌, take}
use Rattle.std.specs.List.{flat_map}
use Rattle.desk_moves.specs.Lines.{lay_line}
use Rattle.desk_moves.proofs.line_text.push_lay_lines.Given as goal

abbrev pub invariant-loop-lay : goal.invariant-loop-lay
invariant-loop-lay l = l.out.items ≡ l.fn.out.items ++ flat_map lay_line (take l.lay-index l.lays)
