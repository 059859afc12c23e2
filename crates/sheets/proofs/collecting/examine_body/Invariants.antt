use Rattle.std.proofs.Common.{◌≡◌, ◌+◌, ◌≤◌, length}
use Rattle.sheets.specs.File.{good_lines}
use Rattle.sheets.specs.Limits.{sheets_most}
use Rattle.sheets.specs.Text.{written_lines}
use Rattle.sheets.proofs.collecting.examine_body.Given as goal

-- the good SHEET lines so far and those that are ahead are all
pub record Counting (l : goal.Live-loop-piece) : Type 0 where
  pub counted : l.good + good_lines l.players (written_lines l.rest) ≡ good_lines l.players (written_lines l.body)
  pub few : l.good ≤ sheets_most

abbrev pub invariant-loop-piece : goal.invariant-loop-piece
invariant-loop-piece l = Counting l

abbrev pub decreases-loop-piece : goal.decreases-loop-piece
decreases-loop-piece l = length l.rest
