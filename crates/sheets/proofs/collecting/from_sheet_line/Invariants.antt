use Rattle.std.proofs.Common.{◌≤◌, length}
use Rattle.sheets.specs.Collecting.{IsInSheet}
use Rattle.sheets.proofs.collecting.from_sheet_line.Given as goal

-- the sheet went on up to here
abbrev pub invariant-loop-piece : goal.invariant-loop-piece
invariant-loop-piece l = record {
  shorter : length l.rest ≤ length l.text;
  in_sheet : IsInSheet l.rest l.text;
}

abbrev pub decreases-loop-piece : goal.decreases-loop-piece
decreases-loop-piece l = length l.rest
