use Rattle.std.proofs.Common.{◌≤◌, length}
use Rattle.std.specs.HashMap.{get}
use Rattle.sheets.specs.Collecting.{AreOfVersion, Reaches, lines_kept}
use Rattle.sheets.specs.File.{same_sheet_key}
use Rattle.sheets.specs.Text.{written_lines}
use Rattle.sheets.proofs.collecting.collect_body.Given as goal

-- what has come and what is left are together the whole body
abbrev pub invariant-loop-piece : goal.invariant-loop-piece
invariant-loop-piece l = record {
  short : length l.rest ≤ length l.body;
  reaches : Reaches l.version l.players (written_lines l.body) l.rest l.collection.current
      (lines_kept (get same_sheet_key l.collection.sheets)) l.collection.unread.items l.collection.good;
  versions : AreOfVersion l.version (get same_sheet_key l.collection.sheets);
}

abbrev pub decreases-loop-piece : goal.decreases-loop-piece
decreases-loop-piece l = length l.rest
