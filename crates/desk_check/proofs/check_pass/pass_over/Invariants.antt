use Rattle.std.proofs.Common.{◌≡◌, ◌++◌, length}
use Rattle.desk_check.specs.PlainLines.{heads_left}
use Rattle.desk_trials.specs.Heads.{AreKept, came}
use Rattle.desk_trials.specs.SheetLines.{heads_in}
use Rattle.sheets.specs.File.{players_of}
use Rattle.sheets.specs.Text.{lines_of}
use Rattle.desk_check.proofs.check_pass.pass_over.Given as goal

-- the heads that came and those of the lines that are left are all
pub record HaveCome (l : goal.Live-loop-line) : Type 0 where
  pub kept : AreKept l.pass.heads
  pub seats : l.pass.heads.seats ≡ length (players_of l.sheets)
  pub heads : came l.pass.heads ++ heads_left (players_of l.sheets) l.lines
      ≡ heads_in (players_of l.sheets) 0 (lines_of l.file)

abbrev pub invariant-loop-line : goal.invariant-loop-line
invariant-loop-line l = HaveCome l

abbrev pub decreases-loop-line : goal.decreases-loop-line
decreases-loop-line l = length l.lines.rest.now
