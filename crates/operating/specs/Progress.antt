-- How far a company's turn has come. The steps of the turn are lay, token, run, pay and trains, and
-- obeyed orders move the turn past them.
use Rattle.std.specs.List.{list_any}
use Rattle.std.specs.Prelude.{false, not, ◌||◌, List, ℕ, true, Bool, nat_lt, pos}
use lib.Signed.{lt_z}
use Rattle.board.specs.Powers.{is_cs_lay, is_dh_lay}
use Rattle.board.specs.Turn.{place_of_step}
use Rattle.board.specs.declared.turn.Asker.{Asker}
use Rattle.board.specs.declared.turn.TurnStep.TheVariants as step
use Rattle.map_tables.specs.declared.lay.Lay.{Lay}
use Rattle.operating.specs.CompletedRuns.{no_runs, with_ran}
use Rattle.operating.specs.declared.progress.Progress.{Progress}
use Rattle.operating.specs.declared.completed_runs.CompletedRun.{CompletedRun}

-- how far a turn has come that has just begun
abbrev pub at_start : Progress
at_start = record { pointer = step.Lay; lay_used = false; dh_laid = false; best_run = false; runs = no_runs }

-- once a tile is laid: CS's lay leaves the lay of the turn as it is, and DH's is remembered for its
-- token
abbrev pub lay_done : List Lay → Asker → Lay → Progress → Progress
lay_done lays asker lay progress = record progress {
  lay_used = progress.lay_used || not (is_cs_lay lays asker lay.hex);
  dh_laid = progress.dh_laid || is_dh_lay asker lay;
}

-- once a token is placed
abbrev pub token_done : Progress → Progress
token_done progress = record progress { pointer = step.Run }

-- once a train has run
abbrev pub run_done : Progress → CompletedRun → Progress
run_done progress ran = record progress { pointer = step.Run; runs = with_ran progress.runs ran }

-- once the best has been run, which earned this much
abbrev pub best_done : Progress → ℕ → Progress
best_done progress revenue =
    record progress { pointer = step.Run; best_run = true; runs = record progress.runs { revenue = revenue } }

-- once the company has paid or withheld
abbrev pub pay_done : Progress → Progress
pay_done progress = record progress { pointer = step.Trains }

-- the turn is past its runs
abbrev pub is_past_runs : Progress → Bool
is_past_runs progress = nat_lt (place_of_step step.Run) (place_of_step progress.pointer)

-- some train has run in the turn
abbrev pub has_any_run : Progress → Bool
has_any_run progress = progress.best_run || list_any (λ count. lt_z (pos 0) count) progress.runs.trains

-- the turn is past its pay
abbrev pub is_past_pay : Progress → Bool
is_past_pay progress = nat_lt (place_of_step step.Pay) (place_of_step progress.pointer)

-- the turn is not past its pay
abbrev pub is_unpaid : Progress → Bool
is_unpaid progress = nat_lt (place_of_step progress.pointer) (place_of_step step.Trains)
