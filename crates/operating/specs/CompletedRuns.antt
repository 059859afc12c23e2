-- What the trains of a company have done in its turn. They earned at most 160 dollars for each
-- border that is used, or otherwise the greatest revenue, which is at most 50,000 dollars.
use Rattle.std.specs.Prelude.{ℕ, Bool, List, ℤ, ◌≡◌, ◌+◌, ◌*◌, ◌≤◌, length, false, replicate, pos, slice_index_or, ◌-◌}
use Rattle.std.specs.Prelude.{◌^◌, ◌≤ℤ◌, ◌+ℤ◌, slice_set}
use Rattle.legal_runs.specs.Law.{unused}
use Rattle.legal_runs.specs.Legal.{map_borders}
use Rattle.operating.specs.declared.completed_runs.CompletedRun.{CompletedRun}
use Rattle.tables.specs.Train.{index_of_kind}
use Rattle.tables.specs.declared.rolling_stock.Kind.{Kind}

-- how many of each kind have run, by the place of the kind, the borders that are used, and what the
-- runs earned
pub record RunsOfTurn : Type 0 where
  pub trains : List ℤ
  pub borders : List Bool
  pub revenue : ℕ

-- this is within what trains can do
pub record IsBounded (trains : List ℤ) (borders : List Bool) (revenue : ℕ) : Type 0 where
  pub kinds : length trains ≡ 6
  pub marks : length borders ≡ map_borders
  pub bounded : revenue + 160 * unused borders ≤ 94640

-- no train has run, and no border is used
abbrev pub no_runs : RunsOfTurn
no_runs = record { trains = replicate 6 (pos 0); borders = replicate map_borders false; revenue = 0 }

-- how many trains of a kind have run in the turn
abbrev pub has_run : RunsOfTurn → Kind → ℤ
has_run runs kind = slice_index_or runs.trains (index_of_kind kind) (pos 0)

-- as many trains of a kind as may have run if one more is still to be counted
abbrev pub runs_most : ℤ
runs_most = pos (2 ^ 63 - 2)

-- A train may still do this. Few of its kind have run, and it marks no more than the borders. It
-- earns at most 160 dollars for each one that it uses, so it earns little.
pub record IsCounted (runs : RunsOfTurn) (ran : CompletedRun) : Type 0 where
  pub few : has_run runs ran.kind ≤ℤ runs_most
  pub marks : length ran.borders ≡ length runs.borders
  pub bounded : ran.earned + 160 * unused ran.borders ≤ 160 * unused runs.borders
  pub small : ran.earned ≤ 94640

-- once a train has run
abbrev pub with_ran : RunsOfTurn → CompletedRun → RunsOfTurn
with_ran runs ran = record {
  trains = slice_set runs.trains (index_of_kind ran.kind) (has_run runs ran.kind +ℤ pos 1);
  borders = ran.borders;
  revenue = runs.revenue + ran.earned;
}
