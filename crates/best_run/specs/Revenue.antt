-- What the search finds for some trains, greatest first: the greatest revenue, with a path that
-- gives the runs of a legal set that earns it. All of these can be written in full, and their places
-- name them. It is less than 50,000 dollars.
use Rattle.std.specs.Prelude.{◌≡◌, ◌<◌, List}
use Rattle.reach.specs.Position.{Position}
use Rattle.tables.specs.declared.rolling_stock.Kind.{Kind}
use Rattle.tables.specs.declared.roster.Company.{Company}
use Rattle.legal_runs.specs.Claim.{NameRuns}
use Rattle.legal_runs.specs.Set.{IsGreatest, IsLegalSet, revenue_of_runs}
use Rattle.best_run.specs.declared.memo.Found.{Found}
use Rattle.best_run.specs.MovePath.{CanBeRead, runs_in, written}

pub record IsBest (position : Position) (company : Company) (kinds : List Kind) (found : Found) : Type 0 where
  pub written_out : CanBeRead kinds found.move_path
  pub names : NameRuns position (written (runs_in kinds found.move_path)) (runs_in kinds found.move_path)
  pub set : IsLegalSet position company kinds (runs_in kinds found.move_path)
  pub earns : revenue_of_runs position (runs_in kinds found.move_path) ≡ found.amount
  pub greatest : IsGreatest position company kinds found.amount
  pub small : found.amount < 50000
