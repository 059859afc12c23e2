-- The best runs of a company, with trains that are named or with its own: the greatest revenue that any legal set of runs
-- earns, and runs that earn it.
use Rattle.std.specs.Prelude.{◌≡◌, ℕ, List, [], ◌∷◌, ◌++◌, codes, decimal, ⊤}
use Rattle.board_state.specs.MapState.{position_of}
use Rattle.desk_moves.specs.BestTrains.{AreAllowed}
use Rattle.legal_runs.specs.Claim.{ClaimHolds}
use Rattle.legal_runs.specs.Set.{IsGreatest}
use Rattle.legal_runs.specs.declared.claim.Claim.{Claim}
use Rattle.operating.specs.MapState.{map_state_now}
use Rattle.operating.specs.RunBest.{trains_now}
use Rattle.tables.specs.Roster.{code_of_company}
use Rattle.tables.specs.declared.rolling_stock.Kind.{Kind}
use Rattle.tables.specs.declared.roster.Company.{Company}
use Rattle.totals.specs.LookBack.{Game}
use Rattle.totals.specs.Trains.{phase_of}

-- the trains that are meant: those that are named, which the company may have; its own, if none is
abbrev pub AreMeant : Game → Company → List Kind → List Kind → Type 0
AreMeant game company [] meant = meant ≡ trains_now game.events company
AreMeant game company (kind ∷ kinds) meant = (meant ≡ kind ∷ kinds) × AreAllowed (phase_of game.events) (kind ∷ kinds)

-- the first line: the company, what it would earn, and that this is the best
abbrev pub best_head : Company → ℕ → List ℕ
best_head company revenue =
    codes "RUNS " ++ code_of_company company ++ codes " " ++ decimal revenue ++ codes " BEST" ++ 10 ∷ []

-- a text begins with what the company's best runs earn with these trains; the lines of runs that earn it follow
pub record AreBestRunsWith (game : Game) (company : Company) (trains : List Kind) (text : List ℕ) : Type 0 where
  pub claim : Claim
  pub holds : ClaimHolds (position_of (map_state_now game.events)) company trains claim
  pub greatest : IsGreatest (position_of (map_state_now game.events)) company trains claim.revenue
  pub lines : List ℕ
  pub is : text ≡ best_head company claim.revenue ++ lines

-- a text has the best runs of a company with the trains that are meant
pub record AreBestRuns (game : Game) (company : Company) (named : List Kind) (text : List ℕ) : Type 0 where
  pub trains : List Kind
  pub are_meant : AreMeant game company named trains
  pub are : AreBestRunsWith game company trains text
