-- The end of a company's turn. A purchase is due if the company has no train and could run a
-- 2-train: it is made, or its president is bankrupt. If none is due, the RAISE lines of the
-- company's orders are refused.
use Rattle.std.specs.Prelude.{◌≡◌, false, ◌⊎◌, List}
use Rattle.board_state.specs.MapState.{position_of}
use Rattle.forced_purchase.specs.Forced.{after_forced}
use Rattle.forced_purchase.specs.Raise.{after_raises}
use Rattle.forced_purchase.specs.declared.operator.Operator.{Operator}
use Rattle.legal_runs.specs.TwoTrain.{CanRun}
use Rattle.operating.specs.MapState.{map_state_now}
use Rattle.purchases.specs.Train.{has_trains}
use Rattle.sheets.specs.Part.{Numbered}
use Rattle.tables.specs.declared.roster.Company.{Company}
use Rattle.totals.specs.LookBack.{Game}

-- the company has no train, and could run one of kind 2
abbrev pub IsDue : Game → Company → Type 0
IsDue game company = (has_trains game.events company ≡ false) × CanRun (position_of (map_state_now game.events)) company

-- the end of a company's turn leads to new, with these as the company's orders: by a purchase that
-- is due, or none is due
abbrev pub EndLeads : Operator → List Numbered → Game → Game → Type 0
EndLeads by lines game new = (IsDue game by.company × (new ≡ after_forced by lines game))
    ⊎ ((¬ IsDue game by.company) × (new ≡ after_raises false by game lines))
