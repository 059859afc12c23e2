-- Whether a company has a run for a 2-train: some run is legal for it if no border is used. Such a
-- run leads from a stop to another over plain track alone. `Continues` says this of what is ahead
-- of a step, for the search from a stop with a token of the company. It takes a list of the steps
-- that follow, the next one first.
use Rattle.std.specs.Prelude.{◌≡◌, ℕ, Bool, true, false, List, [], ◌∷◌, Some, Option, None, get_or, if◌then◌else◌, set}
use Rattle.std.specs.Prelude.{replicate}
use Rattle.map_tables.specs.declared.hex.Hex.{Hex}
use Rattle.map_tables.specs.declared.place.Stop.{Stop}
use Rattle.map_tables.specs.declared.track.TrackEnd.{TrackEnd}
use Rattle.map_tables.specs.declared.track.TrackEnd.TheVariants.{Side as AtSide, Stop as AtStop}
use Rattle.reach.specs.Position.{Position, HasToken}
use Rattle.reach.specs.Walk.{IsTrack, across, entered_at, left_at, stop_of}
use Rattle.reach.specs.declared.walk.Spot.{Spot}
use Rattle.reach.specs.declared.walk.WalkStep.{WalkStep}
use Rattle.tables.specs.declared.rolling_stock.Kind.TheVariants.{Two}
use Rattle.tables.specs.declared.roster.Company.{Company}
use Rattle.legal_runs.specs.Legal.{IsLegalRun, border_of, map_borders}

-- some run of the company is legal for a 2-train
abbrev pub CanRun : Position → Company → Type 0
CanRun position company = (steps : List WalkStep) × IsLegalRun position company Two [] steps

-- the border at an end is not marked; there is none at a stop
abbrev pub IsFree : List Bool → Hex → TrackEnd → Type 0
IsFree marks hex (AtSide side) = get_or marks (border_of hex side) false ≡ false
IsFree marks hex (AtStop number) = ⊥

-- the marks, with that border marked too
abbrev pub over_border : List Bool → Hex → TrackEnd → List Bool
over_border marks hex (AtSide side) = set marks (border_of hex side) true
over_border marks hex (AtStop number) = marks

-- a step, and these steps after it, lead over borders that are not marked to a stop that is not the
-- first one
abbrev pub Continues : Position → Stop → List Bool → WalkStep → List WalkStep → Type 0
Continues position start marks step [] = (stop : Stop) × (stop_of (left_at step) ≡ Some stop) × ¬ (stop ≡ start)
Continues position start marks step (next ∷ later) =
    IsTrack position next × (across (left_at step) ≡ Some (entered_at next))
    × IsFree marks (entered_at next).hex (entered_at next).end
    × Continues position start (over_border marks (entered_at next).hex (entered_at next).end) next later

-- a step and some steps after it lead over borders that are not marked to another stop
abbrev pub LeadsOn : Position → Stop → List Bool → WalkStep → Type 0
LeadsOn position start marks step = (later : List WalkStep) × Continues position start marks step later

-- a step that is entered at a spot, and some steps after it, lead over borders that are not marked
-- to another stop
abbrev pub LeadsFrom : Position → Stop → List Bool → Spot → WalkStep → Type 0
LeadsFrom position start marks spot step = (entered_at step ≡ spot) × LeadsOn position start marks step

-- no border is marked
abbrev pub none_used : List Bool
none_used = replicate map_borders false

-- a step leaves a stop with a token of the company, and leads on from there
abbrev pub LeavesToken : Position → Company → WalkStep → Type 0
LeavesToken position company step =
    (start : Stop) × (stop_of (entered_at step) ≡ Some start) × HasToken position start company
    × LeadsOn position start none_used step

-- the marks once the border at a spot is crossed, if it may be
abbrev crossing_side : List Bool → ℕ → Option (List Bool)
crossing_side marks border = if get_or marks border false then None else Some (set marks border true)

abbrev pub crossing_end : List Bool → Hex → TrackEnd → Option (List Bool)
crossing_end marks hex (AtSide side) = crossing_side marks (border_of hex side)
crossing_end marks hex (AtStop number) = None

abbrev pub crossing : List Bool → Spot → Option (List Bool)
crossing marks spot = crossing_end marks spot.hex spot.end
