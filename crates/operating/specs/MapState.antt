-- What lies on the map by a list of events: the tiles and tokens that were laid, in the phase that
-- has come. A board that is kept through a turn has the first of them, and gets the others when it
-- is used.
use Rattle.std.specs.Prelude.{List, ◌≡◌, ◌++◌}
use Rattle.board_state.specs.MapState.{MapState, map_state_of, position_of}
use Rattle.events.specs.declared.event.Event.{Event}
use Rattle.legal_runs.specs.Fault.{named_steps}
use Rattle.map_tables.specs.declared.place.Place.{Place}
use Rattle.reach.specs.Position.{Position}
use Rattle.reach.specs.declared.walk.WalkStep.{WalkStep}
use Rattle.totals.specs.Operating.{lays_of, tokens_of}
use Rattle.totals.specs.Trains.{phase_of}

-- what lies
abbrev pub map_state_now : List Event → MapState
map_state_now events = map_state_of (lays_of events) (tokens_of events) (phase_of events)

-- the position of the map now
abbrev pub position_now : List Event → Position
position_now events = position_of (map_state_now events)

-- the walk that some places name now
abbrev pub steps_now : List Event → List Place → List WalkStep
steps_now events run = named_steps (position_now events) run

-- a list begins with another
pub record BeginsWith {A : Type 0} (prefix all : List A) : Type 0 where
  pub rest : List A
  pub is : all ≡ prefix ++ rest

-- a board has the first of the tiles and tokens that were laid
pub record IsPrefix (laid : MapState) (events : List Event) : Type 0 where
  pub lays : BeginsWith laid.lays (lays_of events)
  pub tokens : BeginsWith laid.tokens (tokens_of events)
