-- What lies on the map, event by event, is all that was laid and placed.
use Rattle.std.proofs.Common.{◌≡◌, List, [], ◌∷◌, ◌++◌, Option, Some, None, refl, ap, ◌∙◌}
use Rattle.std.proofs.lemmas.List.{append-nil}
use Rattle.std.specs.List.{cons_option, fold}
use Rattle.board_state.specs.MapState.{MapState, map_state_of}
use Rattle.desk_base.specs.Laid.{laid_then}
use Rattle.events.specs.Event.{tile_laid, token_placed}
use Rattle.events.specs.declared.event.Event.{Event}
use Rattle.totals.specs.Operating.{lays_of, tokens_of}
use Rattle.map_tables.specs.declared.lay.Lay.{Lay}
use Rattle.map_tables.specs.declared.place.Place.{Place}
use Rattle.tables.specs.declared.rolling_stock.Kind.{Kind}
use Rattle.tables.specs.declared.roster.Company.{Company}

-- one thing, if there is one, between others
between : {A : Type 0} (before : List A) (one : Option A) (after : List A)
    → (before ++ cons_option one []) ++ after ≡ before ++ cons_option one after
between [] None after = refl
between [] (Some one) after = refl
between (first ∷ before) one after = ap (λ (rest : List _). first ∷ rest) (between before one after)

-- behind what lay before
laid_behind :
    (events : List Event) (map_state : MapState) →
    fold laid_then map_state events ≡ map_state_of (map_state.lays ++ lays_of events)
    (map_state.tokens ++ tokens_of events) map_state.phase
laid_behind [] map_state = rw (append-nil map_state.lays, append-nil map_state.tokens) refl
laid_behind (event ∷ events) map_state =
    laid_behind events (laid_then map_state event)
    ∙ ap (λ (lays : List Lay). map_state_of lays ((map_state.tokens ++ cons_option (token_placed event) [])
    ++ tokens_of events) map_state.phase)
    (between map_state.lays (tile_laid event) (lays_of events))
    ∙ ap (λ (tokens : List (Place × Company)). map_state_of (map_state.lays ++ lays_of (event ∷ events)) tokens
    map_state.phase)
    (between map_state.tokens (token_placed event) (tokens_of events))

-- from an empty map on
pub all_laid : (phase : Kind) (events : List Event)
    → fold laid_then (map_state_of [] [] phase) events ≡ map_state_of (lays_of events) (tokens_of events) phase
all_laid phase events = laid_behind events (map_state_of [] [] phase)
