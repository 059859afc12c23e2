-- What lies on the map by a list still fits after a lay, a token or a home token of a company's
-- turn. A home token keeps a list sound.
use Rattle.std.proofs.Common.{◌≡◌, ℕ, List, [], ◌∷◌, ◌++◌, ap, ◌∙◌, None}
use Rattle.std.proofs.Common.{refl, sym, subst, false}
use Rattle.std.proofs.lemmas.List.{append-nil}
use Rattle.purchases.proofs.Complete.{phase_kept}
use Rattle.board.proofs.FitLaws.{home_keeps_fit, lay_keeps_fit, token_keeps_fit}
use Rattle.board.specs.Homes.{Fits}
use Rattle.board.specs.LayRules.{map_rules}
use Rattle.board.specs.TokenRules.{slot_rules}
use Rattle.board.specs.declared.turn.Asker.{Asker}
use Rattle.board_state.specs.MapState.{map_state_of}
use Rattle.events.specs.Event.{party_of_company, phase_set, tile_laid, token_placed}
use Rattle.events.specs.declared.event.Event.{Event}
use Rattle.events.specs.declared.event.Event.TheVariants as event
use Rattle.events.specs.declared.ruling.Ruling.{Ruling}
use Rattle.history.proofs.Payments.{home_sound}
use Rattle.history.specs.Sound.{IsSound, LiesFit}
use Rattle.map_tables.specs.Fit.{AreFitWithHomes}
use Rattle.map_tables.specs.Home.{home_of}
use Rattle.map_tables.specs.Place.{place_of}
use Rattle.map_tables.specs.declared.lay.Lay.{Lay}
use Rattle.map_tables.specs.declared.place.Place.{Place}
use Rattle.map_tables.specs.declared.place.Stop.{Stop}
use Rattle.operating.specs.HomeToken.{has_home_token}
use Rattle.operating.specs.MapState.{map_state_now}
use Rattle.sheets.specs.Part.{Numbered}
use Rattle.tables.specs.Rules.{first_broken}
use Rattle.tables.specs.declared.roster.Company.{Company}
use Rattle.tables.specs.declared.seat.Seat.{Seat}
use Rattle.totals.proofs.EventAtEnd.{cash_of_before}
use Rattle.totals.proofs.InOrder.{lays_before, lays_grow, tokens_before, tokens_grow}
use Rattle.totals.specs.LookBack.{Game, cash_of, with_event}
use Rattle.totals.specs.Operating.{lays_of, tokens_of}
use Rattle.totals.specs.Trains.{phase_of}

-- the same lies after an event that lays no tile, places no token and begins no phase
pub same_map_state : (events : List Event) (event : Event) → tile_laid event ≡ None → token_placed event ≡ None
    → phase_set event ≡ None → map_state_now (events ++ event ∷ []) ≡ map_state_now events
same_map_state events event no_tile no_token no_phase =
    ap (λ (lays : List Lay). map_state_of lays (tokens_of (events ++ event ∷ [])) (phase_of (events ++ event ∷ [])))
    (lays_before events event no_tile)
    ∙ ap (λ (tokens : List (Place × Company)). map_state_of (lays_of events) tokens (phase_of (events ++ event ∷ [])))
    (tokens_before events event no_token)
    ∙ ap (map_state_of (lays_of events) (tokens_of events)) (phase_kept events event no_phase)

-- the map state by a list fits, as it lies now
fits_now : (events : List Event) → LiesFit events → Fits (map_state_now events)
unfolding LiesFit
fits_now events fit = fit

-- the map state fits after an event where the tiles and tokens are fit that lie then
fit_then : (events : List Event) (event : Event)
    → AreFitWithHomes (lays_of events ++ lays_of (event ∷ [])) (tokens_of events ++ tokens_of (event ∷ []))
    → LiesFit (events ++ event ∷ [])
unfolding LiesFit
fit_then events event fit =
    subst (λ (lays : List Lay). AreFitWithHomes lays (tokens_of (events ++ event ∷ []))) (sym (lays_grow events event))
    (subst (AreFitWithHomes (lays_of events ++ lays_of (event ∷ []))) (sym (tokens_grow events event)) fit)

-- a lay by the rules
pub lay_fits : (events : List Event) (asker : Asker) (lay : Lay) (cost : ℕ)
    → first_broken (map_rules (map_state_now events) asker lay) ≡ None → LiesFit events
    → LiesFit (events ++ event.Laid asker.company lay cost ∷ [])
lay_fits events asker lay cost allowed fit =
    fit_then events (event.Laid asker.company lay cost)
    (subst (AreFitWithHomes (lays_of events ++ lay ∷ [])) (sym (append-nil (tokens_of events)))
    (lay_keeps_fit (map_state_now events) asker lay (fits_now events fit) allowed))

-- a token by the rules
pub token_fits : (events : List Event) (asker : Asker) (place : Place) (cost : ℕ)
    → first_broken (slot_rules (map_state_now events) asker place) ≡ None → LiesFit events
    → LiesFit (events ++ event.Token asker.company place cost ∷ [])
token_fits events asker place cost allowed fit =
    fit_then events (event.Token asker.company place cost)
    (subst (λ (lays : List Lay). AreFitWithHomes lays (tokens_of events ++ (place, asker.company) ∷ []))
    (sym (append-nil (lays_of events))) (token_keeps_fit (map_state_now events) asker place (fits_now events fit)
    allowed))

-- the home token of a company that has none at its home
home_fits : (events : List Event) (company : Company) → has_home_token events company ≡ false → LiesFit events
    → LiesFit (events ++ event.Home company (place_of (home_of company)) ∷ [])
home_fits events company none fit =
    fit_then events (event.Home company (place_of (home_of company)))
    (subst (λ (lays : List Lay). AreFitWithHomes lays
    (tokens_of events ++ (place_of (home_of company), company) ∷ [])) (sym (append-nil (lays_of events)))
    (home_keeps_fit (map_state_now events) company (fits_now events fit) none))

-- it keeps a list sound
pub home_sound_after : (game new : Game) (company : Company) (stop : Stop) (place : Place) → stop ≡ home_of company
    → place ≡ place_of stop → new ≡ with_event game (event.Home company place)
    → has_home_token game.events company ≡ false → IsSound game → IsSound new
home_sound_after game new company stop place is_home is_place recorded none sound =
    subst IsSound (sym (recorded ∙ ap (λ (at : Place). with_event game (event.Home company at))
    (is_place ∙ ap place_of is_home)))
    (home_sound game company (place_of (home_of company)) (home_fits game.events company none sound.fit) sound)

-- the same lies after a ruling, and the company has as much
pub same_after_ruling : (game ruled : Game) (seat : Seat) (line : Numbered) (ruling : Ruling)
    → ruled ≡ with_event game (event.Ruled seat line.number ruling)
    → map_state_now ruled.events ≡ map_state_now game.events
same_after_ruling game ruled seat line ruling is =
    ap (λ (g : Game). map_state_now g.events) is ∙ same_map_state game.events (event.Ruled seat line.number ruling)
    refl refl refl

pub same_cash : (game ruled : Game) (seat : Seat) (line : Numbered) (ruling : Ruling) (company : Company)
    → ruled ≡ with_event game (event.Ruled seat line.number ruling)
    → cash_of ruled.seats ruled.events (party_of_company company)
    ≡ cash_of game.seats game.events (party_of_company company)
same_cash game ruled seat line ruling company is =
    ap (λ (g : Game). cash_of g.seats g.events (party_of_company company)) is
    ∙ cash_of_before game.seats game.events (event.Ruled seat line.number ruling) (party_of_company company) refl
