-- The home token of a company: after the company's turn it lies, and stays.
use Rattle.std.proofs.Common.{◌≡◌, Bool, true, false, ◌&&◌, ◌||◌, if◌then◌else◌, List, [], ◌∷◌, ◌++◌, refl, ap, ◌∙◌}
use Rattle.std.proofs.lemmas.List.{append_assoc}
use Rattle.std.proofs.lemmas.List.Elements.{filter_map-append}
use Rattle.std.proofs.lemmas.List.Folds.{list_any-append}
use Rattle.std.proofs.Math.Bool.{or-true}
use Rattle.events.specs.Event.{token_placed}
use Rattle.events.specs.declared.event.Event.{Event}
use Rattle.events.specs.declared.event.Event.TheVariants as event
use Rattle.totals.specs.LookBack.{Game, with_event}
use Rattle.totals.specs.Operating.{tokens_of}
use Rattle.totals.specs.Shares.{president_of}
use Rattle.map_tables.specs.Hex.{index_of, hexes, site_of}
use Rattle.map_tables.specs.Home.{home_of}
use Rattle.map_tables.specs.OnMap.{has_token, names}
use Rattle.map_tables.specs.Place.{place_of}
use Rattle.map_tables.specs.declared.place.Place.{Place}
use Rattle.map_tables.specs.declared.place.Stop.{Stop}
use Rattle.operating.proofs.TurnGames.{of_steps}
use Rattle.operating.proofs.TurnLaws.{adds_by, more_adds}
use Rattle.operating.proofs.ForcedGames.{of_orders_end}
use Rattle.operating.proofs.TurnSteps.{of_turn}
use Rattle.operating.specs.HomeToken.{has_home_token, with_home}
use Rattle.operating.specs.Laws.{HomeTokenLies, OnlyAdds}
use Rattle.operating.specs.Pay.{withheld_if_unpaid}
use Rattle.operating.specs.Turn.{begun}
use Rattle.tables.specs.Roster.{same_company}
use Rattle.tables.specs.declared.roster.Company.{Company}
use Rattle.tables.specs.declared.roster.Company.TheVariants.{Pennsylvania}

-- a token of a company lies at a stop by some events or by those after them
by_either : (stop : Stop) (company : Company) (before after : List Event) →
    has_token (tokens_of (before ++ after)) stop company
    ≡ (has_token (tokens_of before) stop company || has_token (tokens_of after) stop company)
by_either stop company before after =
    ap (λ (tokens : List (Place × Company)). has_token tokens stop company)
    (filter_map-append token_placed before after)
    ∙ list_any-append (λ (token : Place × Company). names stop token.0 && same_company token.1 company)
    (tokens_of before) (tokens_of after)

-- HOME places it at the company's home
lies_by_home : (company : Company) → has_home_token (event.Home company (place_of (home_of company)) ∷ []) company
    ≡ true
unfolding index_of hexes site_of
lies_by_home Pennsylvania = refl
lies_by_home company = refl

-- once a turn has begun it lies
begun_lies : (game : Game) (company : Company) → has_home_token (with_home game company).events company ≡ true
begun_lies game company =
    let home = event.Home company (place_of (home_of company)) in
    elim (has_home_token game.events company) as (λ (b : Bool). has_home_token game.events company ≡ b →
    has_home_token (if b then game else with_event game home).events company ≡ true) [
      | true ↦ λ lies. lies
      | false ↦ λ none. by_either (home_of company) company game.events (home ∷ [])
          ∙ ap (λ (b : Bool). has_home_token game.events company || b) (lies_by_home company)
          ∙ or-true (has_home_token game.events company)
    ]
    refl

-- and it stays
pub home_token_lies : HomeTokenLies
home_token_lies file round company old new turn more =
    let first = (begun old company).game in
    let paid = (withheld_if_unpaid company turn.last).game in
    let before : OnlyAdds first paid = of_turn company _ (of_steps company OnlyAdds (adds_by company)) file round old
    new turn in
    let ended : OnlyAdds paid new = of_orders_end company OnlyAdds (adds_by company) more_adds file round paid
    (president_of old.events company) new turn.after in
    let adds : OnlyAdds first new = (adds_by company).on.both first paid new before ended in
    ap (λ (game : Game). has_home_token (game.events ++ more) company) adds.added
    ∙ ap (λ (events : List Event). has_home_token events company) (append_assoc first.events adds.more more)
    ∙ by_either (home_of company) company first.events (adds.more ++ more)
    ∙ ap (λ (b : Bool). b || has_home_token (adds.more ++ more) company) (begun_lies old company)
