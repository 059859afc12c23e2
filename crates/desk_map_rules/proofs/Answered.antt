-- What a lay or a token breaks is known once the umpire has answered, and an event of tokens by its token.
use Rattle.std.proofs.Common.{◌≡◌, ◌&&◌, Bool, false, List, [], ◌∷◌, ℤ, Option, Ok, Err, refl, ◌||◌, arith}
use Rattle.std.proofs.lemmas.Grind.{common_steps}
use Rattle.std.specs.Option.{option_map_or}
use Rattle.std.specs.List.{filter_map, list_any}
use Rattle.board.specs.LayRules.{IsLayAnswer}
use Rattle.board.specs.TokenRules.{IsTokenAnswer, has_token_in}
use Rattle.board.specs.declared.turn.Asker.{Asker}
use Rattle.board_state.specs.MapState.{MapState}
use Rattle.desk_map_rules.specs.LayAsked.{LayBroken, TokenBroken, is_unreached_lay, is_unreached_token, lay_broken_by}
use Rattle.desk_map_rules.specs.LayAsked.{places_in, token_broken_by}
use Rattle.events.specs.Event.{token_placed}
use Rattle.events.specs.declared.event.Event.{Event}
use Rattle.events.specs.declared.ruling.Refusal.{Refusal}
use Rattle.map_tables.specs.Hex.{same_hex}
use Rattle.map_tables.specs.declared.hex.Hex.{Hex}
use Rattle.map_tables.specs.declared.lay.Lay.{Lay}
use Rattle.map_tables.specs.declared.place.Place.{Place}
use Rattle.map_tables.specs.declared.rules.LayRule.{LayRule}
use Rattle.map_tables.specs.declared.rules.TokenRule.{TokenRule}
use Rattle.tables.specs.Roster.{same_company}
use Rattle.tables.specs.declared.roster.Company.{Company}
use Rattle.totals.specs.Operating.{tokens_of}

-- a lay that has a cost
pub lay_answered : (laid : MapState) (asker : Asker) (lay : Lay) (cost : ℤ) (rules : List Refusal)
    → IsLayAnswer laid asker lay (Ok cost) → rules ≡ lay_broken_by laid asker lay false → LayBroken laid asker lay rules
lay_answered laid asker lay cost rules answered is = record { answer = Ok cost; answered = answered; broken = is }

-- a lay that a rule refuses
pub lay_refused : (laid : MapState) (asker : Asker) (lay : Lay) (rule : LayRule) (rules : List Refusal)
    → IsLayAnswer laid asker lay (Err rule) → rules ≡ lay_broken_by laid asker lay (is_unreached_lay rule)
    → LayBroken laid asker lay rules
lay_refused laid asker lay rule rules answered is = record { answer = Err rule; answered = answered; broken = is }

-- a token that has a cost
pub token_answered : (laid : MapState) (asker : Asker) (place : Place) (cost : ℤ) (rules : List Refusal)
    → IsTokenAnswer laid asker place (Ok cost) → rules ≡ token_broken_by laid asker place false
    → TokenBroken laid asker place rules
token_answered laid asker place cost rules answered is = record { answer = Ok cost; answered = answered; broken = is }

-- a token that a rule refuses
pub token_refused : (laid : MapState) (asker : Asker) (place : Place) (rule : TokenRule) (rules : List Refusal)
    → IsTokenAnswer laid asker place (Err rule) → rules ≡ token_broken_by laid asker place (is_unreached_token rule)
    → TokenBroken laid asker place rules
token_refused laid asker place rule rules answered is = record { answer = Err rule; answered = answered; broken = is }

-- some of what is kept of a list is such exactly if some thing of it is kept and such
any_kept : {A B : Type 0} (test : B → Bool) (kept : A → Option B) (things : List A)
    → list_any (λ thing. option_map_or test (kept thing) false) things ≡ list_any test (filter_map kept things)
any_kept test kept [] = refl
any_kept test kept (thing ∷ things) = grind (arith, common_steps, any_kept test kept things)

-- a token of a company lies in a hex exactly if some event has placed it
pub token_laid : (events : List Event) (hex : Hex) (company : Company)
    → list_any (places_in hex company) events ≡ has_token_in (tokens_of events) hex company
unfolding has_token_in
token_laid events hex company =
    any_kept (λ (token : Place × Company). same_hex token.0.hex hex && same_company token.1 company) token_placed events
