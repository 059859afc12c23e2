-- The rules of its kind that a lay or a token breaks at a moment of a game: the rows of the tables of `board` that are true.
-- Not asked are the rules of steps, which depend on the lines above in the same sheet. Whether a tile or a stop is reached has
-- a meaning only if the tile or the token may lie there, and only then the umpire looks at it.
use Rattle.std.specs.Prelude.{◌≡◌, ◌&&◌, Bool, true, false, not, List, [], ◌∷◌, ◌++◌, Result, Ok, Err, ℤ, pos}
use Rattle.std.specs.Int.Signed.{lt_z}
use Rattle.std.specs.Option.{option_map_or}
use Rattle.board.specs.LayRules.{IsLayAnswer, lay_cost_of, map_rules}
use Rattle.board.specs.Powers.{owns_private}
use Rattle.board.specs.TokenRules.{IsTokenAnswer, slot_rules, token_cost_of}
use Rattle.board.specs.declared.turn.Asker.{Asker}
use Rattle.board_state.specs.MapState.{MapState}
use Rattle.desk_map_rules.specs.Broken.{broken_of}
use Rattle.events.specs.Event.{token_placed}
use Rattle.events.specs.declared.event.Event.{Event}
use Rattle.events.specs.declared.ruling.Refusal.{Refusal}
use Rattle.events.specs.declared.ruling.Refusal.TheVariants as refusal
use Rattle.map_tables.specs.Fit.{is_open, is_wrong_kind}
use Rattle.map_tables.specs.Hex.{same_hex}
use Rattle.map_tables.specs.Print.{print_of}
use Rattle.map_tables.specs.declared.hex.Hex.{Hex}
use Rattle.map_tables.specs.declared.lay.Lay.{Lay}
use Rattle.map_tables.specs.declared.place.Place.{Place}
use Rattle.map_tables.specs.declared.rules.LayRule.{LayRule}
use Rattle.map_tables.specs.declared.rules.LayRule.TheVariants as of_lay
use Rattle.map_tables.specs.declared.rules.TokenRule.{TokenRule}
use Rattle.map_tables.specs.declared.rules.TokenRule.TheVariants as of_token
use Rattle.operating.specs.BoardAsker.{asker_of}
use Rattle.operating.specs.Progress.{at_start}
use Rattle.tables.specs.Roster.{same_company}
use Rattle.tables.specs.Rules.{Rule}
use Rattle.tables.specs.declared.roster.Company.{Company}
use Rattle.tables.specs.declared.roster.Private.TheVariants.{DelawareHudson}
use Rattle.totals.specs.LookBack.{Game}

-- A rule of a lay is asked. A grey or red hex has no kind of tile, and a tile of another kind keeps no track.
abbrev pub is_asked_of_lay : Lay → LayRule → Bool
is_asked_of_lay lay of_lay.StepUsed = false
is_asked_of_lay lay of_lay.WrongTile = is_open (print_of lay.hex).kind
is_asked_of_lay lay of_lay.TrackLost = is_open (print_of lay.hex).kind && not (is_wrong_kind lay)
is_asked_of_lay lay of_lay.BadSide = is_open (print_of lay.hex).kind
is_asked_of_lay lay other = true

-- the rule says that no track of the tile is reached
abbrev pub is_unreached_lay : LayRule → Bool
is_unreached_lay of_lay.NotReached = true
is_unreached_lay other = false

-- the umpire finds that no track of the tile is reached
abbrev pub finds_no_track : Result ℤ LayRule → Bool
finds_no_track (Ok cost) = false
finds_no_track (Err rule) = is_unreached_lay rule

-- all rules of a lay, given whether the umpire finds that no track of the tile is reached
abbrev pub lay_rules_by : MapState → Asker → Lay → Bool → List (Rule LayRule)
lay_rules_by laid asker lay unreached =
    map_rules laid asker lay
    ++ (record { code = of_lay.NotReached; broken = unreached }
    ∷ record { code = of_lay.CashTooSmall; broken = lt_z asker.cash (pos (lay_cost_of laid.lays lay.hex)) }
    ∷ [])

-- the rules that a lay breaks, given that
abbrev pub lay_broken_by : MapState → Asker → Lay → Bool → List Refusal
lay_broken_by laid asker lay unreached =
    broken_of (is_asked_of_lay lay) refusal.Lay (lay_rules_by laid asker lay unreached)

-- these are the rules that a lay breaks
pub record LayBroken (laid : MapState) (asker : Asker) (lay : Lay) (rules : List Refusal) : Type 0 where
  pub answer : Result ℤ LayRule
  pub answered : IsLayAnswer laid asker lay answer
  pub broken : rules ≡ lay_broken_by laid asker lay (finds_no_track answer)

-- a rule of tokens is asked: each but that of the step
abbrev pub is_asked_of_token : TokenRule → Bool
is_asked_of_token of_token.StepUsed = false
is_asked_of_token other = true

-- the rule says that the stop is not reached
abbrev pub is_unreached_token : TokenRule → Bool
is_unreached_token of_token.NotReached = true
is_unreached_token other = false

-- the umpire finds that the stop is not reached
abbrev pub finds_no_way : Result ℤ TokenRule → Bool
finds_no_way (Ok cost) = false
finds_no_way (Err rule) = is_unreached_token rule

-- all rules of a token, given whether the umpire finds that the stop is not reached
abbrev pub token_rules_by : MapState → Asker → Place → Bool → List (Rule TokenRule)
token_rules_by laid asker place unreached =
    slot_rules laid asker place
    ++ (record { code = of_token.NotReached; broken = unreached }
    ∷ record { code = of_token.CashTooSmall; broken = lt_z asker.cash (pos (token_cost_of laid.tokens asker place.hex)) }
    ∷ [])

-- the rules that a token breaks, given that
abbrev pub token_broken_by : MapState → Asker → Place → Bool → List Refusal
token_broken_by laid asker place unreached =
    broken_of is_asked_of_token refusal.Token (token_rules_by laid asker place unreached)

-- these are the rules that a token breaks
pub record TokenBroken (laid : MapState) (asker : Asker) (place : Place) (rules : List Refusal) : Type 0 where
  pub answer : Result ℤ TokenRule
  pub answered : IsTokenAnswer laid asker place answer
  pub broken : rules ≡ token_broken_by laid asker place (finds_no_way answer)

-- the company as it asks for a lay
abbrev pub lay_asker : Game → Company → Asker
lay_asker game company = asker_of game company at_start

-- The company as it asks for a token. If it owns DH, it is as if DH's lay were made: whether it is depends on the lines above.
abbrev pub token_asker : Game → Company → Asker
token_asker game company =
    let asker = lay_asker game company in record asker { dh_laid = owns_private asker DelawareHudson }

-- an event places a token of a company in a hex
abbrev pub places_in : Hex → Company → Event → Bool
places_in hex company event =
    option_map_or (λ token. same_hex token.0.hex hex && same_company token.1 company) (token_placed event) false
