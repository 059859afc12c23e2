-- The rules of a token. One slot of each company's home is kept for it until its token lies there.
-- A token needs, in this order:
--
-- - the second step of the turn or the first;
-- - a token that the company has not placed;
-- - a free slot of a city, where a slot that is kept for a company counts as taken;
-- - a hex without a token of the company;
-- - a stop that is reached, which DH's token does not need;
-- - its price, by how many tokens of the company lie, and nothing for DH's.
use Rattle.std.specs.Prelude.{◌≡◌, ℕ, ◌+◌, ◌&&◌, ◌||◌, if◌then◌else◌, ◌↔◌, Bool, true, not, nat_lt, nat_le, IsTrue}
use Rattle.std.specs.Prelude.{List, [], ◌∷◌, ◌++◌, Option, Some, None, Result, Ok, Err, ℤ, pos, count_by}
use Rattle.std.specs.Int.Signed.{lt_z}
use Rattle.std.specs.List.{list_any}
use Rattle.board_state.specs.MapState.{MapState, position_of}
use Rattle.map_tables.specs.OnMap.{has_token, same_stop, slots_at, taken_at}
use Rattle.board.specs.LayRules.{cost_or}
use Rattle.board.specs.Powers.{is_dh_token}
use Rattle.board.specs.Turn.{place_of_step}
use Rattle.board.specs.declared.turn.Asker.{Asker}
use Rattle.board.specs.declared.turn.TurnStep.TheVariants as step
use Rattle.board.specs.declared.fault.TokenFault.{TokenFault}
use Rattle.board.specs.declared.fault.TokenFault.TheVariants as fault
use Rattle.map_tables.specs.Hex.{same_hex}
use Rattle.map_tables.specs.Home.{home_of}
use Rattle.map_tables.specs.Place.{joined_stop_of, stop_of_place}
use Rattle.map_tables.specs.declared.hex.Hex.{Hex}
use Rattle.map_tables.specs.declared.place.Place.{Place}
use Rattle.map_tables.specs.declared.place.Stop.{Stop}
use Rattle.map_tables.specs.declared.rules.TokenRule.{TokenRule}
use Rattle.map_tables.specs.declared.rules.TokenRule.TheVariants as rule
use Rattle.reach.specs.Position.{Position}
use Rattle.reach.specs.Reached.{ReachesStop}
use Rattle.tables.specs.Roster.{companies, same_company, token_price_of, token_supply_of}
use Rattle.tables.specs.Rules.{Rule, first_broken}
use Rattle.tables.specs.declared.roster.Company.{Company}

-- whether the step of the token is over
unfoldable pub is_token_used : Asker → Bool
is_token_used asker = nat_lt (place_of_step step.Token) (place_of_step asker.pointer)

-- how many tokens of a company lie
unfoldable pub laid_by : List (Place × Company) → Company → ℕ
laid_by tokens company = count_by (λ token. same_company token.1 company) tokens

-- whether a company has no token left
unfoldable pub has_none_left : List (Place × Company) → Company → Bool
has_none_left tokens company = nat_le (token_supply_of company) (laid_by tokens company)

-- whether a slot of a stop is kept for a company
abbrev pub is_kept_for : List (Place × Company) → Stop → Company → Bool
is_kept_for tokens stop company = same_stop (home_of company) stop && not (has_token tokens stop company)

-- how many slots of a stop are kept
unfoldable pub kept_at : List (Place × Company) → Stop → ℕ
kept_at tokens stop = count_by (is_kept_for tokens stop) companies

-- whether all slots of a stop are taken or kept; a place that is no city has none
abbrev pub is_full_at : MapState → Option Stop → Bool
is_full_at laid None = true
is_full_at laid (Some stop) =
    nat_le (slots_at laid.lays stop) (taken_at laid.tokens stop + kept_at laid.tokens (joined_stop_of stop))

-- a place is no stop of a city, or none of its slots is free
unfoldable pub is_no_free_slot : MapState → Place → Bool
is_no_free_slot laid place = is_full_at laid (stop_of_place place)

-- whether a company has a token in a hex
unfoldable pub has_token_in : List (Place × Company) → Hex → Company → Bool
has_token_in tokens hex company = list_any (λ token. same_hex token.0.hex hex && same_company token.1 company) tokens

-- what the company's next token costs on a hex: its price, or nothing if it is DH's
unfoldable pub token_cost_of : List (Place × Company) → Asker → Hex → ℕ
token_cost_of tokens asker hex = if is_dh_token asker hex then 0 else token_price_of (laid_by tokens asker.company)

-- a company reaches the stop that a place names
pub record IsReachedPlace (position : Position) (company : Company) (place : Place) : Type 0 where
  pub stop : Stop
  pub is : stop_of_place place ≡ Some stop
  pub reached : ReachesStop position company (joined_stop_of stop)

-- the rules that do not depend on what is reached
abbrev pub slot_rules : MapState → Asker → Place → List (Rule TokenRule)
slot_rules laid asker place = record { code = rule.StepUsed; broken = is_token_used asker }
    ∷ record { code = rule.NoTokenLeft; broken = has_none_left laid.tokens asker.company }
    ∷ record { code = rule.NoFreeSlot; broken = is_no_free_slot laid place }
    ∷ record { code = rule.InHexAlready; broken = has_token_in laid.tokens place.hex asker.company } ∷ []

-- the rules that are looked at once it is known whether the stop is reached
abbrev pub token_reach_rules : MapState → Asker → Place → Bool → List (Rule TokenRule)
token_reach_rules laid asker place reached =
    record { code = rule.NotReached; broken = not (is_dh_token asker place.hex || reached) }
    ∷ record { code = rule.CashTooSmall; broken = lt_z asker.cash (pos (token_cost_of laid.tokens asker place.hex)) }
    ∷ []

-- all rules of a token
abbrev pub token_rules : MapState → Asker → Place → Bool → List (Rule TokenRule)
token_rules laid asker place reached = slot_rules laid asker place ++ token_reach_rules laid asker place reached

-- the cost of a token, or the first rule that it breaks, given whether the stop is reached
abbrev pub token_answer_of : MapState → Asker → Place → Bool → Result ℤ TokenRule
token_answer_of laid asker place reached =
    cost_or (token_cost_of laid.tokens asker place.hex) (first_broken (token_rules laid asker place reached))

-- the outcome of a token: its cost, or the first rule that it breaks. If the rules before it are
-- kept, what is reached is looked at.
pub record IsTokenAnswer (laid : MapState) (asker : Asker) (place : Place) (answer : Result ℤ TokenRule) : Type 0 where
  pub reached : Bool
  pub exact : first_broken (slot_rules laid asker place) ≡ None
      → IsTrue reached ↔ IsReachedPlace (position_of laid) asker.company place
  pub given : answer ≡ token_answer_of laid asker place reached

-- the outcome of a call for a token: that of the token; or allocation fails, if the rules before
-- what is reached are kept
abbrev pub IsTokenOutcome : MapState → Asker → Place → Result ℤ TokenFault → Type 0
IsTokenOutcome laid asker place (Ok cost) = IsTokenAnswer laid asker place (Ok cost)
IsTokenOutcome laid asker place (Err (fault.Rule rule)) = IsTokenAnswer laid asker place (Err rule)
IsTokenOutcome laid asker place (Err (fault.Memory error)) = first_broken (slot_rules laid asker place) ≡ None
