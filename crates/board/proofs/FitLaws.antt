-- What keeps the map state fit.
use Rattle.std.proofs.Common.{◌≡◌, ◌∙◌, ap, sym, subst, refl, ◌+◌, ◌≤◌, inl, inr, true, false, cond, List, [], ◌∷◌}
use Rattle.std.proofs.Common.{◌++◌, Some, None, arith}
use Rattle.std.proofs.lemmas.Bool.{or_parts}
use Rattle.std.proofs.lemmas.List.Sums.{sum_by_push}
use Rattle.board_state.specs.MapState.{MapState, with_lay, with_token}
use Rattle.board.specs.Homes.{Fits, FitsWithoutHomes, HomeKeepsFit, LayKeepsFit, TokenKeepsFit}
use Rattle.board.specs.LayRules.{map_rules, is_wrong_colour}
use Rattle.board.specs.TokenRules.{is_full_at, is_no_free_slot, kept_at, slot_rules}
use Rattle.board.specs.declared.turn.Asker.{Asker}
use Rattle.board_state.proofs.Fitting.{named, no_fault, none_push, room, slots_for_all}
use Rattle.board.proofs.Growing.{stop_grows}
use Rattle.board.proofs.KeptHomes.{among_append, among_first, free_where, home_named, home_takes_kept, home_there}
use Rattle.board.proofs.KeptHomes.{homes_take, homes_take_no_more, kept_less, place_named}
use Rattle.map_tables.specs.Fit.{AreFit, has_bad_side, is_wrong_kind, home_token, homes_to_come}
use Rattle.map_tables.specs.Home.{home_of}
use Rattle.map_tables.specs.OnMap.{names, slots_at, taken_at}
use Rattle.map_tables.specs.Place.{joined_stop_of, stop_of_place}
use Rattle.map_tables.specs.RuleCodes.{code_of_lay_rule, code_of_token_rule}
use Rattle.map_tables.specs.declared.lay.Lay.{Lay}
use Rattle.map_tables.specs.declared.place.Place.{Place}
use Rattle.map_tables.specs.declared.place.Stop.{Stop}
use Rattle.map_tables.specs.declared.rules.LayRule.TheVariants.{BadSide, WrongTile}
use Rattle.map_tables.specs.declared.rules.TokenRule.TheVariants.{NoFreeSlot}
use Rattle.tables.proofs.Rules.{not_broken}
use Rattle.tables.specs.Rules.{first_broken}
use Rattle.tables.specs.declared.roster.Company.{Company}

-- the map state, with the home tokens to come
abbrev with_homes : MapState → MapState
with_homes laid = record laid { tokens = laid.tokens ++ homes_to_come laid.tokens }

-- a lay on what is fit
lay_keeps : (laid : MapState) (asker : Asker) (lay : Lay) → AreFit laid.lays laid.tokens
    → first_broken (map_rules laid asker lay) ≡ None → AreFit (laid.lays ++ lay ∷ []) laid.tokens
lay_keeps laid asker lay fit none =
    let kept = not_broken code_of_lay_rule (map_rules laid asker lay) none in
    let tile = or_parts (is_wrong_colour laid.lays lay) (is_wrong_kind lay) (kept WrongTile) in
    record {
      kinds = none_push is_wrong_kind laid.lays lay fit.kinds tile.1;
      sides = none_push has_bad_side laid.lays lay fit.sides (kept BadSide);
      slots = slots_for_all (with_lay laid lay) (named laid fit) (λ stop.
          let before = room laid fit stop in
          let grown = stop_grows laid.lays lay stop fit.kinds tile.1 tile.0 in
          omega arith);
    }

-- and so with the home tokens to come
pub lay_keeps_fit : LayKeepsFit
lay_keeps_fit laid asker lay fits none = lay_keeps (with_homes laid) asker lay fits none

-- what fits with the home tokens to come fits without them
pub fits_without_homes : FitsWithoutHomes
fits_without_homes laid fit =
    no_fault laid.lays laid.tokens (record {
      kinds = fit.kinds;
      sides = fit.sides;
      slots = slots_for_all laid (λ token among. named (with_homes laid) fit token
          (among_first laid.tokens (homes_to_come laid.tokens) token among)) (λ stop.
          let before = room (with_homes laid) fit stop in
          let homes = homes_take laid.tokens stop in
          omega arith);
    })

-- one more token that names a stop, for which each stop has room beside the slots that are kept
-- then
one_more : (laid : MapState) (token : Place × Company) → Fits laid → ((stop : Stop) × (stop_of_place token.0 ≡ Some stop))
    → ((stop : Stop) → taken_at (laid.tokens ++ token ∷ []) stop
    + kept_at (laid.tokens ++ token ∷ []) (joined_stop_of stop) ≤ slots_at laid.lays stop)
    → Fits (with_token laid token.0 token.1)
one_more laid token fit names_one enough =
    let tokens = laid.tokens ++ token ∷ [] in
    record {
      kinds = fit.kinds;
      sides = fit.sides;
      slots = slots_for_all (with_homes (with_token laid token.0 token.1)) (λ other among.
          elim (among_append tokens (homes_to_come tokens) other among) [
            | inl lies ↦ elim (among_append laid.tokens (token ∷ []) other lies) [
              | inl before ↦ named (with_homes laid) fit other
                  (among_first laid.tokens (homes_to_come laid.tokens) other before)
              | inr last ↦ elim last [
                | inl is ↦ (names_one.0, ap (λ (t : Place × Company). stop_of_place t.0) (sym is) ∙ names_one.1)
                | inr none ↦ absurd none
              ]
            ]
            | inr home ↦ home_named tokens other home
          ]) (λ stop.
          let most = homes_take_no_more tokens stop in
          let least = enough stop in
          omega arith);
    }

-- how many name a stop with one more
taken_push : (tokens : List (Place × Company)) (token : Place × Company) (stop : Stop)
    → taken_at (tokens ++ token ∷ []) stop ≡ taken_at tokens stop + cond (names (joined_stop_of stop) token.0) 1 0
taken_push tokens token stop =
    sum_by_push (λ (t : Place × Company). cond (names (joined_stop_of stop) t.0) 1 0) tokens token

-- a token by the rules
pub token_keeps_fit : TokenKeepsFit
unfolding is_no_free_slot
token_keeps_fit laid asker place fit none =
    let kept = not_broken code_of_token_rule (slot_rules laid asker place) none in
    let free : is_full_at laid (stop_of_place place) ≡ false = kept NoFreeSlot in
    one_more laid (place, asker.company) fit (place_named laid place free) (λ stop.
    let pushed = taken_push laid.tokens (place, asker.company) stop in
    let before = room (with_homes laid) fit stop in
    let homes = homes_take laid.tokens stop in
    let less = kept_less laid.tokens (place, asker.company) (joined_stop_of stop) in
    (elim (names (joined_stop_of stop) place) as (λ b. names (joined_stop_of stop) place ≡ b
    → taken_at (laid.tokens ++ (place, asker.company) ∷ []) stop ≡ taken_at laid.tokens stop + cond b 1 0
    → taken_at (laid.tokens ++ (place, asker.company) ∷ []) stop
    + kept_at (laid.tokens ++ (place, asker.company) ∷ []) (joined_stop_of stop) ≤ slots_at laid.lays stop) [
      | true ↦ λ here count. let low = free_where laid (stop_of_place place) stop here free in omega arith
      | false ↦ λ elsewhere count. omega arith
    ]) refl pushed)

-- a home token
pub home_keeps_fit : HomeKeepsFit
home_keeps_fit laid company fit none =
    one_more laid (home_token company) fit (home_of company, refl) (λ stop.
    let joined = joined_stop_of stop in
    let pushed = taken_push laid.tokens (home_token company) stop in
    let before = room (with_homes laid) fit stop in
    let homes = homes_take laid.tokens stop in
    let less = kept_less laid.tokens (home_token company) joined in
    (elim (names joined (home_token company).0) as
    (λ b. names joined (home_token company).0 ≡ b → taken_at (laid.tokens ++ home_token company ∷ []) stop
    ≡ taken_at laid.tokens stop + cond b 1 0 → taken_at (laid.tokens ++ home_token company ∷ []) stop
    + kept_at (laid.tokens ++ home_token company ∷ []) joined ≤ slots_at laid.lays stop) [
      | true ↦ λ here count.
          let is : home_of company ≡ joined = home_there company joined here in
          let taken : kept_at (laid.tokens ++ home_token company ∷ []) joined + 1 ≤ kept_at laid.tokens joined =
          subst (λ (s : Stop). kept_at (laid.tokens ++ home_token company ∷ []) s + 1 ≤ kept_at laid.tokens s) is
          (home_takes_kept laid.tokens company none) in
          omega arith
      | false ↦ λ elsewhere count. omega arith
    ]) refl pushed)
