-- The tokens at a stop.
use Rattle.std.proofs.Common.{◌≡◌, ◌∙◌, ap, refl, inl, inr, ◌⊎◌, Bool, true, false, ◌&&◌, ◌||◌, cond, List, [], ◌∷◌}
use Rattle.std.proofs.Common.{length, map, subst}
use Rattle.std.proofs.lemmas.List.{length-map}
use Rattle.std.proofs.lemmas.List.Sums.{length-filter}
use Rattle.std.specs.List.{count_by, filter}
use Rattle.std.proofs.Math.Bool.{or-true}
use Rattle.board_state.proofs.Positions.{not_on_map, shown}
use Rattle.board_state.specs.MapState.{MapState, position_of}
use Rattle.map_tables.specs.OnMap.{has_token, is_stop, names, tokens_at}
use Rattle.map_tables.specs.Place.{joined_stop_of}
use Rattle.map_tables.specs.declared.place.Place.{Place}
use Rattle.map_tables.specs.declared.place.Stop.{Stop}
use Rattle.reach.specs.Position.{AtStop, HasToken, IsAmong}
use Rattle.reach.specs.Tokens.{AreNamed}
use Rattle.tables.proofs.Companies.{company_is, company_is_same}
use Rattle.tables.specs.Roster.{same_company}
use Rattle.tables.specs.declared.roster.Company.{Company}

-- as many tokens lie at a stop as name it
pub count_is : (tokens : List (Place × Company)) (stop : Stop)
    → length (tokens_at tokens stop) ≡ count_by (λ token. names stop token.0) tokens
count_is tokens stop =
    length-map (filter (λ (token : Place × Company). names stop token.0) tokens)
    (λ (token : Place × Company). token.1) ∙ length-filter (λ (token : Place × Company). names stop token.0) tokens

-- the company of a token among those at a stop is that of one which names it
pub among_is : (tokens : List (Place × Company)) (stop : Stop) (company : Company)
    → has_token tokens stop company ≡ true → IsAmong company (tokens_at tokens stop)
among_is [] stop company has = cc
among_is (token ∷ later) stop company has =
    (elim (names stop token.0) as (λ b. ((b && same_company token.1 company) || has_token later stop company) ≡ true
    → IsAmong company (map (λ (t : Place × Company). t.1)
    (cond b (token ∷ filter (λ (t : Place × Company). names stop t.0) later)
    (filter (λ (t : Place × Company). names stop t.0) later)))) [
      | true ↦ λ found. (elim (same_company token.1 company) as
          (λ s. same_company token.1 company ≡ s → (s || has_token later stop company) ≡ true
          → (token.1 ≡ company) ⊎ IsAmong company (tokens_at later stop)) [
            | true ↦ λ is f. inl (company_is token.1 company is)
            | false ↦ λ is f. inr (among_is later stop company f)
          ]) refl found
      | false ↦ λ found. among_is later stop company found
    ]) has

-- and the other way
pub is_among : (tokens : List (Place × Company)) (stop : Stop) (company : Company)
    → IsAmong company (tokens_at tokens stop) → has_token tokens stop company ≡ true
is_among [] stop company among = absurd among
is_among (token ∷ later) stop company among =
    (elim (names stop token.0) as (λ b. IsAmong company
    (map (λ (t : Place × Company). t.1) (cond b (token ∷ filter (λ (t : Place × Company). names stop t.0) later)
    (filter (λ (t : Place × Company). names stop t.0) later)))
    → ((b && same_company token.1 company) || has_token later stop company) ≡ true) [
      | true ↦ λ either. elim either [
        | inl is ↦ ap (λ s. s || has_token later stop company) (company_is_same token.1 company is)
        | inr more ↦ ap (λ h. same_company token.1 company || h) (is_among later stop company more)
            ∙ or-true (same_company token.1 company)
      ]
      | false ↦ λ more. is_among later stop company more
    ]) among

-- where a company has a token there is a stop
pub stop_there : (map_state : MapState) (stop : Stop) (company : Company) → HasToken (position_of map_state) stop company
    → is_stop (joined_stop_of stop) ≡ true
stop_there map_state stop company has = by_test (is_stop (joined_stop_of stop)) refl
  where
    by_test : (is : Bool) → is_stop (joined_stop_of stop) ≡ is → is_stop (joined_stop_of stop) ≡ true
    by_test true is = is
    by_test false is =
        absurd (let none : ⊥ = subst (IsAmong company) (ap (λ (s : AtStop). s.tokens) (not_on_map map_state stop is))
        has in none)

-- and one of the tokens that lie names it
pub there_token : (map_state : MapState) (stop : Stop) (company : Company) → HasToken (position_of map_state) stop company
    → has_token map_state.tokens (joined_stop_of stop) company ≡ true
there_token map_state stop company has =
    is_among map_state.tokens (joined_stop_of stop) company
    (subst (IsAmong company) (ap (λ (s : AtStop). s.tokens)
    (shown map_state stop (stop_there map_state stop company has))) has)

-- so the tokens that lie name each stop with a token
pub named_on_map : (laid : MapState) (company : Company) → AreNamed (position_of laid) company laid.tokens
named_on_map laid company stop has = there_token laid stop company has
