-- A list of what is allowed has exactly that, where the rules judge each candidate in one way and
-- every thing is a candidate.
use Rattle.std.proofs.Common.{◌≡◌, ℕ, zero, suc, Bool, true, false, inl, inr, List, [], ◌∷◌, ◌++◌}
use Rattle.std.proofs.Common.{Option, Some, None, Result, Ok, Err, ℤ, refl, sym, ap, subst, ◌∙◌, flat_map}
use Rattle.std.specs.Prelude.{slice_get}
use Rattle.std.proofs.lemmas.Option.{none-some}
use Rattle.operating.proofs.Outcome.{same_break, same_tests}
use Rattle.board.proofs.KeptHomes.{among_first}
use Rattle.board.specs.LayRules.{IsConnected, IsLayAnswer, cost_or, lay_cost_of, lay_reach_rules}
use Rattle.board.specs.LayRules.{map_rules}
use Rattle.board.specs.TokenRules.{IsReachedPlace, IsTokenAnswer, slot_rules, token_cost_of, token_reach_rules}
use Rattle.board.specs.declared.turn.Asker.{Asker}
use Rattle.board_state.specs.MapState.{MapState, position_of, with_lay}
use Rattle.map_tables.specs.Hex.{hexes, index_of}
use Rattle.map_tables.specs.Laws.{HexesAreListedOnce, IsHexListed, IsTileListed, TilesAreListedOnce}
use Rattle.map_tables.specs.Side.{rotations}
use Rattle.map_tables.specs.Tile.{tiles, tile_index_of}
use Rattle.map_tables.specs.declared.hex.Hex.{Hex}
use Rattle.map_tables.specs.declared.lay.Lay.{Lay}
use Rattle.map_tables.specs.declared.place.Place.{Place}
use Rattle.map_tables.specs.declared.place.StopNumber.{StopNumber}
use Rattle.map_tables.specs.declared.place.StopNumber.TheVariants.{First, Second}
use Rattle.map_tables.specs.declared.rules.LayRule.{LayRule}
use Rattle.map_tables.specs.declared.rules.TokenRule.{TokenRule}
use Rattle.map_tables.specs.declared.side.Rotation.{Rotation}
use Rattle.map_tables.specs.declared.side.Rotation.TheVariants.{Zero, One, Two, Three, Four, Five}
use Rattle.map_tables.specs.declared.tiles.TileNo.{TileNo}
use Rattle.moves.specs.Candidates.{all_lays, all_places, lay_of, lays_at, lays_of_tile, lays_on, place_at, places_in}
use Rattle.moves.specs.Exact.{LaysAreExact, TokensAreExact}
use Rattle.moves.specs.Listed.{AreListed, priced_if}
use Rattle.moves.specs.declared.priced.Priced.{Priced}
use Rattle.reach.specs.Position.{IsAmong}

-- what is found at a place is among a list
among_got : {A : Type 0} (xs : List A) (i : ℕ) (x : A) → slice_get xs i ≡ Some x → IsAmong x xs
among_got [] i x got = absurd (none-some x got)
among_got (y ∷ ys) zero x got = inl (let same : Some y ≡ Some x = got in cc)
among_got (y ∷ ys) (suc i) x got = inr (among_got ys i x got)

among_second : {A : Type 0} (xs ys : List A) (x : A) → IsAmong x ys → IsAmong x (xs ++ ys)
among_second [] ys x among = among
among_second (y ∷ xs) ys x among = inr (among_second xs ys x among)

-- what stands for one of a list is among what stands for all
among_each : {X A : Type 0} (f : X → List A) (xs : List X) (x : X) (one : A) → IsAmong x xs → IsAmong one (f x)
    → IsAmong one (flat_map f xs)
among_each f [] x one impossible its = absurd impossible
among_each f (y ∷ ys) x one (inl same) its =
    among_first (f y) (flat_map f ys) one (subst (λ z. IsAmong one (f z)) (sym same) its)
among_each f (y ∷ ys) x one (inr later) its = among_second (f y) (flat_map f ys) one (among_each f ys x one later its)

-- each rotation, and each way to swap the stops, is listed
rotation_listed : (rotation : Rotation) → IsAmong rotation rotations
rotation_listed Zero = inl refl
rotation_listed One = inr (inl refl)
rotation_listed Two = inr (inr (inl refl))
rotation_listed Three = inr (inr (inr (inl refl)))
rotation_listed Four = inr (inr (inr (inr (inl refl))))
rotation_listed Five = inr (inr (inr (inr (inr (inl refl)))))

swap_listed : (swap : Bool) → IsAmong swap (false ∷ true ∷ [])
swap_listed false = inl refl
swap_listed true = inr (inl refl)

stop_listed : (stop : Option StopNumber) → IsAmong stop (None ∷ Some First ∷ Some Second ∷ [])
stop_listed None = inl refl
stop_listed (Some First) = inr (inl refl)
stop_listed (Some Second) = inr (inr (inl refl))

hex_listed : HexesAreListedOnce → (hex : Hex) → IsAmong hex hexes
hex_listed all hex = let its : IsHexListed hex = all.1 hex in among_got hexes (index_of hex) hex its.there

tile_listed : TilesAreListedOnce → (tile : TileNo) → IsAmong tile tiles
tile_listed all tile =
    let its : IsTileListed tile = all.1 tile in among_got tiles (tile_index_of tile) tile its.there

-- so every lay and every place is a candidate
lay_listed : HexesAreListedOnce → TilesAreListedOnce → (lay : Lay) → IsAmong lay all_lays
lay_listed of_hexes of_tiles lay =
    among_each lays_on hexes lay.hex lay (hex_listed of_hexes lay.hex)
    (among_each (lays_of_tile lay.hex) tiles lay.tile lay (tile_listed of_tiles lay.tile)
    (among_each (lays_at lay.hex lay.tile) rotations lay.rot lay (rotation_listed lay.rot)
    (among_each (λ (swap : Bool). lay_of lay.hex lay.tile lay.rot swap ∷ []) (false ∷ true ∷ []) lay.swap lay
    (swap_listed lay.swap) (inl refl))))

place_listed : HexesAreListedOnce → (place : Place) → IsAmong place all_places
place_listed of_hexes place =
    among_each places_in hexes place.hex place (hex_listed of_hexes place.hex)
    (among_each (λ (stop : Option StopNumber). place_at place.hex stop ∷ []) (None ∷ Some First ∷ Some Second ∷ [])
    place.stop place (stop_listed place.stop) (inl refl))

module _ {A Fault : Type 0} (rules : A → Result ℤ Fault → Type 0) where
  -- what is listed is allowed
  sound : (candidates : List A) (listed : List (Priced A)) → AreListed rules candidates listed
      → (one : A) (price : ℤ) → IsAmong (record { what = one; price = price }) listed → rules one (Ok price)
  sound [] listed none one price among =
      absurd (subst (λ (l : List (Priced A)). IsAmong (record { what = one; price = price }) l) none among)
  sound (first ∷ more) listed (Ok cost, rest, answered, others, is) one price among =
      let its : Priced A = record { what = first; price = cost } in
      let wanted : Priced A = record { what = one; price = price } in
      elim (subst (λ (l : List (Priced A)). IsAmong wanted l) is among) [
        | inl same ↦ subst (λ (p : Priced A). rules p.what (Ok p.price)) same answered
        | inr later ↦ sound more rest others one price later
      ]
  sound (first ∷ more) listed (Err rule, rest, answered, others, is) one price among =
      sound more rest others one price
      (subst (λ (l : List (Priced A)). IsAmong (record { what = one; price = price }) l) is among)

  -- and what is allowed is listed, where each candidate has one verdict
  complete : ((one : A) (a b : Result ℤ Fault) → rules one a → rules one b → a ≡ b) → (candidates : List A)
      (listed : List (Priced A)) → AreListed rules candidates listed → (one : A) (price : ℤ) → IsAmong one candidates
      → rules one (Ok price) → IsAmong (record { what = one; price = price }) listed
  complete one_way [] listed none one price impossible allowed = absurd impossible
  complete one_way (first ∷ more) listed (answer, rest, answered, others, is) one price (inl same) allowed =
      let its : answer ≡ Ok price = one_way one answer (Ok price)
      (subst (λ (a : A). rules a answer) same answered) allowed in
      let entry : IsAmong (record { what = one; price = price }) (priced_if {Fault = Fault} one (Ok price) ++ rest) = inl refl in
      subst (λ (l : List (Priced A)). IsAmong (record { what = one; price = price }) l) (sym is)
      (subst (λ (a : Result ℤ Fault). IsAmong (record { what = one; price = price }) (priced_if first a ++ rest)) (sym its)
      (subst (λ (a : A). IsAmong (record { what = one; price = price }) (priced_if {Fault = Fault} a (Ok price) ++ rest))
      (sym same) entry))
  complete one_way (first ∷ more) listed (answer, rest, answered, others, is) one price (inr later) allowed =
      subst (λ (l : List (Priced A)). IsAmong (record { what = one; price = price }) l) (sym is)
      (among_second (priced_if first answer) rest (record { what = one; price = price })
      (complete one_way more rest others one price later allowed))

-- a lay has one verdict
pub one_lay_answer : (laid : MapState) (asker : Asker) (lay : Lay) → (a b : Result ℤ LayRule) → IsLayAnswer laid asker lay a
    → IsLayAnswer laid asker lay b → a ≡ b
one_lay_answer laid asker lay a b one other =
    one.given
    ∙ ap (cost_or (lay_cost_of laid.lays lay.hex))
    (same_break (map_rules laid asker lay) (lay_reach_rules laid asker lay) one.reached other.reached
    (λ none. same_tests {P = IsConnected (position_of (with_lay laid lay)) asker.company lay} one.reached other.reached
    (one.exact none) (other.exact none)))
    ∙ sym other.given

-- and so has a token
pub one_token_answer : (laid : MapState) (asker : Asker) (place : Place) → (a b : Result ℤ TokenRule) → IsTokenAnswer laid asker place a
    → IsTokenAnswer laid asker place b → a ≡ b
one_token_answer laid asker place a b one other =
    one.given
    ∙ ap (cost_or (token_cost_of laid.tokens asker place.hex))
    (same_break (slot_rules laid asker place) (token_reach_rules laid asker place) one.reached other.reached
    (λ none. same_tests {P = IsReachedPlace (position_of laid) asker.company place} one.reached other.reached
    (one.exact none) (other.exact none)))
    ∙ sym other.given

-- lists of lays are exact
pub lays_exact : HexesAreListedOnce → TilesAreListedOnce → LaysAreExact
lays_exact of_hexes of_tiles laid asker listed are lay price = (
  sound (IsLayAnswer laid asker) all_lays listed are lay price,
  complete (IsLayAnswer laid asker) (one_lay_answer laid asker) all_lays listed are lay price (lay_listed of_hexes of_tiles lay),
)

-- and so are those of tokens
pub tokens_exact : HexesAreListedOnce → TokensAreExact
tokens_exact of_hexes laid asker listed are place price = (
  sound (IsTokenAnswer laid asker) all_places listed are place price,
  complete (IsTokenAnswer laid asker) (one_token_answer laid asker) all_places listed are place price
      (place_listed of_hexes place),
)
