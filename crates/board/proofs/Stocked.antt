-- A lay takes one tile from the stock at most.
use Rattle.std.proofs.Common.{◌≡◌, ◌∙◌, ap, sym, subst, refl, ◌+◌, ◌≤◌, ◌⊎◌, inl, inr, Bool, true, false, cond, List}
use Rattle.std.proofs.Common.{[], ◌∷◌, ◌++◌, get_or, Some, arith}
use Rattle.std.proofs.lemmas.Bool.{eqb-true, leb-false}
use Rattle.std.proofs.lemmas.List.Sums.{sum_by-cons}
use Rattle.std.specs.List.{count_by}
use Rattle.std.specs.Prelude.{◌==◌}
use Rattle.map_tables.specs.OnMap.{tile_on}
use Rattle.board.specs.LayRules.{map_rules, is_none_left, is_tile, on_map_of}
use Rattle.board.specs.Stock.{LayKeepsStock}
use Rattle.board.proofs.KeptHomes.{count_le}
use Rattle.board_state.proofs.Tiles.{last_lies}
use Rattle.map_tables.specs.Hex.{hexes, index_of, same_hex, site_of}
use Rattle.map_tables.specs.RuleCodes.{code_of_lay_rule}
use Rattle.map_tables.specs.Tile.{entry_of, tile_index_of, tiles, number_of_tile, printed}
use Rattle.map_tables.specs.declared.hex.Hex.{Hex}
use Rattle.map_tables.specs.declared.hex.Hex.TheVariants.{A9}
use Rattle.map_tables.specs.declared.lay.Lay.{Lay}
use Rattle.map_tables.specs.declared.rules.LayRule.TheVariants.{NoneLeft}
use Rattle.map_tables.specs.declared.tiles.TileNo.{TileNo}
use Rattle.map_tables.specs.declared.tiles.TileNo.TheVariants.{T1}
use Rattle.tables.proofs.Rules.{not_broken}

-- a tile is at its place
at_place : (tile : TileNo) → get_or tiles (tile_index_of tile) T1 ≡ tile
unfolding tiles tile_index_of number_of_tile printed
at_place T1 = refl
at_place _ = refl

-- tiles with one place are one
tile_is : (a b : TileNo) → (tile_index_of a == tile_index_of b) ≡ true → a ≡ b
tile_is a b same =
    sym (at_place a) ∙ ap (λ n. get_or tiles n T1) (eqb-true (tile_index_of a) (tile_index_of b) same) ∙ at_place b

-- each hex is one of the map's once
pub once : (hex : Hex) → count_by (same_hex hex) hexes ≡ 1
unfolding hexes index_of site_of
once A9 = refl
once _ = refl

-- one for a test that passes, where one of two does as well
one_of_two : (a b c : Bool) → (a ≡ true → (b ≡ true) ⊎ (c ≡ true)) → cond a 1 0 ≤ cond b 1 0 + cond c 1 0
one_of_two true b c implied =
    elim (implied refl) [
      | inl is ↦ rw is (omega arith)
      | inr is ↦ rw is (omega arith)
    ]
one_of_two false b c implied = omega arith

-- those that pass a test pass one of two
count_either : {X : Type 0} (p q r : X → Bool) (xs : List X) → ((x : X) → p x ≡ true → (q x ≡ true) ⊎ (r x ≡ true))
    → count_by p xs ≤ count_by q xs + count_by r xs
count_either p q r [] implied = omega arith
count_either p q r (x ∷ xs) implied =
    let first : count_by p (x ∷ xs) ≡ cond (p x) 1 0 + count_by p xs = sum_by-cons (λ y. cond (p y) 1 0) x xs in
    let second : count_by q (x ∷ xs) ≡ cond (q x) 1 0 + count_by q xs = sum_by-cons (λ y. cond (q y) 1 0) x xs in
    let third : count_by r (x ∷ xs) ≡ cond (r x) 1 0 + count_by r xs = sum_by-cons (λ y. cond (r y) 1 0) x xs in
    let here = one_of_two (p x) (q x) (r x) (implied x) in
    let later = count_either p q r xs implied in
    rw (first, second, third) (omega arith)

-- a tile that lies after a lay lay before, or it is the one laid
lay_or_before : (lays : List Lay) (lay : Lay) (tile : TileNo) (hex : Hex)
    → is_tile tile (tile_on (lays ++ lay ∷ []) hex) ≡ true
    → (is_tile tile (tile_on lays hex) ≡ true) ⊎ (same_hex lay.hex hex ≡ true)
lay_or_before lays lay tile hex lies =
    (elim (same_hex lay.hex hex) as (λ b. is_tile tile (cond b (Some lay) (tile_on lays hex)) ≡ true
    → (is_tile tile (tile_on lays hex) ≡ true) ⊎ (b ≡ true)) [
      | true ↦ λ here. inr refl
      | false ↦ λ before. inl before
    ]) (ap (is_tile tile) (sym (last_lies lays lay hex)) ∙ lies)

-- a tile of another number lay before
before_lay : (lays : List Lay) (lay : Lay) (tile : TileNo) (hex : Hex)
    → (tile_index_of lay.tile == tile_index_of tile) ≡ false → is_tile tile (tile_on (lays ++ lay ∷ []) hex) ≡ true
    → is_tile tile (tile_on lays hex) ≡ true
before_lay lays lay tile hex other lies =
    (elim (same_hex lay.hex hex) as (λ b. is_tile tile (cond b (Some lay) (tile_on lays hex)) ≡ true
    → is_tile tile (tile_on lays hex) ≡ true) [
      | true ↦ λ here. cc
      | false ↦ λ before. before
    ]) (ap (is_tile tile) (sym (last_lies lays lay hex)) ∙ lies)

-- so at most one more of the tile's number lies
one_more : (lays : List Lay) (lay : Lay) (tile : TileNo) → on_map_of (lays ++ lay ∷ []) tile ≤ on_map_of lays tile + 1
unfolding on_map_of
one_more lays lay tile =
    let both = count_either (λ hex. is_tile tile (tile_on (lays ++ lay ∷ []) hex))
    (λ hex. is_tile tile (tile_on lays hex)) (same_hex lay.hex) hexes (lay_or_before lays lay tile) in
    let one = once lay.hex in
    omega arith

-- and no more of another
no_more : (lays : List Lay) (lay : Lay) (tile : TileNo) → (tile_index_of lay.tile == tile_index_of tile) ≡ false
    → on_map_of (lays ++ lay ∷ []) tile ≤ on_map_of lays tile
unfolding on_map_of
no_more lays lay tile other =
    count_le (λ hex. is_tile tile (tile_on (lays ++ lay ∷ []) hex)) (λ hex. is_tile tile (tile_on lays hex)) hexes
    (λ hex lies. before_lay lays lay tile hex other lies)

-- a tile that is left
left : (lays : List Lay) (tile : TileNo) → is_none_left lays tile ≡ false
    → on_map_of lays tile + 1 ≤ (entry_of tile).count
unfolding is_none_left
left lays tile some =
    let low = leb-false (entry_of tile).count (on_map_of lays tile) some in omega arith

pub lay_keeps_stock : LayKeepsStock
lay_keeps_stock laid asker lay stocked none tile =
    let kept = not_broken code_of_lay_rule (map_rules laid asker lay) none in
    let has = left laid.lays lay.tile (kept NoneLeft) in
    (elim (tile_index_of lay.tile == tile_index_of tile) as
    (λ b. (tile_index_of lay.tile == tile_index_of tile) ≡ b
    → on_map_of (laid.lays ++ lay ∷ []) tile ≤ (entry_of tile).count) [
      | true ↦ λ same.
          let more = one_more laid.lays lay tile in
          let enough : on_map_of laid.lays tile + 1 ≤ (entry_of tile).count =
          subst (λ (t : TileNo). on_map_of laid.lays t + 1 ≤ (entry_of t).count) (tile_is lay.tile tile same) has in
          omega arith
      | false ↦ λ other.
          let no = no_more laid.lays lay tile other in
          let before = stocked tile in
          omega arith
    ]) refl
