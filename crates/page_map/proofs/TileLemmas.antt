-- How many tiles of a number are left, by the tile on each hex.
use Rattle.std.proofs.Common.{◌≡◌, ℕ, ◌+◌, ◌-◌, Bool, cond, List, [], ◌∷◌, Option, map, refl, sym, ap, ◌∙◌}
use Rattle.std.specs.List.{count_by}
use Rattle.std.proofs.lemmas.List.Sums.{sum_by-cons}
use Rattle.board.specs.LayRules.{is_tile, on_map_of}
use Rattle.desk_base.specs.StockLeft.{tiles_left}
use Rattle.map_tables.specs.Hex.{hexes}
use Rattle.map_tables.specs.OnMap.{tile_on}
use Rattle.map_tables.specs.Tile.{entry_of}
use Rattle.map_tables.specs.declared.lay.Lay.{Lay}
use Rattle.map_tables.specs.declared.tiles.TileNo.{TileNo}

-- those of some values that pass a test
count_of_map : {X Y : Type 0} (test : Y → Bool) (f : X → Y) (xs : List X)
    → count_by test (map f xs) ≡ count_by (λ x. test (f x)) xs
count_of_map test f [] = refl
count_of_map test f (x ∷ xs) =
    sum_by-cons (λ y. cond (test y) 1 0) (f x) (map f xs)
    ∙ ap (λ (n : ℕ). cond (test (f x)) 1 0 + n) (count_of_map test f xs)
    ∙ sym (sum_by-cons (λ z. cond (test (f z)) 1 0) x xs)

pub left_by_shown : (lays : List Lay) (shown : List (Option Lay)) (number : TileNo) → shown ≡ map (tile_on lays) hexes
    → (entry_of number).count - count_by (is_tile number) shown ≡ tiles_left lays number
unfolding on_map_of
left_by_shown lays shown number is =
    ap (λ (n : ℕ). (entry_of number).count - n)
    (ap (count_by (is_tile number)) is ∙ count_of_map (is_tile number) (tile_on lays) hexes)
