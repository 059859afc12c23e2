-- The tiles of a number on the map and in the stock, after a lay and after a company's turn.
use Rattle.std.proofs.Common.{◌≡◌, ℕ, ◌+◌, ◌≤◌, Bool, true, false, ◌&&◌, cond, List, [], ◌∷◌, ◌++◌, Option, Some, ℤ}
use Rattle.std.proofs.Common.{pos, ◌+ℤ◌, ◌-ℤ◌}
use Rattle.std.proofs.Common.{◌≤ℤ◌, refl, sym, ap, subst, ◌∙◌, arith}
use Rattle.std.proofs.lemmas.Bool.{eqb-true}
use Rattle.std.proofs.lemmas.Int.{ints}
use Rattle.std.proofs.lemmas.List.{append-nil, reverse-append, reverse-reverse}
use Rattle.std.proofs.lemmas.List.Sums.{sum_by-cons, sum_by_push}
use Rattle.std.specs.List.{cons_option, count_by}
use Rattle.board.proofs.Stocked.{lay_keeps_stock, once}
use Rattle.board_state.proofs.Tiles.{last_lies}
use Rattle.map_tables.specs.OnMap.{tile_on}
use Rattle.board.specs.LayRules.{is_tile, on_map_of}
use Rattle.events.specs.declared.event.Event.{Event}
use Rattle.events.specs.declared.event.Event.TheVariants as event
use Rattle.totals.proofs.InOrder.{lays_grow}
use Rattle.totals.specs.LookBack.{Game, with_event}
use Rattle.totals.specs.Operating.{lays_of}
use Rattle.map_tables.specs.Hex.{hexes, index_of, same_hex}
use Rattle.map_tables.specs.Tile.{entry_of}
use Rattle.map_tables.specs.declared.hex.Hex.{Hex}
use Rattle.map_tables.specs.declared.lay.Lay.{Lay}
use Rattle.map_tables.specs.declared.tiles.TileNo.{TileNo}
use Rattle.purchases.proofs.AgreedSales.{train_agreed}
use Rattle.purchases.proofs.TrainSteps.{IsPassedOn}
use Rattle.operating.proofs.ForcedGames.{of_game_turn}
use Rattle.operating.proofs.TurnGames.{of_purchase}
use Rattle.operating.specs.MapState.{map_state_now}
use Rattle.purchases.specs.Train.{purchase_of}
use Rattle.operating.specs.TileLaws.{LaysKeepTiles, OthersKeepTiles, TilesAreAll, TilesAreAllAtFirst, TurnsKeepTiles}
use Rattle.operating.specs.TileLaws.{returned_by, returned_of, stock_of, taken_of}
use Rattle.reach.proofs.Hexes.{same_index}

-- nothing is counted by a test that nothing passes
counts_none : {X : Type 0} (xs : List X) → count_by (λ x. false) xs ≡ 0
counts_none [] = refl
counts_none (x ∷ xs) = omega (arith, sum_by-cons (λ y. 0) x xs, counts_none xs)

-- a hex is counted once, where something holds
counts_where : (holds : Bool) (hex : Hex) → count_by (λ other. holds && same_hex hex other) hexes ≡ cond holds 1 0
counts_where true hex = once hex
counts_where false hex = counts_none hexes

-- counts that agree at each place agree
counts_agree : {X : Type 0} (a b c d : X → Bool) (xs : List X) →
    ((x : X) → cond (a x) 1 0 + cond (b x) 1 0 ≡ cond (c x) 1 0 + cond (d x) 1 0) →
    count_by a xs + count_by b xs ≡ count_by c xs + count_by d xs
counts_agree a b c d [] each = refl
counts_agree a b c d (x ∷ xs) each =
    let first : count_by a (x ∷ xs) ≡ cond (a x) 1 0 + count_by a xs = sum_by-cons (λ y. cond (a y) 1 0) x xs in
    let second : count_by b (x ∷ xs) ≡ cond (b x) 1 0 + count_by b xs = sum_by-cons (λ y. cond (b y) 1 0) x xs in
    let third : count_by c (x ∷ xs) ≡ cond (c x) 1 0 + count_by c xs = sum_by-cons (λ y. cond (c y) 1 0) x xs in
    let fourth : count_by d (x ∷ xs) ≡ cond (d x) 1 0 + count_by d xs = sum_by-cons (λ y. cond (d y) 1 0) x xs in
    let here = each x in
    let later = counts_agree a b c d xs each in
    rw (first, second, third, fourth) (omega arith)

-- one for another, and none for none
one_for_one : (new old : Bool) → cond new 1 0 + cond (old && true) 1 0 ≡ cond old 1 0 + cond (new && true) 1 0
one_for_one true true = refl
one_for_one true false = refl
one_for_one false true = refl
one_for_one false false = refl

none_for_none : (new old there : Bool) → cond there 1 0 + cond (old && false) 1 0
    ≡ cond there 1 0 + cond (new && false) 1 0
none_for_none true true there = refl
none_for_none true false there = refl
none_for_none false true there = refl
none_for_none false false there = refl

module _ (lays : List Lay) (lay : Lay) (tile : TileNo) where
  -- whether the tile that is laid is of the number, and whether that which it replaces is
  abbrev laid : Bool
  laid = is_tile tile (Some lay)

  abbrev replaced : Bool
  replaced = is_tile tile (tile_on lays lay.hex)

  -- a tile lies on the lay's hex, and as before on each other
  at_hex : (hex : Hex) → (same : Bool) → same_hex lay.hex hex ≡ same →
      cond (is_tile tile (cond same (Some lay) (tile_on lays hex))) 1 0 + cond (replaced && same) 1 0
      ≡ cond (is_tile tile (tile_on lays hex)) 1 0 + cond (laid && same) 1 0
  at_hex hex true here =
      subst (λ (h : Hex). cond laid 1 0 + cond (replaced && true) 1 0
      ≡ cond (is_tile tile (tile_on lays h)) 1 0 + cond (laid && true) 1 0)
      (same_index lay.hex hex (eqb-true (index_of lay.hex) (index_of hex) here)) (one_for_one laid replaced)
  at_hex hex false apart = none_for_none laid replaced (is_tile tile (tile_on lays hex))

  -- as many of the number lie after a lay as before, with the tile that is laid, without that which
  -- it replaces
  lie_then : on_map_of (lays ++ lay ∷ []) tile + cond replaced 1 0 ≡ on_map_of lays tile + cond laid 1 0
  unfolding on_map_of
  lie_then =
      let all = counts_agree (λ hex. is_tile tile (tile_on (lays ++ lay ∷ []) hex))
      (λ hex. replaced && same_hex lay.hex hex)
      (λ hex. is_tile tile (tile_on lays hex)) (λ hex. laid && same_hex lay.hex hex) hexes
      (λ hex. ap (λ (found : Option Lay). cond (is_tile tile found) 1 0 + cond (replaced && same_hex lay.hex hex) 1 0)
      (last_lies lays lay hex)
      ∙ at_hex hex (same_hex lay.hex hex) refl) in
      ap (λ (n : ℕ). on_map_of (lays ++ lay ∷ []) tile + n) (sym (counts_where replaced lay.hex))
      ∙ all ∙ ap (λ (n : ℕ). on_map_of lays tile + n) (counts_where laid lay.hex)

  -- the stock has one less of the tile that is laid, and one more of that which it replaces
  taken_then : taken_of (lays ++ lay ∷ []) tile ≡ taken_of lays tile + cond laid 1 0
  taken_then = sum_by_push (λ one. cond (is_tile tile (Some one)) 1 0) lays lay

  returned_then : returned_of (lays ++ lay ∷ []) tile ≡ returned_of lays tile + cond replaced 1 0
  returned_then =
      ap (returned_by tile) (reverse-append lays (lay ∷ []))
      ∙ ap (λ (before : List Lay). returned_of lays tile + cond (is_tile tile (tile_on before lay.hex)) 1 0)
      (reverse-reverse lays)

-- of each number those on the map and those in the stock are as many as the manifest has
record AreAll (lays : List Lay) : Type 0 where
  all : (tile : TileNo) → pos (on_map_of lays tile) +ℤ stock_of lays tile ≡ pos (entry_of tile).count
  owes_none : (tile : TileNo) → pos 0 ≤ℤ stock_of lays tile

-- so it is by any list with the same lays
same_tiles : (events : List Event) (lays : List Lay) → lays_of events ≡ lays → AreAll lays → TilesAreAll events
same_tiles events lays same tiles =
    let here = subst AreAll (sym same) tiles in record { all = here.all; owes_none = here.owes_none }

-- no tile lies at first
none_lie : (tile : TileNo) → on_map_of [] tile ≡ 0
unfolding on_map_of tile_on
none_lie tile = counts_none hexes

pub tiles_at_first : TilesAreAllAtFirst
tiles_at_first =
    record { all = λ tile. omega (arith, ints, none_lie tile); owes_none = λ tile. omega (arith, ints) }

-- an event that lays no tile leaves them
pub others_keep_tiles : OthersKeepTiles
others_keep_tiles events event none tiles =
    same_tiles (events ++ event ∷ []) (lays_of events)
    (lays_grow events event ∙ ap (λ (found : Option Lay). lays_of events ++ cons_option found []) none
    ∙ append-nil (lays_of events))
    (record { all = tiles.all; owes_none = tiles.owes_none })

-- the sums of a stock and of the tiles and tokens
module _ (count on_map taken returned new old on_map_then taken_then returned_then : ℕ) where
  sums_stay : on_map_then + old ≡ on_map + new → taken_then ≡ taken + new → returned_then ≡ returned + old →
      pos on_map +ℤ ((pos count -ℤ pos taken) +ℤ pos returned) ≡ pos count →
      pos on_map_then +ℤ ((pos count -ℤ pos taken_then) +ℤ pos returned_then) ≡ pos count
  sums_stay lie took back all = omega (arith, ints, lie, took, back, all)

-- a stock owes none where no more lie than there are
stocked : (count on_map : ℕ) (stock : ℤ) → pos on_map +ℤ stock ≡ pos count → pos 0 ≤ℤ stock → on_map ≤ count
stocked count on_map stock all owes = omega (arith, ints, all, owes)

owes : (count on_map : ℕ) (stock : ℤ) → pos on_map +ℤ stock ≡ pos count → on_map ≤ count → pos 0 ≤ℤ stock
owes count on_map stock all few = omega (arith, ints, all, few)

-- a lay by the rules takes a tile that is there
pub lays_keep_tiles : LaysKeepTiles
lays_keep_tiles game company asker lay cost rules tiles =
    let lays = lays_of game.events in
    let few = lay_keeps_stock (map_state_now game.events) asker lay
    (λ tile. stocked (entry_of tile).count (on_map_of lays tile) (stock_of lays tile) (tiles.all tile)
    (tiles.owes_none tile)) rules in
    let all = λ (tile : TileNo). sums_stay (entry_of tile).count (on_map_of lays tile) (taken_of lays tile)
    (returned_of lays tile)
    (cond (laid lays lay tile) 1 0) (cond (replaced lays lay tile) 1 0)
    (on_map_of (lays ++ lay ∷ []) tile) (taken_of (lays ++ lay ∷ []) tile) (returned_of (lays ++ lay ∷ []) tile)
    (lie_then lays lay tile) (taken_then lays lay tile) (returned_then lays lay tile) (tiles.all tile) in
    same_tiles (with_event game (event.Laid company lay cost)).events (lays ++ lay ∷ [])
    (lays_grow game.events (event.Laid company lay cost))
    (record {
      all = all;
      owes_none = λ tile. owes (entry_of tile).count (on_map_of (lays ++ lay ∷ []) tile)
          (stock_of (lays ++ lay ∷ []) tile) (all tile) (few tile);
    })

-- the tiles are all there in a later game if they were before
abbrev StillAll : Game → Game → Type 0
StillAll before after = TilesAreAll before.events → TilesAreAll after.events

-- so it is in a turn
pub turns_keep_tiles : TurnsKeepTiles
turns_keep_tiles file round company old new turn =
    let on : IsPassedOn StillAll = record {
      same = λ game tiles. tiles;
      both =
          λ a b c one two tiles. two (one tiles);
    } in
    of_game_turn company StillAll
    (record {
      on = on;
      others = λ game its is no_tile no_train no_phase tiles. others_keep_tiles game.events its no_tile tiles;
      lays = λ game asker lay cost rules tiles. lays_keep_tiles game company asker lay cost rules tiles;
      purchases = λ game kind from rules. of_purchase company StillAll on
          (λ now its is no_tile tiles. others_keep_tiles now.events its no_tile tiles) game (purchase_of kind from)
          (train_agreed company game kind from rules);
    })
    (λ game its is no_tile no_train no_phase tiles. others_keep_tiles game.events its no_tile tiles)
    file round old new turn
