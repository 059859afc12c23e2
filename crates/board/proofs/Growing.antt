-- The slots of a city never become fewer by a tile of its kind and next colour.
use Rattle.std.proofs.Common.{◌≡◌, ◌∙◌, ap, sym, subst, refl, ℕ, ◌+◌, ◌≤◌, ◌||◌, Bool, true, false, not, cond, leb}
use Rattle.std.proofs.Common.{List, [], ◌∷◌, ◌++◌, get_or, reverse, Some, None, arith}
use Rattle.std.proofs.lemmas.Bool.{eqb-true, le-leb, leb-true, not-false, or_parts}
use Rattle.std.proofs.lemmas.List.Sorted.{IsPermutation-reverse, list_any-IsPermutation}
use Rattle.std.specs.List.{find, list_any}
use Rattle.std.specs.Prelude.{◌==◌}
use Rattle.map_tables.specs.Fit.{is_wrong_kind, place_of_tile_kind, takes}
use Rattle.map_tables.specs.OnMap.{by_tile, colour_on, is_stop, slots_at, slots_on, tile_on}
use Rattle.board.specs.LayRules.{is_wrong_colour, place_of_colour}
use Rattle.board_state.proofs.Tiles.{last_lies, lies_there}
use Rattle.map_tables.specs.Hex.{index_of, same_hex, hexes, site_of}
use Rattle.map_tables.specs.Place.{joined_stop_of}
use Rattle.map_tables.specs.Print.{Print, groups, plain_hexes, print_of}
use Rattle.map_tables.specs.Tile.{entry_of, printed}
use Rattle.map_tables.specs.declared.hex.Hex.{Hex}
use Rattle.map_tables.specs.declared.hex.Hex.TheVariants.{A9}
use Rattle.map_tables.specs.declared.lay.Lay.{Lay}
use Rattle.map_tables.specs.declared.place.Stop.{Stop}
use Rattle.map_tables.specs.declared.print.HexKind.{HexKind}
use Rattle.map_tables.specs.declared.print.HexKind.TheVariants.{Open, Grey, Red}
use Rattle.map_tables.specs.declared.tiles.Colour.{Colour}
use Rattle.map_tables.specs.declared.tiles.Colour.TheVariants.{White, Yellow, Green, Brown}
use Rattle.map_tables.specs.declared.tiles.TileKind.{TileKind}
use Rattle.map_tables.specs.declared.tiles.TileKind.TheVariants.{Plain, Town, TwoTowns, City, CityB, CitiesNY, CitiesOO}
use Rattle.map_tables.specs.declared.tiles.TileNo.{TileNo}
use Rattle.map_tables.specs.declared.tiles.TileNo.TheVariants.{T1}
use Rattle.map_tables.proofs.HexTables.{same_hex-true}

-- the slots of a city by its colour
city_slots : Colour → ℕ
city_slots White = 1
city_slots Yellow = 1
city_slots Green = 2
city_slots Brown = 2

-- and those of New York
york_slots : Colour → ℕ
york_slots White = 1
york_slots Yellow = 1
york_slots Green = 1
york_slots Brown = 2

-- the slots of each stop by kind and colour
slots_by : TileKind → Colour → ℕ
slots_by Plain colour = 0
slots_by Town colour = 0
slots_by TwoTowns colour = 0
slots_by City colour = city_slots colour
slots_by CityB colour = 1
slots_by CitiesNY colour = york_slots colour
slots_by CitiesOO colour = 1

-- those of a tile
of_tile : (tile : TileNo) → (entry_of tile).slots ≡ slots_by (entry_of tile).kind (entry_of tile).colour
unfolding printed slots_by city_slots york_slots
of_tile T1 = refl
of_tile _ = refl

-- whether those of a print are so
as_printed : HexKind → Print → Bool
as_printed (Open kind) print = print.slots == slots_by kind print.colour
as_printed Grey print = true
as_printed Red print = true

of_print : (hex : Hex) → as_printed (print_of hex).kind (print_of hex) ≡ true
unfolding index_of hexes site_of groups plain_hexes print_of slots_by city_slots york_slots as_printed
of_print A9 = refl
of_print _ = refl

-- the kinds, in order
kinds : List TileKind
kinds = Plain ∷ Town ∷ TwoTowns ∷ City ∷ CityB ∷ CitiesNY ∷ CitiesOO ∷ []

at_place : (kind : TileKind) → get_or kinds (place_of_tile_kind kind) Plain ≡ kind
unfolding kinds
at_place Plain = refl
at_place kind = refl

-- a hex that takes a tile is of its kind
takes_is : (hex : HexKind) (kind : TileKind) → takes hex kind ≡ true → hex ≡ Open kind
takes_is (Open own) kind same =
    let place : place_of_tile_kind own ≡ place_of_tile_kind kind =
    eqb-true (place_of_tile_kind own) (place_of_tile_kind kind) same in
    ap Open (sym (at_place own) ∙ ap (λ n. get_or kinds n Plain) place ∙ at_place kind)
takes_is Grey kind same = cc
takes_is Red kind same = cc

-- so the print of a tile's hex has its kind
pub kind_is : (lay : Lay) → is_wrong_kind lay ≡ false → (print_of lay.hex).kind ≡ Open (entry_of lay.tile).kind
unfolding is_wrong_kind
kind_is lay right =
    let hex = (print_of lay.hex).kind in
    let kind = (entry_of lay.tile).kind in
    takes_is hex kind (not-false (takes hex kind) (or_parts (not (takes hex kind)) _ right).0)

-- what is found is as none of a list is not
find_right : (p test : Lay → Bool) (lays : List Lay) (lay : Lay) → list_any p lays ≡ false → find test lays ≡ Some lay
    → p lay ≡ false
find_right p test [] lay none found = cc
find_right p test (x ∷ xs) lay none found =
    let parts = or_parts (p x) (list_any p xs) none in
    (elim (test x) as (λ b. cond b (Some x) (find test xs) ≡ Some lay → p lay ≡ false) [
      | true ↦ λ here. let is : x ≡ lay = cc in sym (ap p is) ∙ parts.0
      | false ↦ λ later. find_right p test xs lay parts.1 later
    ]) found

-- where no tile is of a wrong kind, that which lies on a hex is not
pub on_map_right : (lays : List Lay) (hex : Hex) (lay : Lay) → list_any is_wrong_kind lays ≡ false
    → tile_on lays hex ≡ Some lay → is_wrong_kind lay ≡ false
unfolding tile_on
on_map_right lays hex lay right lies =
    find_right is_wrong_kind (λ l. same_hex l.hex hex) (reverse lays) lay
    (sym (list_any-IsPermutation is_wrong_kind lays (reverse lays) (IsPermutation-reverse lays)) ∙ right) lies

-- the slots of a hex of a kind are those of its colour
slots_are : (lays : List Lay) (hex : Hex) (kind : TileKind) → (print_of hex).kind ≡ Open kind
    → list_any is_wrong_kind lays ≡ false → slots_on lays hex ≡ slots_by kind (colour_on lays hex)
unfolding as_printed
slots_are lays hex kind open_kind right =
    (elim (tile_on lays hex) as (λ on_map. tile_on lays hex ≡ on_map
    → by_tile (print_of hex).slots (λ (lay : Lay). (entry_of lay.tile).slots) on_map
    ≡ slots_by kind (by_tile (print_of hex).colour (λ (lay : Lay). (entry_of lay.tile).colour) on_map)) [
      | None ↦ λ e. eqb-true (print_of hex).slots (slots_by kind (print_of hex).colour)
          (ap (λ k. as_printed k (print_of hex)) (sym open_kind) ∙ of_print hex)
      | Some lay ↦ λ e.
          let there : lay.hex ≡ hex = same_hex-true lay.hex hex (lies_there lays hex lay e) in
          let own = kind_is lay (on_map_right lays hex lay right e) in
          let same : Open (entry_of lay.tile).kind ≡ Open kind =
          sym own ∙ ap (λ (h : Hex). (print_of h).kind) there ∙ open_kind in
          let is : (entry_of lay.tile).kind ≡ kind = cc in
          of_tile lay.tile ∙ ap (λ k. slots_by k (entry_of lay.tile).colour) is
    ]) refl

-- no fewer with the next colour
test_city : (a b : Colour) → (not (leb (place_of_colour a) (place_of_colour b)) || leb (city_slots a) (city_slots b))
    ≡ true
unfolding city_slots
test_city White White = refl
test_city White b = refl
test_city Yellow White = refl
test_city Yellow b = refl
test_city Green White = refl
test_city Green b = refl
test_city Brown White = refl
test_city Brown b = refl

test_york : (a b : Colour) → (not (leb (place_of_colour a) (place_of_colour b)) || leb (york_slots a) (york_slots b))
    ≡ true
unfolding york_slots
test_york White White = refl
test_york White b = refl
test_york Yellow White = refl
test_york Yellow b = refl
test_york Green White = refl
test_york Green b = refl
test_york Brown White = refl
test_york Brown b = refl

-- an implication as a test
implied : (x y : Bool) → (not x || y) ≡ true → x ≡ true → y ≡ true
implied true y test is = test
implied false y test is = cc

no_fewer : (kind : TileKind) (a b : Colour) → place_of_colour a ≤ place_of_colour b → slots_by kind a ≤ slots_by kind b
unfolding slots_by
no_fewer Plain a b le = omega arith
no_fewer Town a b le = omega arith
no_fewer TwoTowns a b le = omega arith
no_fewer City a b le = leb-true (city_slots a) (city_slots b)
    (implied (leb (place_of_colour a) (place_of_colour b)) (leb (city_slots a) (city_slots b)) (test_city a b)
    (le-leb (place_of_colour a) (place_of_colour b) le))
no_fewer CityB a b le = omega arith
no_fewer CitiesNY a b le = leb-true (york_slots a) (york_slots b)
    (implied (leb (place_of_colour a) (place_of_colour b)) (leb (york_slots a) (york_slots b)) (test_york a b)
    (le-leb (place_of_colour a) (place_of_colour b) le))
no_fewer CitiesOO a b le = omega arith

-- the tile has no fewer slots than its hex had
grows : (lays : List Lay) (lay : Lay) → list_any is_wrong_kind lays ≡ false → is_wrong_kind lay ≡ false
    → is_wrong_colour lays lay ≡ false → slots_on lays lay.hex ≤ (entry_of lay.tile).slots
unfolding is_wrong_colour
grows lays lay right own next =
    let kind = (entry_of lay.tile).kind in
    let new = (entry_of lay.tile).colour in
    let old = colour_on lays lay.hex in
    let next_place : place_of_colour new ≡ place_of_colour old + 1 =
    eqb-true (place_of_colour new) (place_of_colour old + 1)
    (not-false (place_of_colour new == place_of_colour old + 1) next) in
    let before : slots_on lays lay.hex ≡ slots_by kind old = slots_are lays lay.hex kind (kind_is lay own) right in
    let after : (entry_of lay.tile).slots ≡ slots_by kind new = of_tile lay.tile in
    let more : slots_by kind old ≤ slots_by kind new = no_fewer kind old new (omega arith) in
    rw (before, after) more

-- so no hex has fewer
hex_grows : (lays : List Lay) (lay : Lay) (hex : Hex) → list_any is_wrong_kind lays ≡ false
    → is_wrong_kind lay ≡ false → is_wrong_colour lays lay ≡ false → slots_on lays hex ≤ slots_on (lays ++ lay ∷ []) hex
hex_grows lays lay hex right own next =
    let slots = by_tile (print_of hex).slots (λ (l : Lay). (entry_of l.tile).slots) in
    subst (λ on_map. slots_on lays hex ≤ slots on_map) (sym (last_lies lays lay hex)) (
    (elim (same_hex lay.hex hex) as (λ b. same_hex lay.hex hex ≡ b
    → slots_on lays hex ≤ slots (cond b (Some lay) (tile_on lays hex))) [
      | true ↦ λ same. subst (λ (h : Hex). slots_on lays h ≤ (entry_of lay.tile).slots) (same_hex-true lay.hex hex same)
          (grows lays lay right own next)
      | false ↦ λ other. omega arith
    ]) refl
    )

-- and no stop
pub stop_grows : (lays : List Lay) (lay : Lay) (stop : Stop) → list_any is_wrong_kind lays ≡ false
    → is_wrong_kind lay ≡ false → is_wrong_colour lays lay ≡ false
    → slots_at lays stop ≤ slots_at (lays ++ lay ∷ []) stop
stop_grows lays lay stop right own next =
    let hex = (joined_stop_of stop).hex in
    elim (is_stop (joined_stop_of stop)) as (λ b. cond b (slots_on lays hex) 0
    ≤ cond b (slots_on (lays ++ lay ∷ []) hex) 0) [
      | true ↦ hex_grows lays lay hex right own next
      | false ↦ omega arith
    ]
