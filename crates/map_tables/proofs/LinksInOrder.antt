-- The links of prints and tiles are in order.
use Rattle.std.proofs.Common.{◌≡◌, ◌&&◌, Bool, true, false, leb, List, [], ◌∷◌, length, refl}
use Rattle.std.proofs.lemmas.Bool.{leb-true, and_parts}
use Rattle.map_tables.specs.declared.hex.Hex.{Hex}
use Rattle.map_tables.specs.declared.hex.Hex.TheVariants.{A9}
use Rattle.map_tables.specs.declared.side.Rotation.{Rotation}
use Rattle.map_tables.specs.declared.side.Rotation.TheVariants.{Zero, One, Two, Three, Four, Five}
use Rattle.map_tables.specs.declared.tiles.TileNo.{TileNo}
use Rattle.map_tables.specs.declared.tiles.TileNo.TheVariants.{T1}
use Rattle.map_tables.specs.declared.track.TrackSegment.{TrackSegment}
use Rattle.map_tables.specs.declared.track.Link.{Link}
use Rattle.map_tables.specs.declared.lay.Lay.{Lay}
use Rattle.map_tables.specs.Hex.{index_of, hexes, site_of}
use Rattle.map_tables.specs.Track.{links_in}
use Rattle.map_tables.specs.Print.{groups, plain_hexes, print_of, printed_links_of}
use Rattle.map_tables.specs.Tile.{printed}
use Rattle.map_tables.specs.Lay.{laid_track_of, laid_links_of}
use Rattle.map_tables.specs.Laws.{are_links, AreLinksOf, LieIn}

-- whether these are links in order, and not too many
are_fit : List Link → Bool
are_fit links = are_links links && leb (length links) 6

-- the links that track makes in a hex lie in that hex
here : (hex : Hex) (track : List TrackSegment) → LieIn hex (links_in hex track)
here hex [] = tt
here hex (s ∷ ss) = (refl, here hex ss)

links_of : (hex : Hex) (track : List TrackSegment) → are_fit (links_in hex track) ≡ true
    → AreLinksOf hex (links_in hex track)
unfolding are_fit
links_of hex track fit =
    let parts = and_parts (are_links (links_in hex track)) (leb (length (links_in hex track)) 6) fit in
    record { in_order = parts.0; here = here hex track; few = leb-true (length (links_in hex track)) 6 parts.1 }

printed_fit : (hex : Hex) → are_fit (printed_links_of hex) ≡ true
unfolding are_fit index_of hexes site_of groups plain_hexes print_of printed_links_of
printed_fit A9 = refl
printed_fit _ = refl

pub printed_links : (hex : Hex) → AreLinksOf hex (printed_links_of hex)
unfolding printed_links_of
printed_links hex = links_of hex (print_of hex).track (printed_fit hex)

lay : Hex → TileNo → Rotation → Bool → Lay
lay hex tile rot swap = record { hex = hex; tile = tile; rot = rot; swap = swap }

fit_zero_false : (hex : Hex) (tile : TileNo) → are_fit (laid_links_of (lay hex tile Zero false)) ≡ true
unfolding are_fit lay printed laid_track_of laid_links_of
fit_zero_false hex T1 = refl
fit_zero_false hex _ = refl

fit_one_false : (hex : Hex) (tile : TileNo) → are_fit (laid_links_of (lay hex tile One false)) ≡ true
unfolding are_fit lay printed laid_track_of laid_links_of
fit_one_false hex T1 = refl
fit_one_false hex _ = refl

fit_two_false : (hex : Hex) (tile : TileNo) → are_fit (laid_links_of (lay hex tile Two false)) ≡ true
unfolding are_fit lay printed laid_track_of laid_links_of
fit_two_false hex T1 = refl
fit_two_false hex _ = refl

fit_three_false : (hex : Hex) (tile : TileNo) → are_fit (laid_links_of (lay hex tile Three false)) ≡ true
unfolding are_fit lay printed laid_track_of laid_links_of
fit_three_false hex T1 = refl
fit_three_false hex _ = refl

fit_four_false : (hex : Hex) (tile : TileNo) → are_fit (laid_links_of (lay hex tile Four false)) ≡ true
unfolding are_fit lay printed laid_track_of laid_links_of
fit_four_false hex T1 = refl
fit_four_false hex _ = refl

fit_five_false : (hex : Hex) (tile : TileNo) → are_fit (laid_links_of (lay hex tile Five false)) ≡ true
unfolding are_fit lay printed laid_track_of laid_links_of
fit_five_false hex T1 = refl
fit_five_false hex _ = refl

fit_zero_true : (hex : Hex) (tile : TileNo) → are_fit (laid_links_of (lay hex tile Zero true)) ≡ true
unfolding are_fit lay printed laid_track_of laid_links_of
fit_zero_true hex T1 = refl
fit_zero_true hex _ = refl

fit_one_true : (hex : Hex) (tile : TileNo) → are_fit (laid_links_of (lay hex tile One true)) ≡ true
unfolding are_fit lay printed laid_track_of laid_links_of
fit_one_true hex T1 = refl
fit_one_true hex _ = refl

fit_two_true : (hex : Hex) (tile : TileNo) → are_fit (laid_links_of (lay hex tile Two true)) ≡ true
unfolding are_fit lay printed laid_track_of laid_links_of
fit_two_true hex T1 = refl
fit_two_true hex _ = refl

fit_three_true : (hex : Hex) (tile : TileNo) → are_fit (laid_links_of (lay hex tile Three true)) ≡ true
unfolding are_fit lay printed laid_track_of laid_links_of
fit_three_true hex T1 = refl
fit_three_true hex _ = refl

fit_four_true : (hex : Hex) (tile : TileNo) → are_fit (laid_links_of (lay hex tile Four true)) ≡ true
unfolding are_fit lay printed laid_track_of laid_links_of
fit_four_true hex T1 = refl
fit_four_true hex _ = refl

fit_five_true : (hex : Hex) (tile : TileNo) → are_fit (laid_links_of (lay hex tile Five true)) ≡ true
unfolding are_fit lay printed laid_track_of laid_links_of
fit_five_true hex T1 = refl
fit_five_true hex _ = refl

laid_fit : (hex : Hex) (tile : TileNo) (rot : Rotation) (swap : Bool)
    → are_fit (laid_links_of (lay hex tile rot swap)) ≡ true
laid_fit hex tile Zero false = fit_zero_false hex tile
laid_fit hex tile Zero true = fit_zero_true hex tile
laid_fit hex tile One false = fit_one_false hex tile
laid_fit hex tile One true = fit_one_true hex tile
laid_fit hex tile Two false = fit_two_false hex tile
laid_fit hex tile Two true = fit_two_true hex tile
laid_fit hex tile Three false = fit_three_false hex tile
laid_fit hex tile Three true = fit_three_true hex tile
laid_fit hex tile Four false = fit_four_false hex tile
laid_fit hex tile Four true = fit_four_true hex tile
laid_fit hex tile Five false = fit_five_false hex tile
laid_fit hex tile Five true = fit_five_true hex tile

pub laid_links : (l : Lay) → AreLinksOf l.hex (laid_links_of l)
unfolding lay laid_links_of
laid_links l = links_of l.hex (laid_track_of l) (laid_fit l.hex l.tile l.rot l.swap)
