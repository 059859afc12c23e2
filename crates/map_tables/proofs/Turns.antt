-- Tiles that are turned.
use Rattle.std.proofs.Common.{◌≡◌, refl}
use Rattle.tables.specs.Steps.{iterate}
use Rattle.map_tables.specs.declared.side.Rotation.{Rotation}
use Rattle.map_tables.specs.declared.side.Rotation.TheVariants.{Zero, One, Two, Three, Four, Five}
use Rattle.map_tables.specs.declared.tiles.TileNo.{TileNo}
use Rattle.map_tables.specs.declared.tiles.TileNo.TheVariants.{T1}
use Rattle.map_tables.specs.Side.{sixths_turned}
use Rattle.map_tables.specs.Track.{turned_track}
use Rattle.map_tables.specs.Tile.{printed, tile_track_of}

pub six_turns : (tile : TileNo) → iterate (turned_track One) 6 (tile_track_of tile) ≡ tile_track_of tile
unfolding printed
six_turns T1 = refl
six_turns _ = refl

turns_zero : (tile : TileNo) → turned_track Zero (tile_track_of tile)
    ≡ iterate (turned_track One) (sixths_turned Zero) (tile_track_of tile)
unfolding printed
turns_zero T1 = refl
turns_zero _ = refl

turns_one : (tile : TileNo) → turned_track One (tile_track_of tile)
    ≡ iterate (turned_track One) (sixths_turned One) (tile_track_of tile)
unfolding printed
turns_one T1 = refl
turns_one _ = refl

turns_two : (tile : TileNo) → turned_track Two (tile_track_of tile)
    ≡ iterate (turned_track One) (sixths_turned Two) (tile_track_of tile)
unfolding printed
turns_two T1 = refl
turns_two _ = refl

turns_three : (tile : TileNo) → turned_track Three (tile_track_of tile)
    ≡ iterate (turned_track One) (sixths_turned Three) (tile_track_of tile)
unfolding printed
turns_three T1 = refl
turns_three _ = refl

turns_four : (tile : TileNo) → turned_track Four (tile_track_of tile)
    ≡ iterate (turned_track One) (sixths_turned Four) (tile_track_of tile)
unfolding printed
turns_four T1 = refl
turns_four _ = refl

turns_five : (tile : TileNo) → turned_track Five (tile_track_of tile)
    ≡ iterate (turned_track One) (sixths_turned Five) (tile_track_of tile)
unfolding printed
turns_five T1 = refl
turns_five _ = refl

pub turns : (tile : TileNo) (rotation : Rotation)
    → turned_track rotation (tile_track_of tile) ≡ iterate (turned_track One) (sixths_turned rotation) (tile_track_of tile)
turns tile Zero = turns_zero tile
turns tile One = turns_one tile
turns tile Two = turns_two tile
turns tile Three = turns_three tile
turns tile Four = turns_four tile
turns tile Five = turns_five tile
