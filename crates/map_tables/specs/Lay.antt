-- A tile on a hex: its track is turned, and its stops 0 and 1 are swapped if that is ordered.
use Rattle.std.specs.Prelude.{List, if◌then◌else◌}
use Rattle.map_tables.specs.declared.lay.Lay.{Lay}
use Rattle.map_tables.specs.declared.track.TrackSegment.{TrackSegment}
use Rattle.map_tables.specs.declared.track.Link.{Link}
use Rattle.map_tables.specs.Track.{turned_track, swapped_track, links_in}
use Rattle.map_tables.specs.Tile.{tile_track_of}

-- the track of a tile as it lies
unfoldable pub laid_track_of : Lay → List TrackSegment
laid_track_of lay =
    if lay.swap then swapped_track (turned_track lay.rot (tile_track_of lay.tile)) else turned_track lay.rot
    (tile_track_of lay.tile)

-- the links that it gives its hex
unfoldable pub laid_links_of : Lay → List Link
laid_links_of lay = links_in lay.hex (laid_track_of lay)
