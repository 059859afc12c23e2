-- A spot as it waits to be looked at, in two bytes.
use Rattle.std.specs.Prelude.{ℕ, zero, suc}
use Rattle.map_tables.specs.declared.place.StopNumber.TheVariants.{First, Second}
use Rattle.map_tables.specs.declared.side.Side.TheVariants.{East, NorthEast, NorthWest, SouthEast, SouthWest, West}
use Rattle.map_tables.specs.declared.track.TrackEnd.{TrackEnd}
use Rattle.map_tables.specs.declared.track.TrackEnd.TheVariants.{Side as AtSide, Stop as AtStop}
use Rattle.reach.specs.declared.waiting.HeldSpot.{HeldSpot}
use Rattle.reach.specs.declared.walk.Spot.{Spot}

-- the end at a place in the order of the ends of a hex; the last for a greater number
abbrev pub end_at : ℕ → TrackEnd
end_at zero = AtSide SouthWest
end_at (suc zero) = AtSide West
end_at (suc (suc zero)) = AtSide NorthWest
end_at (suc (suc (suc zero))) = AtSide NorthEast
end_at (suc (suc (suc (suc zero)))) = AtSide East
end_at (suc (suc (suc (suc (suc zero))))) = AtSide SouthEast
end_at (suc (suc (suc (suc (suc (suc zero)))))) = AtStop First
end_at (suc (suc (suc (suc (suc (suc (suc more))))))) = AtStop Second

-- the spot that is held
abbrev pub held_spot : HeldSpot → Spot
held_spot held = record { hex = held.hex; end = end_at held.end }
