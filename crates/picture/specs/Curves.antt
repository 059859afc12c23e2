-- The ends of a link: the middle of its side, or the place of its stop.
use Rattle.map_tables.specs.declared.track.TrackEnd.{TrackEnd}
use Rattle.map_tables.specs.declared.track.TrackEnd.TheVariants.{Side, Stop}
use Rattle.map_tables.specs.declared.place.StopNumber.TheVariants.{First, Second}
use Rattle.map_tables.specs.declared.track.Link.{Link}
use Rattle.picture.specs.declared.curve.Curve.{Curve}
use Rattle.markup.specs.declared.point.Point.{Point}
use Rattle.picture.specs.Points.{border_point}

-- the point of an end, where stop 0 and stop 1 of the hex have these places
abbrev pub end_point : Point × Point → TrackEnd → Point
end_point places (Side side) = border_point side
end_point places (Stop First) = places.0
end_point places (Stop Second) = places.1

-- the ends of a link, as points
abbrev pub ends_of_link : Point × Point → Link → Point × Point
ends_of_link places link = (end_point places link.a, end_point places link.b)

-- the ends of a curve
abbrev pub ends_of_curve : Curve → Point × Point
ends_of_curve curve = (curve.from, curve.to)
