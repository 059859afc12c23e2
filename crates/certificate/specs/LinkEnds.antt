-- The ends of the links of a hex, as they are kept for a walk over the choice tree.
use Rattle.std.specs.Prelude.{ℕ, ◌==◌, true, false, if◌then◌else◌, Option, Some, None, List, take}
use Rattle.map_tables.specs.Track.{end_order}
use Rattle.map_tables.specs.declared.track.Link.{Link}
use Rattle.map_tables.specs.declared.track.TrackEnd.{TrackEnd}
use Rattle.reach.specs.Walk.{left_at}
use Rattle.reach.specs.declared.walk.WalkStep.{WalkStep}
use Rattle.certificate.specs.declared.link_ends.HexEnds.{HexEnds}
use Rattle.certificate.specs.declared.link_ends.LinkEnds.{LinkEnds}

-- the ends of a link, by their places in the order of the ends of a hex
abbrev pub ends_of : Link → LinkEnds
ends_of link = record { a = end_order link.a; b = end_order link.b }

-- the step into a link at one of its ends, if it is one
abbrev pub way_into : TrackEnd → Link → Option WalkStep
way_into end link =
    if end_order link.a == end_order end then Some (record { link = link; turned = false }) else
    (if end_order link.b == end_order end then Some (record { link = link; turned = true }) else None)

-- the place of the end where a step leaves its link
abbrev pub place_left : WalkStep → ℕ
place_left step = end_order (left_at step).end

-- the ends of the links of a hex that are kept
abbrev pub held : HexEnds → List LinkEnds
held kept = take kept.count kept.ends
