-- The rectangles that signs and texts take in a picture, and which of them are free for one more.
-- Edges are counted to the right and downwards.
use Rattle.std.specs.Prelude.{ℤ, ◌+ℤ◌, ◌-ℤ◌, int_lt, int_le, Bool, ◌&&◌, not, List, filter}
use Rattle.std.specs.List.{list_any}
use Rattle.markup.specs.declared.point.Point.{Point}
use Rattle.picture.specs.declared.frames.Frame.{Frame}

-- the frame around a point, this far to both sides and up and down
abbrev pub frame_around : Point → ℤ → ℤ → Frame
frame_around middle across down = record { middle = middle; across = across; down = down }

-- whether two stretches overlap, by the middle of each and half its length
abbrev pub overlap : ℤ → ℤ → ℤ → ℤ → Bool
overlap middle half other other_half =
    int_lt (middle -ℤ half) (other +ℤ other_half) && int_lt (other -ℤ other_half) (middle +ℤ half)

-- whether the second stretch is within the first, by the middle of each and half its length
abbrev pub is_within : ℤ → ℤ → ℤ → ℤ → Bool
is_within middle half other other_half =
    int_le (middle -ℤ half) (other -ℤ other_half) && int_le (other +ℤ other_half) (middle +ℤ half)

-- whether two frames overlap
abbrev pub meets : Frame → Frame → Bool
meets frame other =
    overlap frame.middle.x frame.across other.middle.x other.across
    && overlap frame.middle.y frame.down other.middle.y other.down

-- whether a frame holds another
abbrev pub holds : Frame → Frame → Bool
holds frame other =
    is_within frame.middle.x frame.across other.middle.x other.across
    && is_within frame.middle.y frame.down other.middle.y other.down

-- whether a frame overlaps one of those that are taken
abbrev pub meets_any : List Frame → Frame → Bool
meets_any taken frame = list_any (λ other. meets other frame) taken

-- whether a text may have a frame: it is within the room and overlaps none of those that are taken
abbrev pub is_free : Frame → List Frame → Frame → Bool
is_free room taken frame = holds room frame && not (meets_any taken frame)

-- whether a text of these half sizes may be around a point
abbrev pub fits : Frame → List Frame → Point → Point → Bool
fits room taken half place = is_free room taken (frame_around place half.x half.y)

-- those of some frames that reach into a room
abbrev pub reaching : Frame → List Frame → List Frame
reaching room frames = filter (λ frame. meets frame room) frames
