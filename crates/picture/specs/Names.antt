-- The names on the map and the pills of its hexes: the room that they have, and what they do not cover.
-- A frame is one of the map.
use Rattle.std.specs.Prelude.{◌≡◌, ℕ, ℤ, pos, ◌+ℤ◌, ◌-ℤ◌, int_le, ◌==◌, if◌then◌else◌, true, false, List, [], ◌∷◌, Option, None, Some, map, All, AllPairs}
use Rattle.map_tables.specs.declared.hex.Hex.{Hex}
use Rattle.picture.specs.declared.frames.Frame.{Frame}
use Rattle.picture.specs.declared.names.PlacedName.{PlacedName}
use Rattle.picture.specs.Frames.{frame_around, holds, meets, meets_any, reaching}
use Rattle.picture.specs.Points.{centre, point_at}

-- the part of the map that the names of a hex have room in: it reaches over the borders of the hex
abbrev pub name_room : Hex → Frame
name_room hex = frame_around (centre hex) (pos 84) (pos 60)

-- the frame that a name takes
abbrev pub frame_of_name : PlacedName → Frame
frame_of_name name = name.frame

-- a name is within the room of its hex
abbrev pub IsInRoom : PlacedName → Type 0
IsInRoom name = holds (name_room name.hex) name.frame ≡ true

-- a name covers none of some frames
abbrev pub IsClearOf : List Frame → PlacedName → Type 0
IsClearOf frames name = meets_any frames name.frame ≡ false

-- two names do not overlap
abbrev pub AreApart : PlacedName → PlacedName → Type 0
AreApart name other = meets name.frame other.frame ≡ false

-- names are in their rooms, over no sign and no line, and no two overlap
abbrev pub ArePlaced : List Frame → List Frame → List PlacedName → Type 0
ArePlaced signs lines names =
    All IsInRoom names × All (IsClearOf signs) names × All (IsClearOf lines) names × AllPairs AreApart names

-- the part of the map that the pills of a hex have room in
abbrev pub pill_room : Hex → Frame
pill_room hex = frame_around (centre hex) (pos 52) (pos 51)

-- the frame of the coordinate of a hex, at its lower left
abbrev pub coordinate : Hex → Frame
coordinate hex =
    frame_around (point_at ((centre hex).x -ℤ pos 40) ((centre hex).y +ℤ pos 26)) (pos 10) (pos 5)

-- the frames that no pill of a hex may hide: those of its coordinate and of the names in its room
abbrev pub word_frames : Hex → List PlacedName → List Frame
word_frames hex names = coordinate hex ∷ reaching (pill_room hex) (map frame_of_name names)

-- the frames that a pill takes: its own, or none if it has no place
abbrev pub frames_of_pill : Option Frame → List Frame
frames_of_pill None = []
frames_of_pill (Some frame) = frame ∷ []

-- half the width of the code of a company in a pill, by its number of letters
abbrev pub code_half : ℕ → ℤ
code_half letters = if letters == 2 then pos 14 else if letters == 3 then pos 19 else pos 24

-- half the width of a sum in a pill: none is shown if there is no gain
abbrev pub sum_half : ℤ → ℤ
sum_half gain = if int_le gain (pos 0) then pos 0 else if int_le gain (pos 99) then pos 17 else pos 21

-- half the width of a pill
abbrev pub pill_half : ℕ → ℤ → ℤ
pill_half letters gain = code_half letters +ℤ sum_half gain
