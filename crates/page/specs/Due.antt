-- The umpire's words on when sheets are due, as a page shows them, and whether it does.
use Rattle.std.specs.Prelude.{ℕ, ◌&&◌, Bool, if◌then◌else◌, List, [], map, nat_le, take}

-- a byte as it is shown: one that is not printable ASCII becomes `?`, 63
abbrev pub shown_byte : ℕ → ℕ
shown_byte byte = if nat_le 0x20 byte && nat_le byte 0x7e then byte else 63

-- the words, of at most 60 bytes, as in the bulletin
abbrev pub due_shown : List ℕ → List ℕ
due_shown words = map shown_byte (take 60 words)

-- what a page tells of them: nothing if nobody owes a sheet, as after the end of a game
abbrev pub due_told : Bool → List ℕ → List ℕ
due_told is_owed words = if is_owed then words else []
