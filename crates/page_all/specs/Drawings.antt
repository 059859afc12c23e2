-- The drawings of a page, by their numbers.
use Rattle.std.specs.Prelude.{◌≡◌, ℕ, List, Some, map, slice_get}
use Rattle.markup.specs.Part.{part_text}
use Rattle.markup.specs.declared.part.Part.{Part}

-- the drawing with this number has the text of a part
abbrev pub IsNumberOf : List Part → Part → ℕ → Type 0
IsNumberOf drawings part number = slice_get (map part_text drawings) number ≡ Some (part_text part)
