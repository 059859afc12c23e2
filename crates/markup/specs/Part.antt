-- The text of a part.
use Rattle.std.specs.Prelude.{ℕ, List}
use Rattle.markup.specs.declared.part.Part.{Part}

-- the bytes of a part
abbrev pub part_text : Part → List ℕ
part_text part = part.text.items
