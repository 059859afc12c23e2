-- What a writer of elements keeps: the reader finds open what the writer holds open, and is where
-- the writer is.
use Rattle.std.specs.Prelude.{◌≡◌, ℕ, List, [], ◌∷◌, Option, None, fold, Bool, true, false, not, ◌&&◌, ◌==◌, if◌then◌else◌, codes}
use Rattle.std.specs.declared.alloc.AllocError.{AllocError}
use Rattle.markup.specs.Reading.{Read, read_at, reading, between, naming, valued}
use Rattle.markup.specs.Tags.{name_of_tag}
use Rattle.markup.specs.declared.tag.Tag.{Tag}
use Rattle.markup.specs.declared.writer.WriterPlace.{WriterPlace}
use Rattle.markup.specs.declared.writer.WriterPlace.TheVariants.{Between, Naming, Valued}

-- the names of open elements, the innermost first
abbrev pub open_names : List Tag → List (List ℕ)
open_names tags = fold (λ names tag. name_of_tag tag ∷ names) [] tags

-- what the reader is to find, by the open elements and the spot of the writer
abbrev pub read_by : List (List ℕ) → WriterPlace → Read
read_by names Between = read_at names between
read_by names (Naming tag) = read_at names (naming (name_of_tag tag))
read_by names (Valued tag) = read_at names (valued (name_of_tag tag))

-- as long as no allocation has failed, the reader finds that
abbrev pub IsRead : List ℕ → List Tag → WriterPlace → Option AllocError → Type 0
IsRead text tags spot fault = fault ≡ None → reading text ≡ read_by (open_names tags) spot

-- what ends the start tag in which a writer is: `>`, behind the value in which it is
abbrev pub closing_of : WriterPlace → List ℕ
closing_of Between = []
closing_of (Naming tag) = codes ">"
closing_of (Valued tag) = codes "\">"

-- whether a byte has no meaning in tags: it is no `<`, 60, and no quotation mark, 34
abbrev pub is_plain : ℕ → Bool
is_plain byte = not (byte == 60) && not (byte == 34)

-- what is written of a byte: nothing, if it has a meaning in tags
abbrev pub plain_of : ℕ → List ℕ
plain_of byte = if is_plain byte then byte ∷ [] else []

-- whether the writer is between tags or in a value
abbrev pub is_apart : WriterPlace → Bool
is_apart Between = true
is_apart (Naming tag) = false
is_apart (Valued tag) = true
