-- A reader of elements, which knows nothing of what wrote them. It goes over the bytes of a text
-- and keeps the names of the elements that are open, the innermost first. A text is well-formed if
-- none is open at its end, and nothing was out of its place: each end tag names the element that is
-- open innermost, and no value of a start tag holds a `<`.
use Rattle.std.specs.Prelude.{◌≡◌, ℕ, List, [], ◌∷◌, ◌++◌, ◌==◌, if◌then◌else◌, bytes_eq, fold}
use Rattle.markup.specs.Tags.{is_void}

-- where in the text the reader is
pub data WriterPlace : Type 0 where
  -- between tags
  between : WriterPlace
  -- behind the `<` of a tag and this much of its name
  naming : List ℕ → WriterPlace
  -- in the start tag of an element of this name, behind the name
  inside : List ℕ → WriterPlace
  -- in a value of that start tag
  valued : List ℕ → WriterPlace
  -- behind the `/` that ends an element with its start tag
  ending : WriterPlace
  -- in an end tag, behind this much of its name
  closing : List ℕ → WriterPlace
  -- behind what is no such text
  lost : WriterPlace

-- the names of the open elements, and where the reader is
pub record Read : Type 0 where
  pub open_names : List (List ℕ)
  pub spot : WriterPlace

-- what is found with these open elements, at this place
abbrev pub read_at : List (List ℕ) → WriterPlace → Read
read_at names spot = record { open_names = names; spot = spot }

-- behind the start tag of an element
abbrev pub opened : List (List ℕ) → List ℕ → Read
opened names name = if is_void name then read_at names between else read_at (name ∷ names) between

-- behind the end tag of an element
abbrev pub closed : List (List ℕ) → List ℕ → Read
closed [] name = read_at [] lost
closed (top ∷ names) name = if bytes_eq top name then read_at names between else read_at (top ∷ names) lost

-- behind a byte of a tag that begins, with this much of the name before it: `>` is 62, a space 32,
-- `/` 47
abbrev pub named : List (List ℕ) → List ℕ → ℕ → Read
named names name byte =
    if byte == 62 then opened names name
    else if byte == 32 then read_at names (inside name)
    else if byte == 47 then (if bytes_eq name [] then read_at names (closing []) else read_at names ending)
    else read_at names (naming (name ++ byte ∷ []))

-- behind a byte of a start tag: a quotation mark is 34
abbrev pub inside_then : List (List ℕ) → List ℕ → ℕ → Read
inside_then names name byte =
    if byte == 62 then opened names name
    else if byte == 34 then read_at names (valued name)
    else if byte == 47 then read_at names ending
    else read_at names (inside name)

-- behind a byte of a value: `<` is 60
abbrev pub valued_then : List (List ℕ) → List ℕ → ℕ → Read
valued_then names name byte =
    if byte == 34 then read_at names (inside name)
    else if byte == 60 then read_at names lost
    else read_at names (valued name)

-- the next step of the reader, by a byte
abbrev pub step_at : List (List ℕ) → WriterPlace → ℕ → Read
step_at names between byte = if byte == 60 then read_at names (naming []) else read_at names between
step_at names (naming name) byte = named names name byte
step_at names (inside name) byte = inside_then names name byte
step_at names (valued name) byte = valued_then names name byte
step_at names ending byte = if byte == 62 then read_at names between else read_at names lost
step_at names (closing name) byte = if byte == 62 then closed names name else read_at names (closing (name ++ byte ∷ []))
step_at names lost byte = read_at names lost

-- what is found one byte further on
abbrev pub step : Read → ℕ → Read
step read byte = step_at read.open_names read.spot byte

-- what the reader has found behind a text
abbrev pub reading : List ℕ → Read
reading text = fold step (read_at [] between) text

-- a text all of whose elements are ended, one in another
abbrev pub IsWellFormed : List ℕ → Type 0
IsWellFormed text = reading text ≡ read_at [] between
