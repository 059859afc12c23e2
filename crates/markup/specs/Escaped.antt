-- A text of any bytes as it is written in a page, and a reader that knows nothing of what wrote it.
-- Four signs have a meaning in a page: `&`, 38, `<`, 60, `>`, 62, and the quotation mark, 34. In
-- their place references are written: a `&`, a name and a `;`, 59.
use Rattle.std.specs.Prelude.{◌≡◌, ℕ, ◌==◌, ◌||◌, if◌then◌else◌, List, [], ◌∷◌, ◌++◌, Option, Some, None, bytes_eq, codes}
use Rattle.std.specs.List.{flat_map, fold}

-- what is written of a byte
abbrev pub escape_of : ℕ → List ℕ
escape_of byte =
    if byte == 38 then codes "&amp;"
    else if byte == 60 then codes "&lt;"
    else if byte == 62 then codes "&gt;"
    else if byte == 34 then codes "&quot;"
    else byte ∷ []

-- what is written of a text
abbrev pub escaped : List ℕ → List ℕ
escaped text = flat_map escape_of text

-- the sign that a reference of a name stands for, if it is one
abbrev pub meaning_of : List ℕ → Option ℕ
meaning_of name =
    if bytes_eq name (codes "amp") then Some 38
    else if bytes_eq name (codes "lt") then Some 60
    else if bytes_eq name (codes "gt") then Some 62
    else if bytes_eq name (codes "quot") then Some 34
    else None

-- where in what is written the reader is
pub data TextSpot : Type 0 where
  -- between references
  outside : TextSpot
  -- in a reference, behind this much of its name
  referring : List ℕ → TextSpot
  -- behind a bare sign that has a meaning, or a reference that has none
  astray : TextSpot

-- what the reader has read so far, and where it is
pub record TextRead : Type 0 where
  pub text : List ℕ
  pub spot : TextSpot

abbrev pub text_at : List ℕ → TextSpot → TextRead
text_at text spot = record { text = text; spot = spot }

-- behind a reference
abbrev pub referred : List ℕ → Option ℕ → TextRead
referred text None = text_at text astray
referred text (Some byte) = text_at (text ++ byte ∷ []) outside

-- the next step of the reader, by a byte
abbrev pub text_step_at : List ℕ → TextSpot → ℕ → TextRead
text_step_at text outside byte =
    if byte == 38 then text_at text (referring [])
    else if byte == 60 || byte == 62 || byte == 34 then text_at text astray
    else text_at (text ++ byte ∷ []) outside
text_step_at text (referring name) byte =
    if byte == 59 then referred text (meaning_of name) else text_at text (referring (name ++ byte ∷ []))
text_step_at text astray byte = text_at text astray

abbrev pub text_step : TextRead → ℕ → TextRead
text_step read byte = text_step_at read.text read.spot byte

-- what is written reads as a text: it has no bare sign with a meaning, and each reference has one
abbrev pub ReadsAs : List ℕ → List ℕ → Type 0
ReadsAs written text = fold text_step (text_at [] outside) written ≡ text_at text outside
