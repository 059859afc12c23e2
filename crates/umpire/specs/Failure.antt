-- What calls of a reader or a writer leave, including one that fails.
use Rattle.std.specs.Prelude.{ℕ, ◌≤◌, ◌==◌, Bool, false, List, [], ◌∷◌, length, take, Option, Result, Ok, Err}
use Rattle.std.specs.Io.KnownBytes.{Appends, Consumes}

-- a write of one or more bytes took none
abbrev pub took_none : {E : Type 0} → Result ℕ E → List ℕ → Bool
took_none (Ok count) [] = false
took_none (Ok count) (byte ∷ bytes) = count == 0
took_none (Err error) bytes = false

-- a writer holds what it held, and a prefix of the text after it
pub record AppendsPrefix (old new : Option (List ℕ)) (text : List ℕ) : Type 0 where
  pub count : ℕ
  pub within : count ≤ length text
  pub appended : Appends old new (take count text)

-- a reader gave this many bytes at most
pub record TakesAtMost (most : ℕ) (old new : Option (List ℕ)) : Type 0 where
  pub taken : List ℕ
  pub consumed : Consumes old new taken
  pub within : length taken ≤ most

-- it gave no byte past the first that is over the limit of a file
abbrev pub TakesWithin : Option (List ℕ) → Option (List ℕ) → Type 0
TakesWithin old new = TakesAtMost 67108865 old new
