-- Texts and numbers in columns. What is wider than its column is printed whole.
use Rattle.std.specs.Global.{Global}
use Rattle.std.specs.Prelude.{◌≡◌, ℕ, ◌-◌, List, ◌++◌, Vec, length, replicate}

-- a text at the left of a column
unfoldable pub left_aligned : ℕ → List ℕ → List ℕ
left_aligned width text = text ++ replicate (width - length text) 32

-- digits at the right of a column
unfoldable pub right_aligned : ℕ → List ℕ → List ℕ
right_aligned width digits = replicate (width - length digits) 32 ++ digits

-- a text is added at the end of what was written
abbrev pub Adds : Vec ℕ Global → Vec ℕ Global → List ℕ → Type 0
Adds old new text = new.items ≡ old.items ++ text
