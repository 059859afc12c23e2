-- What is written after an order file and one LF is split from it again.
use Rattle.std.specs.Prelude.{◌≡◌, false, true, List, ℕ, ◌∷◌, ◌++◌}
use Rattle.std.specs.List.{AllByRecursion}
use Rattle.sheets.specs.Text.{lines_of}
use Rattle.umpire.specs.InputSplit.{certificates_of_input, is_divider, order_file_of}

-- a text in which only the first line divides
pub record BeginsAlone (text : List ℕ) : Type 0 where
  pub first : List ℕ
  pub others : List (List ℕ)
  pub lines : lines_of text ≡ first ∷ others
  pub divides : is_divider first ≡ true
  pub alone : AllByRecursion (λ line. is_divider line ≡ false) others

-- a file and such a text after an LF are the file and the text of what both make
pub record ArePartedAgain (file text : List ℕ) : Type 0 where
  pub order_file : order_file_of (file ++ 10 ∷ text) ≡ file
  pub certificates : certificates_of_input (file ++ 10 ∷ text) ≡ text

abbrev pub PartsWhatWasJoined : Type 0
PartsWhatWasJoined = (file text : List ℕ) → BeginsAlone text → ArePartedAgain file text
