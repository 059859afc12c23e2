-- Which of some lines is meant: the only one that is read without a fault. None is if there are
-- several.
use Rattle.std.specs.Prelude.{ℕ, Bool, true, false, ◌&&◌, ◌||◌, if◌then◌else◌, List, [], ◌∷◌, Option, Some, None}
use Rattle.std.specs.Prelude.{Result, Ok, Err}
use Rattle.order_grammar.specs.Condition.{Ordered}
use Rattle.order_grammar.specs.Version.{reading_in}
use Rattle.order_grammar.specs.Words.{has_words, words_of}
use Rattle.order_grammar.specs.declared.condition.Version.{Version}
use Rattle.order_grammar.specs.declared.fault.Fault.{Fault}

-- a reading is no fault
abbrev pub is_read : Result Ordered Fault → Bool
is_read (Ok ordered) = true
is_read (Err fault) = false

-- a line has words, and is read without a fault in a file of some version
abbrev pub is_order : Version → List ℕ → Bool
is_order version line = has_words (words_of line) && is_read (reading_in version line)

-- one of some lines is
abbrev pub is_order_in : Version → List (List ℕ) → Bool
is_order_in version [] = false
is_order_in version (line ∷ lines) = is_order version line || is_order_in version lines

-- the only one of some lines that is
abbrev pub only_order : Version → List (List ℕ) → Option (List ℕ)
only_order version [] = None
only_order version (line ∷ lines) =
    if is_order version line
    then (if is_order_in version lines then None else Some line)
    else only_order version lines
