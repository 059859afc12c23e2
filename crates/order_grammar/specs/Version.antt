-- What a line of a file of some version is by itself: the order that it spells with its condition,
-- or the first fault that it has.
use Rattle.std.specs.Prelude.{ℕ, nat_lt, if◌then◌else◌, List, length, Result, Ok, Err}
use Rattle.std.specs.List.{list_all}
use Rattle.order_grammar.specs.Condition.{Ordered, ordered, ordered_reading, unconditional}
use Rattle.order_grammar.specs.Form.{order_forms, words_reading}
use Rattle.order_grammar.specs.Limits.{line_most}
use Rattle.order_grammar.specs.Words.{words_of, before_comment, is_printable}
use Rattle.order_grammar.specs.declared.condition.Version.{Version}
use Rattle.order_grammar.specs.declared.condition.Version.TheVariants.{One, Two}
use Rattle.order_grammar.specs.declared.fault.Fault.{Fault}
use Rattle.order_grammar.specs.declared.fault.Fault.TheVariants.{TooLong, StrayByte}
use Rattle.order_grammar.specs.declared.read.Line.{Line}

-- what the words of a line are
abbrev pub words_reading_in : Version → List (List ℕ) → Result Ordered Fault
words_reading_in One words = unconditional (words_reading order_forms words)
words_reading_in Two words = ordered_reading words

-- the order of a line with its condition, or its first fault
abbrev pub reading_in : Version → List ℕ → Result Ordered Fault
reading_in version line =
    if nat_lt line_most (length line) then Err TooLong else
    if list_all is_printable (before_comment line) then words_reading_in version (words_of line) else Err StrayByte

-- the order of a line that was read with its condition, without its words
abbrev pub ordered_of : Result Line Fault → Result Ordered Fault
ordered_of (Ok line) = Ok (ordered line.condition line.order)
ordered_of (Err fault) = Err fault
