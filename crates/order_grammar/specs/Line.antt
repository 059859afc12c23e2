-- What a line is by itself: the order that it spells, or the first fault that it has. A line may be
-- too long, or a byte before the comment may not be printable; then come the faults of its words.
use Rattle.std.specs.Prelude.{ℕ, nat_lt, if◌then◌else◌, List, [], length, Result, Ok, Err}
use Rattle.std.specs.List.{list_all}
use Rattle.order_grammar.specs.Form.{Row, order_forms, cert_forms, words_reading}
use Rattle.order_grammar.specs.Limits.{line_most, cert_line_most}
use Rattle.order_grammar.specs.Words.{Placed, words_of, before_comment, is_printable, placed_from}
use Rattle.order_grammar.specs.declared.fault.Fault.{Fault}
use Rattle.order_grammar.specs.declared.fault.Fault.TheVariants.{TooLong, StrayByte}
use Rattle.order_grammar.specs.declared.order.Order.{Order}
use Rattle.order_grammar.specs.declared.read.Line.{Line}

-- the order of a line of at most this many bytes by some forms, or its first fault
abbrev pub reading_by : ℕ → List Row → List ℕ → Result Order Fault
reading_by most rows line =
    if nat_lt most (length line)
    then Err TooLong
    else (if list_all is_printable (before_comment line) then words_reading rows (words_of line) else Err StrayByte)

-- the words of a line of at most this many bytes at their places, or the first fault that it has
-- before they are read
abbrev pub words_within : ℕ → List ℕ → Result (List Placed) Fault
words_within most line =
    if nat_lt most (length line)
    then Err TooLong
    else
    (if list_all is_printable (before_comment line)
    then Ok (placed_from 0 [] (before_comment line))
    else Err StrayByte)

-- the order of a line of an order file of version 1, or its first fault
abbrev pub reading_of : List ℕ → Result Order Fault
reading_of line = reading_by line_most order_forms line

-- what a line of a certificate's text says, or its first fault
abbrev pub cert_reading_of : List ℕ → Result Order Fault
cert_reading_of line = reading_by cert_line_most cert_forms line

-- the order of a line that was read, without its words
abbrev pub order_of : Result Line Fault → Result Order Fault
order_of (Ok line) = Ok line.order
order_of (Err fault) = Err fault
