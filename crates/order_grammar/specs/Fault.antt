-- The code and the sentence of each fault.
use Rattle.std.specs.Prelude.{ℕ, List, ◌++◌, codes}
use Rattle.order_grammar.specs.declared.fault.Fault.{Fault}
use Rattle.order_grammar.specs.declared.fault.Fault.TheVariants.{TooLong, StrayByte, UnknownWord, WrongWords}
use Rattle.order_grammar.specs.declared.fault.Fault.TheVariants.{NumberTooLarge, OutOfPlace, UnknownPlayer}
use Rattle.order_grammar.specs.declared.fault.Fault.TheVariants.{PastLastLine}

-- the code that a report prints
abbrev pub code_of : Fault → List ℕ
code_of TooLong = codes "G1"
code_of StrayByte = codes "G2"
code_of UnknownWord = codes "G3"
code_of WrongWords = codes "G4"
code_of NumberTooLarge = codes "G5"
code_of OutOfPlace = codes "G6"
code_of UnknownPlayer = codes "G7"
code_of PastLastLine = codes "G8"

-- what is wrong, in a player's words
abbrev pub sentence_of : Fault → List ℕ
sentence_of TooLong = codes "the line has more than 1,024 bytes, its comment counted"
sentence_of StrayByte =
    codes "a byte before the comment is not printable ASCII (for example a tab or an accented letter)"
sentence_of UnknownWord = codes "no order begins with its first word; in a file of version 1 none begins with IF"
sentence_of WrongWords =
    codes "the words after the first do not fit any of its forms; after IF, they are not a condition "
    ++ codes "followed by an order"
sentence_of NumberTooLarge = codes "a number is more than 99,999"
sentence_of OutOfPlace =
    codes "the order is not allowed where it stands, with or without a condition, or the line belongs "
    ++ codes "to no sheet"
sentence_of UnknownPlayer = codes "the SHEET line names nobody who plays"
sentence_of PastLastLine = codes "the line is past the 512th of its sheet"
