use Rattle.std.proofs.Common.{◌≡◌, min, true, take}
use Rattle.std.specs.List.{list_all}
use Rattle.map_tables.specs.Text.{is_digit}
use Rattle.order_grammar.specs.Class.{value_of_digits}
use Rattle.order_grammar.proofs.class.digits_value.Given as goal

-- the digits so far, and their value, capped
abbrev pub invariant-loop-byte : goal.invariant-loop-byte
invariant-loop-byte l =
    (l.value ≡ min (value_of_digits (take l.byte-index l.word)) 100000)
    × (list_all is_digit (take l.byte-index l.word) ≡ true)
