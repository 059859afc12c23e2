-- The classes of words: which texts may stand at a place of a form, and what each says. A word that
-- would be such a text if numbers had no greatest value is too large.
use Rattle.std.specs.Prelude.{ℕ, ◌+◌, ◌*◌, ◌-◌, ◌==◌, Bool, true, false, ◌&&◌, ◌||◌, nat_le, if◌then◌else◌, List, []}
use Rattle.std.specs.Prelude.{◌∷◌, length, codes, take, drop, fold, min, Option, Some, None}
use Rattle.std.specs.List.{list_all}
use Rattle.tables.specs.declared.round.Round.{Round}
use Rattle.tables.specs.declared.round.Round.TheVariants.{Opening, Stock, Operating}
use Rattle.map_tables.specs.Text.{hex_of_text, is_digit, place_of_text, rotation_of_text, tile_of_text}
use Rattle.tables.specs.Train.{code_of_kind, kinds}
use Rattle.tables.specs.Roster.{companies, code_of_company, privates, code_of_private}
use Rattle.order_grammar.specs.Keyword.{text_of_keyword}
use Rattle.tables.specs.Round.{number_most, operating_most}
use Rattle.order_grammar.specs.Name.{is_name}
use Rattle.order_grammar.specs.Words.{same_word}
use Rattle.order_grammar.specs.declared.class.Class.{Class}
use Rattle.order_grammar.specs.declared.class.Class.TheVariants as class
use Rattle.order_grammar.specs.declared.class.Reading.{Reading}
use Rattle.order_grammar.specs.declared.class.Reading.TheVariants.{Value, TooLarge, Wrong}
use Rattle.order_grammar.specs.declared.class.Series.{Series}
use Rattle.order_grammar.specs.declared.class.Series.TheVariants as numbered
use Rattle.order_grammar.specs.declared.order.Value.TheVariants as value
use Rattle.order_grammar.specs.declared.order.Value as values

-- one digit or more
abbrev pub are_digits : List ℕ → Bool
are_digits [] = false
are_digits (digit ∷ digits) = list_all is_digit (digit ∷ digits)

-- the value of digits
abbrev pub value_of_digits : List ℕ → ℕ
value_of_digits digits = fold (λ value digit. value * 10 + (digit - 48)) 0 digits

-- the value of digits, or one more than the greatest number if it is over that; nothing for other
-- words
abbrev pub capped_value : List ℕ → Option ℕ
capped_value word = if are_digits word then Some (min (value_of_digits word) (number_most + 1)) else None

-- digits of a number up to the greatest, and the value of some kind that it gives
abbrev pub digits_reading : (ℕ → values.Value) → List ℕ → Reading
digits_reading as_value digits =
    if are_digits digits
    then (if nat_le (value_of_digits digits) number_most then Value (as_value (value_of_digits digits)) else TooLarge)
    else Wrong

-- the round of a number; operating rounds are numbered by their sets
abbrev pub round_of_series : Series → ℕ → Round
round_of_series numbered.Opening number = Opening number
round_of_series numbered.Stock number = Stock number
round_of_series (numbered.Operating number) set = Operating set number

-- the number of a round: digits without leading zeros
abbrev pub round_number_reading : Series → List ℕ → Reading
round_number_reading series [] = Wrong
round_number_reading series (digit ∷ digits) =
    if digit == 48
    then Wrong
    else digits_reading (λ number. value.Round (round_of_series series number)) (digit ∷ digits)

-- the number of an operating round in its set, after a point
abbrev pub number_in_set : List ℕ → Option ℕ
number_in_set (point ∷ digit ∷ []) =
    if point == 46 && (nat_le 49 digit && nat_le digit (48 + operating_most)) then Some (digit - 48) else None
number_in_set other = None

-- the number of a set, and then that of an operating round in it
abbrev pub operating_reading : List ℕ → Reading
operating_reading word =
    elim (number_in_set (drop (length word - 2) word)) [
      | Some number ↦ round_number_reading (numbered.Operating number) (take (length word - 2) word)
      | None ↦ Wrong
    ]

-- PR and the number of an opening round, SR and that of a stock round, or OR and those of an
-- operating round
abbrev pub round_reading : List ℕ → Reading
round_reading word =
    if same_word (take 2 word) (codes "PR") then round_number_reading numbered.Opening (drop 2 word) else
    if same_word (take 2 word) (codes "SR") then round_number_reading numbered.Stock (drop 2 word) else
    if same_word (take 2 word) (codes "OR") then operating_reading (drop 2 word) else Wrong

-- the value of the first of some things whose code it is
abbrev pub code_reading : {X : Type 0} → (X → List ℕ) → (X → values.Value) → List X → List ℕ → Reading
code_reading code as_value [] word = Wrong
code_reading code as_value (one ∷ others) word =
    if same_word word (code one) then Value (as_value one) else code_reading code as_value others word

-- a hexadecimal digit, letters raised
abbrev pub is_hex_digit : ℕ → Bool
is_hex_digit byte = is_digit byte || (nat_le 65 byte && nat_le byte 70)

-- hexadecimal digits, from 1 to 1,000: as many as a line of marks may have
abbrev pub are_hex_digits : List ℕ → Bool
are_hex_digits word = (nat_le 1 (length word) && nat_le (length word) 1000) && list_all is_hex_digit word

-- the value of what a word names, if it names any
abbrev pub named_reading : {X : Type 0} → (X → values.Value) → Option X → Reading
named_reading as_value (Some one) = Value (as_value one)
named_reading as_value None = Wrong

-- what a word, letters raised, is as a text of a class; a number may have leading zeros, and the value
-- of hexadecimal digits is in the word alone
abbrev pub class_reading : Class → List ℕ → Reading
class_reading class.Number word = digits_reading value.Number word
class_reading class.Name word = if is_name word then Value (value.Name word) else Wrong
class_reading class.Round word = round_reading word
class_reading class.Private word = code_reading code_of_private value.Private privates word
class_reading class.Company word = code_reading code_of_company value.Company companies word
class_reading class.Kind word = code_reading code_of_kind value.Kind kinds word
class_reading class.Tile word = named_reading value.Tile (tile_of_text word)
class_reading class.Hex word = named_reading value.Hex (hex_of_text word)
class_reading class.Rotation word = named_reading value.Rotation (rotation_of_text word)
class_reading class.Place word = named_reading value.Place (place_of_text word)
class_reading class.HexDigits word = if are_hex_digits word then Value value.HexDigits else Wrong
class_reading (class.Word keyword) word =
    if same_word word (text_of_keyword keyword) then Value (value.Word keyword) else Wrong

-- whether a value is of a class
abbrev pub is_of_class : Class → values.Value → Bool
is_of_class class.Number (value.Number number) = true
is_of_class class.Name (value.Name name) = true
is_of_class class.Round (value.Round round) = true
is_of_class class.Private (value.Private private) = true
is_of_class class.Company (value.Company company) = true
is_of_class class.Kind (value.Kind kind) = true
is_of_class class.Tile (value.Tile tile) = true
is_of_class class.Hex (value.Hex hex) = true
is_of_class class.Rotation (value.Rotation rotation) = true
is_of_class class.Place (value.Place place) = true
is_of_class class.HexDigits value.HexDigits = true
is_of_class (class.Word keyword) (value.Word other) = same_word (text_of_keyword keyword) (text_of_keyword other)
is_of_class class other = false
