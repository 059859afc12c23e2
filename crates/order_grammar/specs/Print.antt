-- The one spelling of an order, under a condition or not: upper case, single spaces, no leading
-- zeros.
use Rattle.std.specs.Prelude.{◌≡◌, ℕ, List, [], ◌∷◌, ◌++◌, Option, Some, None, map, codes, decimal}
use Rattle.std.specs.List.{flat_map}
use Rattle.map_tables.specs.declared.place.Place.{Place}
use Rattle.map_tables.specs.Text.{text_of_hex, text_of_place, text_of_rotation, text_of_tile}
use Rattle.tables.specs.Roster.{code_of_company, code_of_private}
use Rattle.tables.specs.Train.{code_of_kind}
use Rattle.tables.specs.declared.rolling_stock.Kind.{Kind}
use Rattle.tables.specs.declared.round.Round.{Round}
use Rattle.tables.specs.declared.round.Round.TheVariants.{Opening, Stock, Operating}
use Rattle.order_grammar.specs.Condition.{condition_values}
use Rattle.order_grammar.specs.Keyword.{text_of_keyword}
use Rattle.order_grammar.specs.Order.{parts_of, Parts}
use Rattle.order_grammar.specs.declared.condition.Condition.{Condition}
use Rattle.order_grammar.specs.declared.keyword.Keyword.{Keyword}
use Rattle.order_grammar.specs.declared.keyword.Keyword.TheVariants as keyword
use Rattle.order_grammar.specs.declared.order.Order.{Order}
use Rattle.order_grammar.specs.declared.order.Trailing.{Trailing}
use Rattle.order_grammar.specs.declared.order.Trailing.TheVariants as trailing
use Rattle.order_grammar.specs.declared.order.Value.{Value}
use Rattle.order_grammar.specs.declared.order.Value.TheVariants as value

-- a round: PR1, SR1 or OR1.1
abbrev pub text_of_round : Round → List ℕ
text_of_round (Opening number) = codes "PR" ++ decimal number
text_of_round (Stock number) = codes "SR" ++ decimal number
text_of_round (Operating set number) = codes "OR" ++ decimal set ++ codes "." ++ decimal number

-- the word of a value; of hexadecimal digits nothing is kept
abbrev pub text_of_value : Value → List ℕ
text_of_value (value.Number number) = decimal number
text_of_value (value.Name name) = name
text_of_value (value.Round round) = text_of_round round
text_of_value (value.Private private) = code_of_private private
text_of_value (value.Company company) = code_of_company company
text_of_value (value.Kind kind) = code_of_kind kind
text_of_value (value.Tile tile) = text_of_tile tile
text_of_value (value.Hex hex) = text_of_hex hex
text_of_value (value.Rotation rotation) = text_of_rotation rotation
text_of_value (value.Place place) = text_of_place place
text_of_value value.HexDigits = []
text_of_value (value.Word keyword) = text_of_keyword keyword

-- the words of a class that is repeated
abbrev pub words_of_trailing : Trailing → List (List ℕ)
words_of_trailing trailing.Nothing = []
words_of_trailing (trailing.Names names) = names.items
words_of_trailing (trailing.Places run) = map text_of_place run

-- words, each with a space before it
abbrev pub spaced : List (List ℕ) → List ℕ
spaced words = flat_map (λ word. 32 ∷ word) words

-- a literal word, and the words of values, each with a space before it
abbrev pub words_text : Keyword → List Value → List ℕ
words_text keyword values = text_of_keyword keyword ++ spaced (map text_of_value values)

-- the words of places, each with a space before it
abbrev pub places_text : List Place → List ℕ
places_text places = spaced (map text_of_place places)

-- words with one space between them
abbrev pub joined : List (List ℕ) → List ℕ
joined [] = []
joined (word ∷ words) = word ++ spaced words

-- the line of a literal word, a kind of train and places
abbrev pub places_line : Keyword → Kind → List Place → List ℕ
places_line keyword kind places = joined (text_of_keyword keyword ∷ code_of_kind kind ∷ map text_of_place places)

-- the words of parts
abbrev pub words_of_parts : Option Parts → List (List ℕ)
words_of_parts None = []
words_of_parts (Some parts) =
    text_of_keyword parts.keyword ∷ map text_of_value parts.values ++ words_of_trailing parts.trailing

-- the words of an order
abbrev pub words_of_order : Order → List (List ℕ)
words_of_order order = words_of_parts (parts_of order)

-- the spelling of an order
abbrev pub spelling_of : Order → List ℕ
spelling_of order = joined (words_of_order order)

-- IF, the words of a condition and a space; nothing if there is no condition
abbrev pub condition_text : Option Condition → List ℕ
condition_text None = []
condition_text (Some condition) = words_text keyword.If (condition_values condition) ++ codes " "

-- the spelling of an order under a condition, if there is one
abbrev pub conditional_spelling : Option Condition → Order → List ℕ
conditional_spelling condition order = condition_text condition ++ spelling_of order

-- what was there, and after it a prefix of the text
pub record AddsPrefix (old new text : List ℕ) : Type 0 where
  pub prefix : List ℕ
  pub rest : List ℕ
  pub added : new ≡ old ++ prefix
  pub whole : text ≡ prefix ++ rest
