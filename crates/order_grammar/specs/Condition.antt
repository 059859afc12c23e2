-- What the words of a line of version 2 are: an order, perhaps under a condition, or why they spell
-- none.
use Rattle.std.specs.Prelude.{ℕ, if◌then◌else◌, List, [], ◌∷◌, Option, Some, None, Result, Ok, Err}
use Rattle.order_grammar.specs.Class.{class_reading}
use Rattle.order_grammar.specs.Form.{order_forms, play_forms, rows_reading}
use Rattle.order_grammar.specs.Keyword.{text_of_keyword}
use Rattle.order_grammar.specs.Words.{same_word}
use Rattle.order_grammar.specs.declared.class.Class.{Class}
use Rattle.order_grammar.specs.declared.class.Class.TheVariants as class
use Rattle.order_grammar.specs.declared.class.Reading.{Reading}
use Rattle.order_grammar.specs.declared.class.Reading.TheVariants.{Value, TooLarge}
use Rattle.order_grammar.specs.declared.condition.Condition.{Condition}
use Rattle.order_grammar.specs.declared.condition.Condition.TheVariants.{Price, Phase, Floated}
use Rattle.order_grammar.specs.declared.fault.Fault.{Fault}
use Rattle.order_grammar.specs.declared.fault.Fault.TheVariants.{WrongWords, NumberTooLarge}
use Rattle.order_grammar.specs.declared.keyword.Keyword.TheVariants as keyword
use Rattle.order_grammar.specs.declared.order.Order.{Order}
use Rattle.order_grammar.specs.declared.order.Order.TheVariants.{Blank}
use Rattle.order_grammar.specs.declared.order.Value.{Value as OneValue}
use Rattle.order_grammar.specs.declared.order.Value.TheVariants as value

-- what a line orders, and the condition under which it does, if any
pub record Ordered : Type 0 where
  pub condition : Option Condition
  pub order : Order

-- an order with its condition, if it has one
abbrev pub ordered : Option Condition → Order → Ordered
ordered condition order = record { condition = condition; order = order }

-- an order without a condition
abbrev pub unconditional : Result Order Fault → Result Ordered Fault
unconditional (Ok order) = Ok (ordered None order)
unconditional (Err fault) = Err fault

-- the values of a condition's words after IF
abbrev pub condition_values : Condition → List OneValue
condition_values (Price company price) =
    value.Word keyword.Price ∷ value.Company company ∷ value.Word keyword.AtLeast ∷ value.Number price ∷ []
condition_values (Phase kind) = value.Word keyword.Phase ∷ value.Kind kind ∷ []
condition_values (Floated company) = value.Word keyword.Floated ∷ value.Company company ∷ []

-- the condition on a company's price: of the words for the company and for the price
abbrev pub price_condition : Reading → Reading → Result Condition Fault
price_condition (Value (value.Company company)) (Value (value.Number price)) = Ok (Price company price)
price_condition (Value (value.Company company)) TooLarge = Err NumberTooLarge
price_condition company price = Err WrongWords

-- the condition that one word gives: a kind of train gives the phase, and a company that it has
-- floated
abbrev pub condition_of : Reading → Result Condition Fault
condition_of (Value (value.Kind kind)) = Ok (Phase kind)
condition_of (Value (value.Company company)) = Ok (Floated company)
condition_of other = Err WrongWords

-- the order that the words after a condition spell, or why they spell none
abbrev pub play_reading : List (List ℕ) → Result Order Fault
play_reading [] = Err WrongWords
play_reading (first ∷ rest) = rows_reading play_forms first rest

-- a condition and the order after it: wrong words of one spoil all, a number that is too large
-- spoils all but wrong words
abbrev pub under : Result Condition Fault → Result Order Fault → Result Ordered Fault
under (Ok condition) (Ok order) = Ok (ordered (Some condition) order)
under (Ok condition) (Err NumberTooLarge) = Err NumberTooLarge
under (Err NumberTooLarge) (Ok order) = Err NumberTooLarge
under (Err NumberTooLarge) (Err NumberTooLarge) = Err NumberTooLarge
under condition order = Err WrongWords

-- the words after PRICE: a company, >=, a number and an order
abbrev pub price_reading : List (List ℕ) → Result Ordered Fault
price_reading (company ∷ at_least ∷ price ∷ words) =
    if same_word at_least (text_of_keyword keyword.AtLeast) then
    under (price_condition (class_reading class.Company company) (class_reading class.Number price)) (play_reading words)
    else Err WrongWords
price_reading other = Err WrongWords

-- the words after PHASE or FLOATED: one of a class, and an order
abbrev pub reading_of_one : Class → List (List ℕ) → Result Ordered Fault
reading_of_one class [] = Err WrongWords
reading_of_one class (word ∷ words) = under (condition_of (class_reading class word)) (play_reading words)

-- the words after IF
abbrev pub conditional_reading : List (List ℕ) → Result Ordered Fault
conditional_reading [] = Err WrongWords
conditional_reading (first ∷ words) = if same_word first (text_of_keyword keyword.Price) then price_reading words else
    if same_word first (text_of_keyword keyword.Phase) then reading_of_one class.Kind words else
    if same_word first (text_of_keyword keyword.Floated) then reading_of_one class.Company words else Err WrongWords

-- the words of a line of version 2
abbrev pub ordered_reading : List (List ℕ) → Result Ordered Fault
ordered_reading [] = Ok (ordered None Blank)
ordered_reading (first ∷ rest) =
    if same_word first (text_of_keyword keyword.If) then conditional_reading rest else
    unconditional (rows_reading order_forms first rest)

-- what a reading is that gives a condition and puts the order in its place
abbrev pub put_conditional : Result Condition Fault → Order → Result Ordered Fault
put_conditional (Ok condition) order = Ok (ordered (Some condition) order)
put_conditional (Err fault) order = Err fault

abbrev pub put_ordered : Result (Option Condition) Fault → Order → Result Ordered Fault
put_ordered (Ok condition) order = Ok (ordered condition order)
put_ordered (Err fault) order = Err fault

-- the condition that a reading gives, if the order after it was put in its place
abbrev pub condition_if_read : Result Condition Fault → Result Unit Fault → Result Condition Fault
condition_if_read (Ok condition) (Ok done) = Ok condition
condition_if_read (Ok condition) (Err NumberTooLarge) = Err NumberTooLarge
condition_if_read (Err NumberTooLarge) (Ok done) = Err NumberTooLarge
condition_if_read (Err NumberTooLarge) (Err NumberTooLarge) = Err NumberTooLarge
condition_if_read condition done = Err WrongWords
