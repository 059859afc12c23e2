-- The table of forms, and what the words of a line are by it: the order that they spell, or why
-- they spell none.
use Rattle.std.specs.Prelude.{ℕ, List, [], ◌∷◌, Option, Some, None, Result, Ok, Err, nat_lt, nat_le, Bool, true, false}
use Rattle.std.specs.Prelude.{◌&&◌, length, fold, take, drop, if◌then◌else◌, option_map}
use Rattle.map_tables.specs.Text.{place_of_text}
use Rattle.map_tables.specs.declared.place.Place.{Place}
use Rattle.std.specs.List.{list_all, list_any}
use Rattle.order_grammar.specs.Class.{class_reading, is_of_class}
use Rattle.order_grammar.specs.Keyword.{text_of_keyword}
use Rattle.order_grammar.specs.Name.{is_name}
use Rattle.order_grammar.specs.Words.{same_word}
use Rattle.order_grammar.specs.Order.{order_from, Parts}
use Rattle.order_grammar.specs.declared.class.Class.{Class}
use Rattle.order_grammar.specs.declared.class.Class.TheVariants as class
use Rattle.order_grammar.specs.declared.class.Reading.{Reading}
use Rattle.order_grammar.specs.declared.class.Reading.TheVariants as reading
use Rattle.order_grammar.specs.declared.fault.Fault.{Fault}
use Rattle.order_grammar.specs.declared.fault.Fault.TheVariants.{UnknownWord, WrongWords, NumberTooLarge}
use Rattle.order_grammar.specs.declared.form.TrailingClass.{TrailingClass}
use Rattle.order_grammar.specs.declared.form.TrailingClass.TheVariants as trailing_class
use Rattle.order_grammar.specs.declared.keyword.Keyword.{Keyword}
use Rattle.order_grammar.specs.declared.keyword.Keyword.TheVariants as keyword
use Rattle.order_grammar.specs.declared.order.Order.{Order}
use Rattle.order_grammar.specs.declared.order.Order.TheVariants.{Blank}
use Rattle.order_grammar.specs.declared.order.Trailing.{Trailing}
use Rattle.order_grammar.specs.declared.order.Trailing.TheVariants as trailing
use Rattle.order_grammar.specs.declared.order.Value.{Value}

-- a row of the table: the first word, the classes of the words after it, and the class that is
-- repeated at the end
pub record Row : Type 0 where
  pub keyword : Keyword
  pub classes : List Class
  pub trailing_class : TrailingClass

-- a row of the table of forms: the first word, the classes of the words after it, and what may be
-- repeated
abbrev pub row : Keyword → List Class → TrailingClass → Row
row keyword classes trailing_class = record { keyword = keyword; classes = classes; trailing_class = trailing_class }

-- the forms of lines: those of the file and of the heads of its parts, those of orders, CERT and
-- CLAIM, and then those of a certificate alone
abbrev pub forms : List Row
forms =
    row keyword.Game (class.Number ∷ class.Number ∷ []) trailing_class.Nothing
    ∷ row keyword.Players [] (trailing_class.Names 3 6)
    ∷ row keyword.Sheet (class.Name ∷ class.Round ∷ []) trailing_class.Nothing
    ∷ row keyword.Turn [] trailing_class.Nothing
    ∷ row keyword.Company (class.Company ∷ []) trailing_class.Nothing
    ∷ row keyword.Buy (class.Private ∷ []) trailing_class.Nothing
    ∷ row keyword.Buy (class.Company ∷ class.Word keyword.InitialOffering ∷ []) trailing_class.Nothing
    ∷ row keyword.Buy (class.Company ∷ class.Word keyword.Pool ∷ []) trailing_class.Nothing
    ∷ row keyword.Bid (class.Private ∷ class.Number ∷ []) trailing_class.Nothing
    ∷ row keyword.Limit (class.Private ∷ class.Number ∷ []) trailing_class.Nothing
    ∷ row keyword.Par (class.Company ∷ class.Number ∷ []) trailing_class.Nothing
    ∷ row keyword.Sell (class.Company ∷ class.Number ∷ []) trailing_class.Nothing
    ∷ row keyword.Exchange (class.Word keyword.Mohawk ∷ []) trailing_class.Nothing
    ∷ row keyword.Lay (class.Tile ∷ class.Hex ∷ class.Rotation ∷ []) trailing_class.Nothing
    ∷ row keyword.Lay (class.Tile ∷ class.Hex ∷ class.Rotation ∷ class.Word keyword.Swap ∷ []) trailing_class.Nothing
    ∷ row keyword.Token (class.Place ∷ []) trailing_class.Nothing
    ∷ row keyword.Run (class.Kind ∷ []) trailing_class.Places
    ∷ row keyword.Run (class.Word keyword.Best ∷ []) trailing_class.Nothing
    ∷ row keyword.Pay [] trailing_class.Nothing
    ∷ row keyword.Withhold [] trailing_class.Nothing
    ∷ row keyword.Train (class.Kind ∷ class.Word keyword.Bank ∷ []) trailing_class.Nothing
    ∷ row keyword.Train (class.Kind ∷ class.Word keyword.Bank ∷ class.Word keyword.Trade ∷ class.Kind ∷ [])
    trailing_class.Nothing
    ∷ row keyword.Train (class.Kind ∷ class.Word keyword.Pool ∷ []) trailing_class.Nothing
    ∷ row keyword.Train (class.Kind ∷ class.Company ∷ class.Number ∷ []) trailing_class.Nothing
    ∷ row keyword.Discard (class.Company ∷ class.Kind ∷ []) trailing_class.Nothing
    ∷ row keyword.Private (class.Private ∷ class.Number ∷ []) trailing_class.Nothing
    ∷ row keyword.Raise (class.Company ∷ class.Number ∷ []) trailing_class.Nothing
    ∷ row keyword.Offer (class.Word keyword.Private ∷ class.Private ∷ class.Company ∷ class.Number ∷ [])
    trailing_class.Nothing
    ∷ row keyword.Offer (class.Word keyword.Train ∷ class.Kind ∷ class.Company ∷ class.Company ∷ class.Number ∷ [])
    trailing_class.Nothing
    ∷ row keyword.Cert (class.Round ∷ class.Company ∷ class.Number ∷ []) trailing_class.Nothing
    ∷ row keyword.Claim (class.Kind ∷ []) trailing_class.Places
    ∷ row keyword.Certs (class.Word keyword.One ∷ []) trailing_class.Nothing
    ∷ row keyword.Marks (class.HexDigits ∷ []) trailing_class.Nothing
    ∷ []

-- the forms of an order file: all but CERTS and MARKS
abbrev pub order_forms : List Row
order_forms = take 31 forms

-- the forms of orders, which may be under a condition
abbrev pub play_forms : List Row
play_forms = take 24 (drop 5 forms)

-- the forms of the text of a certificate: CERT, CLAIM, CERTS and MARKS
abbrev pub cert_forms : List Row
cert_forms = drop 29 forms

-- names, at least and at most this many
abbrev pub are_names : ℕ → ℕ → List (List ℕ) → Bool
are_names least most words = nat_le least (length words) && nat_le (length words) most && list_all is_name words

-- a place before others
abbrev pub with_place : Option Place → Option (List Place) → Option (List Place)
with_place (Some place) (Some places) = Some (place ∷ places)
with_place place places = None

-- the places that words name, one for one
abbrev pub places_reading : List (List ℕ) → Option (List Place)
places_reading [] = Some []
places_reading (word ∷ words) = with_place (place_of_text word) (places_reading words)

-- a run may have this many places
abbrev pub is_run_length : ℕ → Bool
is_run_length number = nat_le 2 number && nat_le number 280

-- the run whose places words name
abbrev pub run_reading : List (List ℕ) → Option (List Place)
run_reading words = if is_run_length (length words) then places_reading words else None

-- what words are as those of a repeated class
abbrev pub trailing_reading : TrailingClass → List (List ℕ) → Option Trailing
trailing_reading trailing_class.Nothing [] = Some trailing.Nothing
trailing_reading trailing_class.Nothing (word ∷ words) = None
trailing_reading (trailing_class.Names least most) words =
    if are_names least most words then Some (trailing.Names (record { items = words })) else None
trailing_reading trailing_class.Places words = option_map trailing.Places (run_reading words)

-- The value of a word before the values of the later words. A word that is no text of its class
-- spoils all. A number that is too large spoils all but wrong words.
abbrev pub with_value : Reading → Result (List Value × Trailing) Fault → Result (List Value × Trailing) Fault
with_value reading.Wrong read = Err WrongWords
with_value reading.TooLarge (Ok read) = Err NumberTooLarge
with_value reading.TooLarge (Err fault) = Err fault
with_value (reading.Value value) (Ok read) = Ok (value ∷ read.0, read.1)
with_value (reading.Value value) (Err fault) = Err fault

-- the values of words as texts of these classes, one for one, and then of the class that is
-- repeated
abbrev pub values_reading : List Class → TrailingClass → List (List ℕ) → Result (List Value × Trailing) Fault
values_reading [] trailing_class words =
    elim (trailing_reading trailing_class words) [ Some trailing ↦ Ok ([], trailing) | None ↦ Err WrongWords ]
values_reading (class ∷ classes) trailing_class [] = Err WrongWords
values_reading (class ∷ classes) trailing_class (word ∷ words) =
    with_value (class_reading class word) (values_reading classes trailing_class words)

-- the values of the words after the first by a row
abbrev pub values_by_row : Row → List (List ℕ) → Result (List Value × Trailing) Fault
values_by_row row words = values_reading row.classes row.trailing_class words

-- an order of values that were read
abbrev pub order_of_values : Keyword → Result (List Value × Trailing) Fault → Result Order Fault
order_of_values keyword (Err fault) = Err fault
order_of_values keyword (Ok read) =
    elim (order_from keyword read.0 read.1) [ Some order ↦ Ok order | None ↦ Err WrongWords ]

-- what a reading is that puts the order in its place
abbrev pub put_reading : Result Unit Fault → Order → Result Order Fault
put_reading (Ok done) order = Ok order
put_reading (Err fault) order = Err fault

-- what a first word and the words after it are by a row
abbrev pub row_reading : Row → List ℕ → List (List ℕ) → Result Order Fault
row_reading row first rest =
    if same_word first (text_of_keyword row.keyword) then order_of_values row.keyword (values_by_row row rest) else
    Err UnknownWord

-- how near to an order it is
abbrev pub nearness : Result Order Fault → ℕ
nearness (Ok order) = 3
nearness (Err NumberTooLarge) = 2
nearness (Err WrongWords) = 1
nearness (Err other) = 0

-- the one that is nearer to an order; the first of two that are as near
abbrev pub nearer : Result Order Fault → Result Order Fault → Result Order Fault
nearer first second = if nat_lt (nearness first) (nearness second) then second else first

-- what a first word and the words after it are by some rows: what is nearest to an order
abbrev pub rows_reading : List Row → List ℕ → List (List ℕ) → Result Order Fault
rows_reading rows first rest =
    fold (λ (nearest : Result Order Fault) (row : Row). nearer nearest (row_reading row first rest)) (Err UnknownWord)
    rows

-- the order that the words of a line spell by some rows, or why they spell none
abbrev pub words_reading : List Row → List (List ℕ) → Result Order Fault
words_reading rows [] = Ok Blank
words_reading rows (first ∷ rest) = rows_reading rows first rest

-- whether what is at the end is of the class that is repeated there
abbrev pub is_of_trailing_class : TrailingClass → Trailing → Bool
is_of_trailing_class trailing_class.Nothing trailing.Nothing = true
is_of_trailing_class (trailing_class.Names least most) (trailing.Names names) = are_names least most names.items
is_of_trailing_class trailing_class.Places (trailing.Places run) = is_run_length (length run)
is_of_trailing_class trailing_class other = false

-- whether values are of these classes, one for one, and of the class that is repeated
abbrev pub are_of_classes : List Class → TrailingClass → List Value → Trailing → Bool
are_of_classes [] trailing_class [] trailing = is_of_trailing_class trailing_class trailing
are_of_classes [] trailing_class (value ∷ values) trailing = false
are_of_classes (class ∷ classes) trailing_class [] trailing = false
are_of_classes (class ∷ classes) trailing_class (value ∷ values) trailing =
    is_of_class class value && are_of_classes classes trailing_class values trailing

-- whether a row is the form of an order of these parts
abbrev pub is_row_of : Keyword → List Value → Trailing → Row → Bool
is_row_of keyword values trailing row =
    same_word (text_of_keyword row.keyword) (text_of_keyword keyword)
    && are_of_classes row.classes row.trailing_class values trailing

-- whether some form is that of an order of these parts
abbrev pub has_form : Parts → Bool
has_form parts = list_any (is_row_of parts.keyword parts.values parts.trailing) forms
