-- What the code's values are as those of the definitions.
use Rattle.std.specs.Prelude.{◌≡◌, ℕ, Bool, true, false, ◌&&◌, nat_le, length, if◌then◌else◌, List, [], ◌++◌, Option}
use Rattle.std.specs.Prelude.{Some, None, Result, Ok, Err, filter}
use Rattle.arrayvec.specs.ArrayVec.{ArrayVec}
use Rattle.order_grammar.specs.Form.{Row, row, are_names, cert_forms, order_forms, play_forms, values_by_row}
use Rattle.order_grammar.specs.Form.{values_reading}
use Rattle.order_grammar.specs.Keyword.{text_of_keyword}
use Rattle.order_grammar.specs.Words.{same_word}
use Rattle.order_grammar.specs.declared.fault.Fault.{Fault}
use Rattle.order_grammar.specs.declared.fault.Fault.TheVariants.{NumberTooLarge, WrongWords}
use Rattle.order_grammar.specs.declared.form.Form.{Form}
use Rattle.order_grammar.specs.declared.form.Grammar.{Grammar}
use Rattle.order_grammar.specs.declared.form.Grammar.TheVariants as grammar
use Rattle.order_grammar.specs.declared.form.Prefix.{Prefix}
use Rattle.order_grammar.specs.declared.form.TrailingClass.{TrailingClass}
use Rattle.order_grammar.specs.declared.form.TrailingClass.TheVariants as trailing_class
use Rattle.order_grammar.specs.declared.keyword.Keyword.{Keyword}
use Rattle.order_grammar.specs.declared.keyword.Keyword.TheVariants as keyword
use Rattle.order_grammar.specs.declared.name.Name.{Name}
use Rattle.order_grammar.specs.declared.order.Trailing.{Trailing}
use Rattle.order_grammar.specs.declared.order.Value.{Value}

-- the row that a form of the code is
abbrev pub row_of_form : Form → Row
row_of_form form = row form.keyword form.classes.now form.trailing_class

-- the rows of a grammar
abbrev pub rows_of : Grammar → List Row
rows_of grammar.OrderFile = order_forms
rows_of grammar.Play = play_forms
rows_of grammar.Certificate = cert_forms

-- the rows whose first word is a keyword
abbrev pub rows_with : Keyword → List Row → List Row
rows_with keyword rows = filter (λ row. same_word (text_of_keyword row.keyword) (text_of_keyword keyword)) rows

-- whether a grammar has the rows whose first word is a keyword
abbrev pub has_forms : Grammar → Keyword → Bool
has_forms grammar.OrderFile keyword.Certs = false
has_forms grammar.OrderFile keyword.Marks = false
has_forms grammar.OrderFile other = true
has_forms grammar.Play keyword.Game = false
has_forms grammar.Play keyword.Players = false
has_forms grammar.Play keyword.Sheet = false
has_forms grammar.Play keyword.Turn = false
has_forms grammar.Play keyword.Company = false
has_forms grammar.Play keyword.Cert = false
has_forms grammar.Play keyword.Claim = false
has_forms grammar.Play keyword.Certs = false
has_forms grammar.Play keyword.Marks = false
has_forms grammar.Play other = true
has_forms grammar.Certificate keyword.Cert = true
has_forms grammar.Certificate keyword.Claim = true
has_forms grammar.Certificate keyword.Certs = true
has_forms grammar.Certificate keyword.Marks = true
has_forms grammar.Certificate other = false

-- values so far, with whether a number was too large, before those to come
abbrev pub joined_values : List Value → Bool → Result (List Value × Trailing) Fault → Result (List Value × Trailing)
    Fault
joined_values prefix too_large (Ok rest) = if too_large then Err NumberTooLarge else Ok (prefix ++ rest.0, rest.1)
joined_values prefix too_large (Err fault) = Err fault

-- what was read of the words by a row, of which these are left: what is repeated comes next, or
-- they do not fit
abbrev pub AreRead : Row → List (List ℕ) → List (List ℕ) → Option Prefix → Type 0
AreRead row words left (Some prefix) =
    joined_values prefix.values.items prefix.too_large (values_reading [] row.trailing_class left) ≡ values_by_row row
    words
AreRead row words left None = Err WrongWords ≡ values_by_row row words

-- whether the code has room for what is repeated
abbrev pub has_room : TrailingClass → Bool
has_room trailing_class.Nothing = true
has_room (trailing_class.Names least most) = nat_le most 6
has_room trailing_class.Places = true

-- whether the code has room for the values of a row
abbrev pub is_short_row : Row → Bool
is_short_row row = nat_le (length row.classes) 5 && has_room row.trailing_class

-- the names that words are
abbrev pub names_reading : ℕ → ℕ → List (List ℕ) → Option (ArrayVec Name)
names_reading least most words = if are_names least most words then Some (record { items = words }) else None
