-- What a word of a command line names, in capital or small letters.
use Rattle.std.specs.Prelude.{ℕ, Bool, List, Option, find, map}
use Rattle.std.specs.Char.{to_ascii_uppercase}
use Rattle.std.specs.Str.{str_eq_ignore_ascii_case}
use Rattle.map_tables.specs.Text.{hex_of_text}
use Rattle.map_tables.specs.declared.hex.Hex.{Hex}
use Rattle.tables.specs.Roster.{code_of_company, companies}
use Rattle.tables.specs.Train.{code_of_kind, kinds}
use Rattle.tables.specs.declared.rolling_stock.Kind.{Kind}
use Rattle.tables.specs.declared.roster.Company.{Company}

-- a word is a company's code
abbrev pub names_company : List ℕ → Company → Bool
names_company word company = str_eq_ignore_ascii_case (code_of_company company) word

-- the company that a word names, if it names one
abbrev pub company_named : List ℕ → Option Company
company_named word = find (names_company word) companies

-- a word is the code of a kind of train
abbrev pub names_kind : List ℕ → Kind → Bool
names_kind word kind = str_eq_ignore_ascii_case (code_of_kind kind) word

-- the kind of train that a word names, if it names one
abbrev pub kind_named : List ℕ → Option Kind
kind_named word = find (names_kind word) kinds

-- the hex that a word names, if it names one
abbrev pub hex_named : List ℕ → Option Hex
hex_named word = hex_of_text (map to_ascii_uppercase word)
