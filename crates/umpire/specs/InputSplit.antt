-- How the input of a check of certificates is split: into an order file, and the text of the
-- certificates after it.
use Rattle.std.specs.Prelude.{ℕ, ◌==◌, ◌-◌, Bool, true, false, ◌&&◌, if◌then◌else◌, List, [], ◌∷◌, length, take, Option}
use Rattle.std.specs.Prelude.{Some, None, unwrap_or, Result, Ok}
use Rattle.std.specs.Option.{option_or}
use Rattle.order_grammar.specs.Line.{cert_reading_of}
use Rattle.order_grammar.specs.declared.fault.Fault.{Fault}
use Rattle.order_grammar.specs.declared.order.Order.{Order}
use Rattle.order_grammar.specs.declared.order.Order.TheVariants.{Certs}
use Rattle.sheets.specs.Text.{lines_of}

-- a line of at most 2,048 bytes whose words are `CERTS 1`, by what is read of it
abbrev pub says_certs : Result Order Fault → Bool
says_certs (Ok Certs) = true
says_certs other = false

-- such a line: with it the text of certificates begins
unfoldable pub is_divider : List ℕ → Bool
is_divider line = says_certs (cert_reading_of line)

-- the first of some lines is one
abbrev pub begin_with_divider : List (List ℕ) → Bool
begin_with_divider [] = false
begin_with_divider (line ∷ lines) = is_divider line

-- what is in a text from its last such line on; a line may begin with the first byte, or not
abbrev pub from_divider : Bool → List ℕ → Option (List ℕ)
from_divider begins [] = None
from_divider begins (byte ∷ bytes) = option_or (from_divider (byte == 10) bytes)
    (if begins && begin_with_divider (lines_of (byte ∷ bytes)) then Some (byte ∷ bytes) else None)

-- a text without the one LF that ends it
abbrev pub without_newline : List ℕ → List ℕ
without_newline [] = []
without_newline (byte ∷ []) = if byte == 10 then [] else byte ∷ []
without_newline (byte ∷ next ∷ bytes) = byte ∷ without_newline (next ∷ bytes)

-- the order file of an input, by the text after it: all before that; the whole if there is none
abbrev pub file_before : List ℕ → Option (List ℕ) → List ℕ
file_before input None = input
file_before input (Some text) = without_newline (take (length input - length text) input)

-- the order file of an input
unfoldable pub order_file_of : List ℕ → List ℕ
order_file_of input = file_before input (from_divider true input)

-- the text of the certificates of an input; nothing if there is none
unfoldable pub certificates_of_input : List ℕ → List ℕ
certificates_of_input input = unwrap_or (from_divider true input) []

-- the most bytes of that text
abbrev pub certificates_most : ℕ
certificates_most = 67108864
