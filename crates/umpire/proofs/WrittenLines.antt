-- The lines of a text that is written line by line, and what is printed in them.
use Rattle.std.proofs.Common.{◌≡◌, ℕ, ◌+◌, ◌*◌, ◌%◌, ◌^◌, ◌<◌, ◌≤◌, ◌==◌, true, false, ◌&&◌}
use Rattle.std.proofs.Common.{nat_le, List, [], ◌∷◌, ◌++◌, Option, Some, None, codes}
use Rattle.std.proofs.Common.{length, map, append_assoc, refl, sym, ap, subst, ◌∙◌, arith}
use Rattle.std.specs.Fmt.{decimal}
use Rattle.std.specs.List.{AllByRecursion, flat_map, list_all}
use Rattle.std.proofs.lemmas.Bool.{and_from, and_parts, leb-true}
use Rattle.std.proofs.lemmas.Bool.Decides.{nat_tests}
use Rattle.std.proofs.lemmas.Fmt.{decimal_by_steps, decimal_digit}
use Rattle.std.proofs.lemmas.List.{append-nil, length-append}
use Rattle.std.proofs.lemmas.List.Concat.{flat_map-cons}
use Rattle.std.proofs.lemmas.List.Folds.{list_all-append}
use Rattle.map_tables.specs.Hex.{column_of, row_of}
use Rattle.map_tables.specs.Text.{stop_text, text_of_hex, text_of_place}
use Rattle.map_tables.specs.declared.hex.Hex.{Hex}
use Rattle.map_tables.specs.declared.place.Place.{Place}
use Rattle.map_tables.specs.declared.place.StopNumber.{StopNumber}
use Rattle.map_tables.specs.declared.place.StopNumber.TheVariants.{First, Second}
use Rattle.map_tables.proofs.Texts.{column_short, hex_text-le, row_capital}
use Rattle.tables.specs.Roster.{code_of_company}
use Rattle.tables.specs.Train.{code_of_kind}
use Rattle.tables.specs.declared.rolling_stock.Kind.{Kind}
use Rattle.tables.specs.declared.rolling_stock.Kind.TheVariants as kinds
use Rattle.tables.specs.declared.roster.Company.{Company}
use Rattle.tables.specs.declared.roster.Company.TheVariants as companies
use Rattle.tables.specs.declared.round.Round.{Round}
use Rattle.tables.specs.declared.round.Round.TheVariants.{Opening, Stock, Operating}
use Rattle.tables.specs.Round.{number_most, operating_most}
use Rattle.order_grammar.specs.Print.{spaced, spelling_of, text_of_round}
use Rattle.order_grammar.specs.Spells.{FitsLineIn, is_round_of_line}
use Rattle.order_grammar.specs.Texts.{certificate}
use Rattle.order_grammar.specs.Words.{is_printable}
use Rattle.order_grammar.specs.declared.order.Order.TheVariants.{Claim}
use Rattle.sheets.specs.Text.{lines_from, lines_of, without_return}

-- every byte is printable
abbrev pub ArePrintable : List ℕ → Type 0
ArePrintable bytes = list_all is_printable bytes ≡ true

-- a printable byte ends no line
no_newline : (byte : ℕ) → is_printable byte ≡ true → (byte == 10) ≡ false
no_newline byte h = grind (arith, nat_tests)

no_return : (byte : ℕ) → is_printable byte ≡ true → (byte == 13) ≡ false
no_return byte h = grind (arith, nat_tests)

pub whole_line : (line : List ℕ) → ArePrintable line → without_return line ≡ line
whole_line [] h = refl
whole_line (byte ∷ []) h = let parts = and_parts (is_printable byte) true h in rw (no_return byte parts.0) refl
whole_line (byte ∷ next ∷ bytes) h =
    let parts = and_parts (is_printable byte) (list_all is_printable (next ∷ bytes)) h in
    ap (λ l. byte ∷ l) (whole_line (next ∷ bytes) parts.1)

-- the first line of a text
first_from : (begun line rest : List ℕ) → ArePrintable line
    → lines_from begun (line ++ 10 ∷ rest) ≡ without_return (begun ++ line) ∷ lines_from [] rest
first_from begun [] rest h = rw (append-nil begun) refl
first_from begun (byte ∷ line) rest h =
    let parts = and_parts (is_printable byte) (list_all is_printable line) h in
    rw (no_newline byte parts.0)
    (first_from (begun ++ byte ∷ []) line rest parts.1
    ∙ ap (λ l. without_return l ∷ lines_from [] rest) (append_assoc begun (byte ∷ []) line))

-- a text is these lines, and whatever follows it is the lines after them
pub record IsWritten (text : List ℕ) (lines : List (List ℕ)) : Type 0 where
  pub before : (rest : List ℕ) → lines_of (text ++ rest) ≡ lines ++ lines_of rest

pub nothing_written : IsWritten [] []
nothing_written = record { before = λ rest. refl }

pub line_written : (line : List ℕ) → ArePrintable line → IsWritten (line ++ 10 ∷ []) (line ∷ [])
line_written line h =
    record {
      before = λ rest.
          ap lines_of (append_assoc line (10 ∷ []) rest) ∙ first_from [] line rest h
          ∙ ap (λ l. l ∷ lines_of rest) (whole_line line h);
    }

pub both_written : (a b : List ℕ) (l m : List (List ℕ)) → IsWritten a l → IsWritten b m → IsWritten (a ++ b) (l ++ m)
both_written a b l m first second =
    record {
      before = λ rest.
          ap lines_of (append_assoc a b rest) ∙ first.before (b ++ rest) ∙ ap (λ lines. l ++ lines) (second.before rest)
          ∙ sym (append_assoc l m (lines_of rest));
    }

pub all_written :
    {X : Type 0} (f : X → List ℕ) (g : X → List (List ℕ)) (xs : List X)
    → AllByRecursion (λ x. IsWritten (f x) (g x)) xs →
    IsWritten (flat_map f xs) (flat_map g xs)
all_written f g [] all = nothing_written
all_written {X = X} f g (x ∷ xs) all =
    subst (λ (text : List ℕ). IsWritten text (flat_map g (x ∷ xs))) (sym (flat_map-cons f x xs))
    (subst (λ (lines : List (List ℕ)). IsWritten (f x ++ flat_map f xs) lines) (sym (flat_map-cons g x xs))
    (both_written (f x) (flat_map f xs) (g x) (flat_map g xs) all.0 (all_written f g xs all.1)))

-- the lines of a written text
pub lines_written : (text : List ℕ) (lines : List (List ℕ)) → IsWritten text lines → lines_of text ≡ lines
lines_written text lines is = ap lines_of (sym (append-nil text)) ∙ is.before [] ∙ append-nil lines

-- what is printed of numbers, rounds, companies, kinds of trains and places is printable
pub both_printable : (a b : List ℕ) → ArePrintable a → ArePrintable b → ArePrintable (a ++ b)
both_printable a b first second = list_all-append is_printable a b
    ∙ and_from (list_all is_printable a) (list_all is_printable b) first second

one_digit : (number : ℕ) → number < 10 → ArePrintable ((48 + number) ∷ [])
one_digit number small = grind (arith, nat_tests)

pub printable_number : (number : ℕ) → number < 2 ^ 64 → ArePrintable (decimal number)
printable_number number small =
    decimal_by_steps (λ (n : ℕ) (digits : List ℕ). ArePrintable digits) one_digit
    (λ n digits large h. both_printable digits ((48 + n % 10) ∷ []) h (one_digit (n % 10) (omega arith))) number small

pub printable_round : (round : Round) → is_round_of_line round ≡ true → ArePrintable (text_of_round round)
printable_round (Opening number) h =
    let most = leb-true number number_most (and_parts (nat_le 1 number) (nat_le number number_most) h).1 in
    both_printable (codes "PR") (decimal number) refl (printable_number number (omega (arith, most)))
printable_round (Stock number) h =
    let most = leb-true number number_most (and_parts (nat_le 1 number) (nat_le number number_most) h).1 in
    both_printable (codes "SR") (decimal number) refl (printable_number number (omega (arith, most)))
printable_round (Operating set number) h =
    let parts = and_parts (nat_le 1 set && nat_le set number_most) (nat_le 1 number && nat_le number operating_most)
    h in
    let set_most = leb-true set number_most (and_parts (nat_le 1 set) (nat_le set number_most) parts.0).1 in
    let most = leb-true number operating_most (and_parts (nat_le 1 number) (nat_le number operating_most) parts.1).1 in
    both_printable ((codes "OR" ++ decimal set) ++ codes ".") (decimal number)
    (both_printable (codes "OR" ++ decimal set) (codes ".")
    (both_printable (codes "OR") (decimal set) refl (printable_number set (omega (arith, set_most)))) refl)
    (printable_number number (omega (arith, most)))

pub printable_company : (company : Company) → ArePrintable (code_of_company company)
printable_company companies.Pennsylvania = refl
printable_company other = refl

pub printable_kind : (kind : Kind) → ArePrintable (code_of_kind kind)
printable_kind kinds.Two = refl
printable_kind other = refl

capital_printable : (byte : ℕ) → (nat_le 65 byte && nat_le byte 90) ≡ true → is_printable byte ≡ true
capital_printable byte h = grind (arith, nat_tests)

printable_hex : (hex : Hex) → ArePrintable (text_of_hex hex)
printable_hex hex =
    and_from (is_printable (row_of hex)) (list_all is_printable (decimal (column_of hex)))
    (capital_printable (row_of hex) (row_capital hex))
    (printable_number (column_of hex) (omega (arith, column_short hex)))

printable_stop : (stop : Option StopNumber) → ArePrintable (stop_text stop)
printable_stop None = refl
printable_stop (Some First) = printable_number 0 (omega arith)
printable_stop (Some Second) = printable_number 1 (omega arith)

printable_place : (place : Place) → ArePrintable (text_of_place place)
printable_place place = both_printable (text_of_hex place.hex) (stop_text place.stop) (printable_hex place.hex)
    (printable_stop place.stop)

-- words with a space before each
pub printable_spaced : (words : List (List ℕ)) → AllByRecursion ArePrintable words → ArePrintable (spaced words)
printable_spaced [] all = refl
printable_spaced (word ∷ words) all =
    ap (list_all is_printable) (flat_map-cons (λ (w : List ℕ). 32 ∷ w) word words)
    ∙ both_printable (32 ∷ word) (spaced words) all.0 (printable_spaced words all.1)

-- how long these are
short_stop : (stop : Option StopNumber) → length (stop_text stop) ≤ 2
short_stop None = omega arith
short_stop (Some First) = omega (arith, ap length (decimal_digit 0 (omega arith)))
short_stop (Some Second) = omega (arith, ap length (decimal_digit 1 (omega arith)))

short_place : (place : Place) → length (text_of_place place) ≤ 5
short_place place =
    omega (
      arith,
      length-append (text_of_hex place.hex) (stop_text place.stop),
      hex_text-le place.hex,
      short_stop
          place.stop,
    )

one_more : (word : List ℕ) (words : List (List ℕ))
    → length (spaced (word ∷ words)) ≡ 1 + length word + length (spaced words)
one_more word words =
    ap length (flat_map-cons (λ (w : List ℕ). 32 ∷ w) word words) ∙ length-append (32 ∷ word) (spaced words)
    ∙ omega arith

short_places : (places : List Place) → length (spaced (map text_of_place places)) ≤ 6 * length places
short_places [] = omega arith
short_places (place ∷ places) =
    omega (arith, one_more (text_of_place place) (map text_of_place places), short_place place, short_places places)

short_kind : (kind : Kind) → length (code_of_kind kind) ≡ 1
short_kind kinds.Two = refl
short_kind other = refl

-- a CLAIM line of up to 280 places is within the length of a line
pub claim_fits : (kind : Kind) (run : List Place) → length run ≤ 280 → FitsLineIn certificate (Claim kind run)
claim_fits kind run few =
    let places : List (List ℕ) = map text_of_place run in
    let long : length (spelling_of (Claim kind run)) ≡ 5 + length (spaced (code_of_kind kind ∷ places)) =
    length-append (codes "CLAIM") (spaced (code_of_kind kind ∷ places)) in
    omega (arith, long, one_more (code_of_kind kind) places, short_kind kind, short_places run, few)

pub printable_places : (places : List Place) → AllByRecursion ArePrintable (map text_of_place places)
printable_places [] = tt
printable_places (place ∷ places) = (printable_place place, printable_places places)
