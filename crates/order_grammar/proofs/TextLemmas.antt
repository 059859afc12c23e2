-- A word is read as a value of a class exactly if it is a text of that value.
use Rattle.std.proofs.Common.{◌≡◌, ℕ, ◌+◌, ◌-◌, ◌≤◌, ◌==◌, ◌&&◌, true, false, nat_le, inl, inr, List, [], ◌∷◌, ◌++◌}
use Rattle.std.proofs.Common.{Option, Some, None, length, codes, decimal, get_or, take, drop, append_assoc, refl, sym}
use Rattle.std.proofs.Common.{ap, ◌∙◌, arith}
use Rattle.std.proofs.lemmas.Bool.{cases_Bool, eqb-true, eqb-false, ne_eqb, le-leb, leb-true, and_parts, false≢true}
use Rattle.std.proofs.lemmas.Fmt.{decimal_digit}
use Rattle.std.proofs.lemmas.Option.{same_Some}
use Rattle.std.proofs.lemmas.List.{drop_at, length-append, take-append-drop, take_at}
use Rattle.map_tables.specs.Text.{hex_of_text, place_of_text, rotation_of_text, tile_of_text}
use Rattle.map_tables.specs.declared.hex.Hex.{Hex}
use Rattle.map_tables.specs.declared.place.Place.{Place}
use Rattle.map_tables.specs.declared.side.Rotation.{Rotation}
use Rattle.map_tables.specs.declared.tiles.TileNo.{TileNo}
use Rattle.map_tables.proofs.Texts.{texts_read}
use Rattle.tables.specs.Roster.{companies, code_of_company, privates, code_of_private}
use Rattle.tables.specs.Train.{code_of_kind, kinds}
use Rattle.tables.specs.declared.rolling_stock.Kind.{Kind}
use Rattle.tables.specs.declared.rolling_stock.Kind.TheVariants as kind
use Rattle.tables.specs.declared.roster.Company.{Company}
use Rattle.tables.specs.declared.roster.Company.TheVariants as company
use Rattle.tables.specs.declared.roster.Private.{Private}
use Rattle.tables.specs.declared.roster.Private.TheVariants as private
use Rattle.tables.specs.declared.round.Round.TheVariants.{Opening, Stock, Operating}
use Rattle.order_grammar.specs.Class.{are_digits, are_hex_digits, value_of_digits, digits_reading, round_of_series}
use Rattle.order_grammar.specs.Class.{round_number_reading, number_in_set, operating_reading, round_reading}
use Rattle.order_grammar.specs.Class.{class_reading, code_reading, named_reading, is_of_class}
use Rattle.order_grammar.specs.Keyword.{text_of_keyword}
use Rattle.tables.specs.Round.{number_most, operating_most}
use Rattle.order_grammar.specs.Name.{is_name}
use Rattle.order_grammar.specs.Spells.{IsNumber, IsNumbered, IsOperating, IsRoundOfLine}
use Rattle.order_grammar.specs.Words.{same_word}
use Rattle.order_grammar.specs.declared.class.Class.{Class}
use Rattle.order_grammar.specs.declared.class.Class.TheVariants as class
use Rattle.order_grammar.specs.declared.class.Reading.{Reading}
use Rattle.order_grammar.specs.declared.class.Reading.TheVariants.{Value, TooLarge, Wrong}
use Rattle.order_grammar.specs.declared.class.Series.{Series}
use Rattle.order_grammar.specs.declared.class.Series.TheVariants as numbered
use Rattle.order_grammar.specs.declared.order.Value as values
use Rattle.order_grammar.specs.declared.order.Value.TheVariants as value
use Rattle.order_grammar.proofs.KeywordLemmas.{same_keyword, same_word-is, same_word-self}
use Rattle.order_grammar.proofs.OrderLemmas.{IsTextOf}
use Rattle.order_grammar.proofs.SmallLemmas.{is_small}

-- digits that are a number are read as it
number_read : (as_value : ℕ → values.Value) (text : List ℕ) (number : ℕ) → IsNumber number text
    → nat_le number number_most ≡ true →
    digits_reading as_value text ≡ Value (as_value number)
number_read as_value text number is small =
    let digits : are_digits text ≡ true = is.digits in
    rw (digits, is.value, small) refl

-- or as too large
number_too_large : (as_value : ℕ → values.Value) (text : List ℕ) (number : ℕ) → IsNumber number text
    → nat_le number number_most ≡ false →
    digits_reading as_value text ≡ TooLarge
number_too_large as_value text number is large =
    let digits : are_digits text ≡ true = is.digits in
    rw (digits, is.value, large) refl

-- digits that do not begin with 0 are the number of a round
round_digits_read : (series : Series) (digits : List ℕ) (number : ℕ) → (get_or digits 0 0 ≡ 48 → ⊥)
    → IsNumber number digits →
    round_number_reading series digits ≡ digits_reading (λ n. value.Round (round_of_series series n)) digits
round_digits_read series [] number other is = absurd (false≢true is.digits)
round_digits_read series (digit ∷ digits) number other is =
    let test : (digit == 48) ≡ false = ne_eqb digit 48 other in
    rw test refl

-- a point and a number from 1 to 3 are the number of an operating round in its set
in_set_read : (number : ℕ) → 1 ≤ number → number ≤ operating_most
    → number_in_set (codes "." ++ decimal number) ≡ Some number
in_set_read number least most =
    let low = le-leb 49 (48 + number) (omega (arith, least)) in
    let high = le-leb (48 + number) (48 + operating_most) (omega (arith, most)) in
    let value : 48 + number - 48 ≡ number = omega arith in
    ap (λ (digits : List ℕ). number_in_set (46 ∷ digits)) (decimal_digit number (omega (arith, most)))
    ∙ rw (low, high, value) refl

-- the numbers of an operating round are read as that of its set
operating_read : (digits : List ℕ) (number : ℕ) → 1 ≤ number → number ≤ operating_most →
    operating_reading (digits ++ (codes "." ++ decimal number))
    ≡ round_number_reading (numbered.Operating number) digits
operating_read digits number least most =
    let behind = codes "." ++ decimal number in
    let two : length behind ≡ 2 = ap (λ (ds : List ℕ). length (46 ∷ ds)) (decimal_digit number (omega (arith, most))) in
    let size : length digits ≡ length (digits ++ behind) - 2 = omega (arith, two, length-append digits behind) in
    let prefix : take (length (digits ++ behind) - 2) (digits ++ behind) ≡ digits = take_at digits behind _ size in
    let back : number_in_set (drop (length (digits ++ behind) - 2) (digits ++ behind)) ≡ Some number =
    ap number_in_set (drop_at digits behind _ size) ∙ in_set_read number least most in
    by_numbers (digits ++ behind) digits number prefix back where
      by_numbers : (word digits : List ℕ) (number : ℕ) → take (length word - 2) word ≡ digits
          → number_in_set (drop (length word - 2) word) ≡ Some number
          → operating_reading word ≡ round_number_reading (numbered.Operating number) digits
      by_numbers word digits number prefix back = rw (back, prefix, operating_reading) refl

-- where a text is that of the round of some series whose number has these digits, it is read as the
-- number
record IsReadBy (series : Series) (number : ℕ) (text : List ℕ) : Type 0 where
  digits : List ℕ
  no_zero : get_or digits 0 0 ≡ 48 → ⊥
  is_number : IsNumber number digits
  read : round_reading text ≡ round_number_reading series digits

opening_by : (text : List ℕ) (number : ℕ) → IsNumbered (codes "PR") number text → IsReadBy numbered.Opening number text
opening_by text number is = record { digits = is.0; no_zero = is.2; is_number = is.3; read = ap round_reading is.1 }

stock_by : (text : List ℕ) (number : ℕ) → IsNumbered (codes "SR") number text → IsReadBy numbered.Stock number text
stock_by text number is = record { digits = is.0; no_zero = is.2; is_number = is.3; read = ap round_reading is.1 }

operating_by : (text : List ℕ) (set number : ℕ) → IsOperating set number text
    → IsReadBy (numbered.Operating number) set text
operating_by text set number is =
    let whole : text ≡ codes "OR" ++ (is.numbered.0 ++ (codes "." ++ decimal number)) =
    is.whole ∙ append_assoc is.prefix (codes ".") (decimal number)
    ∙ ap (λ (prefix : List ℕ). prefix ++ (codes "." ++ decimal number)) is.numbered.1 in
    record {
      digits = is.numbered.0;
      no_zero = is.numbered.2;
      is_number = is.numbered.3;
      read =
          ap round_reading whole ∙ operating_read is.numbered.0 number is.least is.most;
    }

-- a round that is written is read as its digits are
round_read : (series : Series) (text : List ℕ) (number : ℕ) → IsReadBy series number text → (reading : Reading) →
    ((digits : List ℕ) → IsNumber number digits → digits_reading (λ n. value.Round (round_of_series series n)) digits
    ≡ reading) → round_reading text ≡ reading
round_read series text number is reading read =
    is.read ∙ round_digits_read series is.digits number is.no_zero is.is_number ∙ read is.digits is.is_number

-- a private and a company are read by their codes
private_read : (p : Private) → class_reading class.Private (code_of_private p) ≡ Value (value.Private p)
private_read private.SchuylkillValley = refl
private_read other = refl

company_read : (co : Company) → class_reading class.Company (code_of_company co) ≡ Value (value.Company co)
company_read company.Pennsylvania = refl
company_read other = refl

kind_read : (k : Kind) → class_reading class.Kind (code_of_kind k) ≡ Value (value.Kind k)
kind_read kind.Two = refl
kind_read other = refl

-- a text of a value of the class is read as the value, if that is small
pub value_read : (c : Class) (v : values.Value) (text : List ℕ) → is_of_class c v ≡ true → IsTextOf v text
    → is_small v ≡ true → class_reading c text ≡ Value v
value_read class.Number (value.Number number) text of is small = number_read value.Number text number is small
value_read class.Name (value.Name name) text of is small =
    let named : is_name text ≡ true = ap is_name is.0 ∙ is.1 in
    rw named (ap (λ (n : List ℕ). Value (value.Name n)) is.0)
value_read class.Round (value.Round (Opening number)) text of is small =
    round_read numbered.Opening text number (opening_by text number is) (Value (value.Round (Opening number)))
    (λ digits one. number_read (λ n. value.Round (Opening n)) digits number one small)
value_read class.Round (value.Round (Stock number)) text of is small =
    round_read numbered.Stock text number (stock_by text number is) (Value (value.Round (Stock number)))
    (λ digits one. number_read (λ n. value.Round (Stock n)) digits number one small)
value_read class.Round (value.Round (Operating set number)) text of is small =
    round_read (numbered.Operating number) text set (operating_by text set number is)
    (Value (value.Round (Operating set number)))
    (λ digits one. number_read (λ n. value.Round (Operating n number)) digits set one small)
value_read class.Private (value.Private p) text of is small = ap (class_reading class.Private) is ∙ private_read p
value_read class.Company (value.Company co) text of is small = ap (class_reading class.Company) is ∙ company_read co
value_read class.Kind (value.Kind k) text of is small = ap (class_reading class.Kind) is ∙ kind_read k
value_read class.Tile (value.Tile tile) text of is small =
    ap (named_reading value.Tile) ((texts_read.tiles text tile).1 is)
value_read class.Hex (value.Hex hex) text of is small = ap (named_reading value.Hex) ((texts_read.hexes text hex).1 is)
value_read class.Rotation (value.Rotation rotation) text of is small =
    ap (named_reading value.Rotation) ((texts_read.rotations text rotation).1 is)
value_read class.Place (value.Place place) text of is small =
    ap (named_reading value.Place) ((texts_read.places text place).1 is)
value_read class.HexDigits value.HexDigits text of is small = rw is refl
value_read (class.Word k) (value.Word other) text of is small =
    let same : k ≡ other = same_keyword k other of in
    rw (is, ← same, same_word-self (text_of_keyword k)) refl
value_read c v text of is small = absurd (false≢true of)

-- otherwise as too large
pub large_value_read : (c : Class) (v : values.Value) (text : List ℕ) → is_of_class c v ≡ true → IsTextOf v text
    → is_small v ≡ false →
    class_reading c text ≡ TooLarge
large_value_read class.Number (value.Number number) text of is large =
    number_too_large value.Number text number is large
large_value_read class.Round (value.Round (Opening number)) text of is large =
    round_read numbered.Opening text number (opening_by text number is) TooLarge
    (λ digits one. number_too_large (λ n. value.Round (Opening n)) digits number one large)
large_value_read class.Round (value.Round (Stock number)) text of is large =
    round_read numbered.Stock text number (stock_by text number is) TooLarge
    (λ digits one. number_too_large (λ n. value.Round (Stock n)) digits number one large)
large_value_read class.Round (value.Round (Operating set number)) text of is large =
    round_read (numbered.Operating number) text set (operating_by text set number is) TooLarge
    (λ digits one. number_too_large (λ n. value.Round (Operating n number)) digits set one large)
large_value_read c (value.Number number) text of is large = absurd (false≢true of)
large_value_read c (value.Round round) text of is large = absurd (false≢true of)
large_value_read c v text of is large = absurd (false≢true (sym large))

-- a value of a class, whose text the word is
pub record IsValueOf (c : Class) (text : List ℕ) (v : values.Value) : Type 0 where
  pub of_class : is_of_class c v ≡ true
  pub text_of : IsTextOf v text

-- what a reading of a word says of it
abbrev pub ReadAs : Class → List ℕ → Reading → Type 0
ReadAs c text Wrong = Unit {0}
ReadAs c text TooLarge = (v : values.Value) × IsValueOf c text v × (is_small v ≡ false)
ReadAs c text (Value v) = IsValueOf c text v × (is_small v ≡ true)

-- digits
digits_read : (c : Class) (as_value : ℕ → values.Value) (text whole : List ℕ)
    → ((number : ℕ) → is_small (as_value number) ≡ nat_le number number_most) →
    (IsNumber (value_of_digits text) text → IsValueOf c whole (as_value (value_of_digits text)))
    → ReadAs c whole (digits_reading as_value text)
digits_read c as_value text whole small is =
    elim (cases_Bool (are_digits text)) [
      | inl digits ↦
          let one = is (record { digits = digits; value = refl }) in
          elim (cases_Bool (nat_le (value_of_digits text) number_most)) [
            | inl few ↦ rw (digits, few) (one, small (value_of_digits text) ∙ few)
            | inr many ↦ rw (digits, many) (as_value (value_of_digits text), one, small (value_of_digits text) ∙ many)
          ]
      | inr other ↦ rw other tt
    ]

-- a round is small as its number is
small_round : (series : Series) (number : ℕ) → is_small (value.Round (round_of_series series number))
    ≡ nat_le number number_most
small_round numbered.Opening number = refl
small_round numbered.Stock number = refl
small_round (numbered.Operating number) set = refl

-- the number of a round of some series, in a text that is the round's where the digits are a number
round_number_read : (series : Series) (digits text : List ℕ) →
    ((number : ℕ) → (get_or digits 0 0 ≡ 48 → ⊥) → IsNumber number digits
    → IsRoundOfLine (round_of_series series number) text) →
    ReadAs class.Round text (round_number_reading series digits)
round_number_read series [] text is = tt
round_number_read series (digit ∷ digits) text is =
    elim (cases_Bool (digit == 48)) [
      | inl zero ↦ rw zero tt
      | inr other ↦
          rw other
          (digits_read class.Round (λ n. value.Round (round_of_series series n)) (digit ∷ digits) text
          (small_round series) (λ one. record {
            of_class = refl;
            text_of =
                is (value_of_digits (digit ∷ digits)) (eqb-false digit 48 other) one;
          }))
    ]

-- a text that begins with two letters
lettered : (text letters : List ℕ) → same_word (take 2 text) letters ≡ true → text ≡ letters ++ drop 2 text
lettered text letters same =
    sym (take-append-drop 2 text) ∙ ap (λ (start : List ℕ). start ++ drop 2 text)
    (same_word-is (take 2 text) letters same)

-- what is read as a number in a set is a point and that number
in_set : (behind : List ℕ) (number : ℕ) → number_in_set behind ≡ Some number
    → (behind ≡ codes "." ++ decimal number) × (1 ≤ number) × (number ≤ operating_most)
in_set [] number e = absurd cc
in_set (point ∷ []) number e = absurd cc
in_set (point ∷ digit ∷ []) number e =
    elim (cases_Bool (point == 46 && (nat_le 49 digit && nat_le digit (48 + operating_most)))) [
      | inl all ↦
          let found : Some (digit - 48) ≡ Some number = rw all at e in
          let a = and_parts (point == 46) (nat_le 49 digit && nat_le digit (48 + operating_most)) all in
          let b = and_parts (nat_le 49 digit) (nat_le digit (48 + operating_most)) a.1 in
          let is = same_Some (digit - 48) number found in
          let low = leb-true 49 digit b.0 in
          let high = leb-true digit (48 + operating_most) b.1 in
          let byte : 48 + number ≡ digit = omega (arith, is, low) in
          let point_is : point ≡ 46 = eqb-true point 46 a.0 in
          let written : digit ∷ [] ≡ decimal number = ap (λ (d : ℕ). d ∷ []) (sym byte)
          ∙ sym (decimal_digit number (omega (arith, is, high))) in (
            ap (λ (p : ℕ). p ∷ digit ∷ []) point_is ∙ ap (λ (ds : List ℕ). 46 ∷ ds) written,
            omega (arith, is, low),
            omega (arith, is, high),
          )
      | inr other ↦ let wrong : None ≡ Some number = rw other at e in absurd cc
    ]
in_set (a ∷ b ∷ c ∷ rest) number e = absurd cc

-- the numbers of an operating round
operating_made : (word text : List ℕ) (found : Option ℕ) → text ≡ codes "OR" ++ word
    → number_in_set (drop (length word - 2) word) ≡ found →
    ReadAs class.Round text (operating_reading word)
operating_made word text None is e = rw (e, operating_reading) tt
operating_made word text (Some number) is e =
    let digits = take (length word - 2) word in
    let behind = in_set (drop (length word - 2) word) number e in
    let parted : word ≡ digits ++ (codes "." ++ decimal number) =
    sym (take-append-drop (length word - 2) word) ∙ ap (λ (ds : List ℕ). digits ++ ds) behind.0 in
    let whole : text ≡ (codes "OR" ++ digits) ++ codes "." ++ decimal number =
    is ∙ ap (λ (w : List ℕ). codes "OR" ++ w) parted
    ∙ sym (append_assoc (codes "OR" ++ digits) (codes ".") (decimal number)) in
    rw (e, operating_reading) (round_number_read (numbered.Operating number) digits text (λ set other one. record {
      prefix = codes "OR" ++ digits;
      numbered = (digits, refl, other, one);
      whole = whole;
      least = behind.1;
      most = behind.2;
    }))

round_made : (text : List ℕ) → ReadAs class.Round text (round_reading text)
round_made text =
    elim (cases_Bool (same_word (take 2 text) (codes "PR"))) [
      | inl same ↦
          rw same (round_number_read numbered.Opening (drop 2 text) text
          (λ number other one. (drop 2 text, lettered text (codes "PR") same, other, one)))
      | inr other ↦
          elim (cases_Bool (same_word (take 2 text) (codes "SR"))) [
            | inl same ↦
                rw (other, same)
                (round_number_read numbered.Stock (drop 2 text) text
                (λ number no_zero one. (drop 2 text, lettered text (codes "SR") same, no_zero, one)))
            | inr neither ↦
                elim (cases_Bool (same_word (take 2 text) (codes "OR"))) [
                  | inl same ↦ rw (other, neither, same) (operating_made (drop 2 text) text _
                      (lettered text (codes "OR") same) refl)
                  | inr none ↦ rw (other, neither, none) tt
                ]
          ]
    ]

-- what a word says that is read as a code
abbrev CodeAs : {X : Type 0} → (X → List ℕ) → (X → values.Value) → List ℕ → Reading → Type 0
CodeAs {X} code as_value text (Value v) = (one : X) × (v ≡ as_value one) × (text ≡ code one)
CodeAs code as_value text Wrong = Unit {0}
CodeAs code as_value text TooLarge = ⊥

code_made : {X : Type 0} (code : X → List ℕ) (as_value : X → values.Value) (all : List X) (text : List ℕ) →
    CodeAs code as_value text (code_reading code as_value all text)
code_made code as_value [] text = tt
code_made code as_value (first ∷ others) text =
    elim (cases_Bool (same_word text (code first))) [
      | inl same ↦ rw same (first, refl, same_word-is text (code first) same)
      | inr other ↦ rw other (code_made code as_value others text)
    ]

private_as : (text : List ℕ) (reading : Reading) → CodeAs code_of_private value.Private text reading
    → ReadAs class.Private text reading
private_as text (Value v) h = rw h.1 (record { of_class = refl; text_of = h.2 }, refl)
private_as text Wrong h = tt
private_as text TooLarge h = absurd h

company_as : (text : List ℕ) (reading : Reading) → CodeAs code_of_company value.Company text reading
    → ReadAs class.Company text reading
company_as text (Value v) h = rw h.1 (record { of_class = refl; text_of = h.2 }, refl)
company_as text Wrong h = tt
company_as text TooLarge h = absurd h

kind_as : (text : List ℕ) (reading : Reading) → CodeAs code_of_kind value.Kind text reading
    → ReadAs class.Kind text reading
kind_as text (Value v) h = rw h.1 (record { of_class = refl; text_of = h.2 }, refl)
kind_as text Wrong h = tt
kind_as text TooLarge h = absurd h

-- a word that names something
tile_as : (text : List ℕ) (found : Option TileNo) → tile_of_text text ≡ found
    → ReadAs class.Tile text (named_reading value.Tile found)
tile_as text (Some tile) e = (record { of_class = refl; text_of = (texts_read.tiles text tile).0 e }, refl)
tile_as text None e = tt

hex_as : (text : List ℕ) (found : Option Hex) → hex_of_text text ≡ found
    → ReadAs class.Hex text (named_reading value.Hex found)
hex_as text (Some hex) e = (record { of_class = refl; text_of = (texts_read.hexes text hex).0 e }, refl)
hex_as text None e = tt

rotation_as : (text : List ℕ) (found : Option Rotation) → rotation_of_text text ≡ found
    → ReadAs class.Rotation text (named_reading value.Rotation found)
rotation_as text (Some rotation) e = (
  record { of_class = refl; text_of = (texts_read.rotations text rotation).0 e },
  refl,
)
rotation_as text None e = tt

place_as : (text : List ℕ) (found : Option Place) → place_of_text text ≡ found
    → ReadAs class.Place text (named_reading value.Place found)
place_as text (Some place) e = (record { of_class = refl; text_of = (texts_read.places text place).0 e }, refl)
place_as text None e = tt

-- what a word is read as says of it
pub class_read : (c : Class) (text : List ℕ) → ReadAs c text (class_reading c text)
class_read class.Number text = digits_read class.Number value.Number text text (λ number. refl)
    (λ one. record { of_class = refl; text_of = one })
class_read class.Name text =
    elim (cases_Bool (is_name text)) [
      | inl named ↦ rw named (record { of_class = refl; text_of = (refl, named) }, refl)
      | inr other ↦ rw other tt
    ]
class_read class.Round text = round_made text
class_read class.Private text = private_as text (class_reading class.Private text)
    (code_made code_of_private value.Private privates text)
class_read class.Company text = company_as text (class_reading class.Company text)
    (code_made code_of_company value.Company companies text)
class_read class.Kind text = kind_as text (class_reading class.Kind text) (code_made code_of_kind value.Kind kinds text)
class_read class.Tile text = tile_as text (tile_of_text text) refl
class_read class.Hex text = hex_as text (hex_of_text text) refl
class_read class.Rotation text = rotation_as text (rotation_of_text text) refl
class_read class.Place text = place_as text (place_of_text text) refl
class_read class.HexDigits text =
    elim (cases_Bool (are_hex_digits text)) [
      | inl digits ↦ rw digits (record { of_class = refl; text_of = digits }, refl)
      | inr other ↦ rw other tt
    ]
class_read (class.Word k) text =
    elim (cases_Bool (same_word text (text_of_keyword k))) [
      | inl same ↦ rw same (
        record {
          of_class = same_word-self (text_of_keyword k);
          text_of =
              same_word-is text (text_of_keyword k) same;
        },
        refl,
      )
      | inr other ↦ rw other tt
    ]
