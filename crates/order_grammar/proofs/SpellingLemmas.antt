-- The spelling of an order is a line of its words.
use Rattle.std.proofs.Common.{◌≡◌, ℕ, ◌+◌, ◌-◌, ◌*◌, ◌/◌, ◌%◌, ◌^◌, ◌<◌, ◌≤◌, ◌==◌, Bool, ltb, nat_le, true, false, not}
use Rattle.std.proofs.Common.{◌&&◌, List, [], ◌∷◌, ◌++◌, Option, Some, None, Ok, codes, length, drop, map, append_assoc}
use Rattle.std.proofs.Common.{refl, sym, ap, subst, ◌∙◌, arith}
use Rattle.std.specs.Char.{to_ascii_uppercase}
use Rattle.std.specs.Fmt.{decimal}
use Rattle.std.specs.List.{list_all}
use Rattle.std.proofs.lemmas.Bool.{and_from, and_parts, eqb-true, false≢true, le-ltb, leb-true, not-true, or_left, or_right}
use Rattle.std.proofs.lemmas.Bool.Decides.{nat_tests}
use Rattle.std.proofs.lemmas.Fmt.{decimal_digit, decimal_by_steps, decimal_nonempty, first_decimal, length-decimal-le}
use Rattle.std.proofs.lemmas.List.{drop_at, length-append, length-map, append-nil}
use Rattle.std.proofs.lemmas.List.Concat.{flat_map-cons}
use Rattle.std.proofs.lemmas.List.Folds.{list_all-append}
use Rattle.std.proofs.lemmas.List.Sums.{fold_push}
use Rattle.map_tables.specs.Hex.{column_of, row_of}
use Rattle.map_tables.specs.Side.{sixths_turned}
use Rattle.map_tables.specs.Text.{is_digit, stop_text, text_of_hex, text_of_place}
use Rattle.map_tables.specs.Tile.{number_of_tile}
use Rattle.map_tables.specs.declared.hex.Hex.{Hex}
use Rattle.map_tables.specs.declared.place.Place.{Place}
use Rattle.map_tables.specs.declared.place.StopNumber.{StopNumber}
use Rattle.map_tables.specs.declared.place.StopNumber.TheVariants.{First, Second}
use Rattle.map_tables.specs.declared.side.Rotation.{Rotation}
use Rattle.map_tables.specs.declared.side.Rotation.TheVariants.{Zero}
use Rattle.map_tables.proofs.Texts.{column_short, hex_text-le, number_short, row_capital}
use Rattle.tables.specs.Roster.{code_of_company, code_of_private}
use Rattle.tables.specs.Train.{code_of_kind}
use Rattle.tables.specs.declared.rolling_stock.Kind.{Kind}
use Rattle.tables.specs.declared.rolling_stock.Kind.TheVariants as kind
use Rattle.tables.specs.declared.roster.Company.{Company}
use Rattle.tables.specs.declared.roster.Company.TheVariants as company
use Rattle.tables.specs.declared.roster.Private.{Private}
use Rattle.tables.specs.declared.roster.Private.TheVariants as private
use Rattle.tables.specs.declared.round.Round.{Round}
use Rattle.tables.specs.declared.round.Round.TheVariants.{Opening, Stock, Operating}
use Rattle.order_grammar.specs.Class.{are_digits, value_of_digits, is_of_class}
use Rattle.order_grammar.specs.Form.{Row, forms, words_reading, is_row_of, has_form, are_of_classes}
use Rattle.order_grammar.specs.Form.{is_of_trailing_class}
use Rattle.order_grammar.specs.Keyword.{text_of_keyword}
use Rattle.tables.specs.Round.{number_most, operating_most}
use Rattle.order_grammar.specs.Line.{reading_by}
use Rattle.order_grammar.specs.Name.{is_name, is_capital, is_letter_or_digit}
use Rattle.order_grammar.specs.Order.{made_of, parts_of, Parts}
use Rattle.order_grammar.specs.Print.{spaced, joined, text_of_value, words_of_trailing, words_of_parts, spelling_of}
use Rattle.order_grammar.specs.Row.{has_room, is_short_row}
use Rattle.order_grammar.specs.Spells.{AreWordsFor, HasSmallNumbers, IsNumber, IsNumbered, is_round_of_line}
use Rattle.order_grammar.specs.Spells.{BeginWithOneOf, FitsLineIn, IsOrderIn}
use Rattle.order_grammar.specs.Texts.{TextKind}
use Rattle.order_grammar.specs.Words.{before, with_word, words_from, raised, words_of, is_printable, same_word}
use Rattle.order_grammar.specs.declared.class.Class.{Class}
use Rattle.order_grammar.specs.declared.form.TrailingClass.{TrailingClass}
use Rattle.order_grammar.specs.declared.form.TrailingClass.TheVariants as trailing_class
use Rattle.order_grammar.specs.declared.keyword.Keyword.{Keyword}
use Rattle.order_grammar.specs.declared.keyword.Keyword.TheVariants as keyword
use Rattle.order_grammar.specs.declared.order.Order.{Order}
use Rattle.order_grammar.specs.declared.order.Offer.TheVariants as offer
use Rattle.order_grammar.specs.declared.order.Order.TheVariants.{Play, Run, Claim}
use Rattle.order_grammar.specs.declared.order.Trailing.{Trailing}
use Rattle.order_grammar.specs.declared.order.Trailing.TheVariants as trailing
use Rattle.order_grammar.specs.declared.order.TrainSource.TheVariants as source
use Rattle.order_grammar.specs.declared.order.Value.{Value}
use Rattle.order_grammar.specs.declared.order.Value.TheVariants as value
use Rattle.order_grammar.specs.declared.play.PlayOrder.TheVariants.{BuyTrain, Offer}
use Rattle.order_grammar.proofs.HasWords.{has_word, has_words, have_words}
use Rattle.order_grammar.proofs.OrderLemmas.{IsTextOf, AreTextsOf, AreWordsOfTrailing, AreWordsByParts, of_parts}
use Rattle.order_grammar.proofs.PartLemmas.{AreRowsOf, known_read}
use Rattle.order_grammar.proofs.RowLemmas.{among_any, all_among}
use Rattle.order_grammar.proofs.SmallLemmas.{is_small, are_small, small_of_parts}
use Rattle.order_grammar.proofs.SpellsLemmas.{spelt_words_read}
use Rattle.order_grammar.proofs.WordLemmas.{words_from-word}

-- a byte of a printed word: printable, no space, no `#`, and no letter in lower case
abbrev is_plain : ℕ → Bool
is_plain byte = is_printable byte && (not (byte == 32) && (not (byte == 35) && to_ascii_uppercase byte == byte))

-- a printed word
pub record IsPlain (word : List ℕ) : Type 0 where
  pub some : 0 < length word
  pub few : length word ≤ 16
  pub plain : list_all is_plain word ≡ true

unfoldable pub ArePlain : List (List ℕ) → Type 0
ArePlain [] = Unit {0}
ArePlain (word ∷ words) = IsPlain word × ArePlain words

-- what is known of a plain byte
record PlainByte (byte : ℕ) : Type 0 where
  printable : is_printable byte ≡ true
  no_space : (byte == 32) ≡ false
  no_comment : (byte == 35) ≡ false
  stays : to_ascii_uppercase byte ≡ byte

plain_byte : (byte : ℕ) → is_plain byte ≡ true → PlainByte byte
plain_byte byte h =
    let a = and_parts (is_printable byte) (not (byte == 32) && (not (byte == 35) && to_ascii_uppercase byte == byte))
    h in
    let b = and_parts (not (byte == 32)) (not (byte == 35) && to_ascii_uppercase byte == byte) a.1 in
    let d = and_parts (not (byte == 35)) (to_ascii_uppercase byte == byte) b.1 in
    record {
      printable = a.0;
      no_space = not-true (byte == 32) b.0;
      no_comment = not-true (byte == 35) d.0;
      stays =
          eqb-true (to_ascii_uppercase byte) byte d.1;
    }

-- a plain word is as it is when it is raised
raised-plain : (word : List ℕ) → list_all is_plain word ≡ true → raised word ≡ word
raised-plain [] h = refl
raised-plain (byte ∷ bytes) h =
    let parts = and_parts (is_plain byte) (list_all is_plain bytes) h in
    rw ((plain_byte byte parts.0).stays, raised-plain bytes parts.1) refl

-- no byte of a plain word ends it
before-plain : (stop : ℕ) (word rest : List ℕ) → ((byte : ℕ) → PlainByte byte → (byte == stop) ≡ false)
    → list_all is_plain word ≡ true →
    before stop (word ++ rest) ≡ word ++ before stop rest
before-plain stop [] rest other h = refl
before-plain stop (byte ∷ bytes) rest other h =
    let parts = and_parts (is_plain byte) (list_all is_plain bytes) h in
    rw (other byte (plain_byte byte parts.0), before-plain stop bytes rest other parts.1) refl

-- a plain word is printable
printable-plain : (word : List ℕ) → list_all is_plain word ≡ true → list_all is_printable word ≡ true
printable-plain [] h = refl
printable-plain (byte ∷ bytes) h =
    let parts = and_parts (is_plain byte) (list_all is_plain bytes) h in
    rw ((plain_byte byte parts.0).printable, printable-plain bytes parts.1) refl

-- the first of spaced words
pub spaced-cons : (word : List ℕ) (words : List (List ℕ)) → spaced (word ∷ words) ≡ (32 ∷ word) ++ spaced words
spaced-cons word words = flat_map-cons (λ (w : List ℕ). 32 ∷ w) word words

-- words with spaces before them have no `#`
before-spaced : (words : List (List ℕ)) → ArePlain words → before 35 (spaced words) ≡ spaced words
unfolding ArePlain
before-spaced [] h = refl
before-spaced (word ∷ words) h =
    ap (before 35) (spaced-cons word words)
    ∙ ap (λ (bytes : List ℕ). 32 ∷ bytes)
    (before-plain 35 word (spaced words) (λ byte p. p.no_comment) h.0.plain
    ∙ ap (λ (bytes : List ℕ). word ++ bytes) (before-spaced words h.1))
    ∙ sym (spaced-cons word words)

-- they are printable
printable-spaced : (words : List (List ℕ)) → ArePlain words → list_all is_printable (spaced words) ≡ true
unfolding ArePlain
printable-spaced [] h = refl
printable-spaced (word ∷ words) h =
    ap (list_all is_printable) (spaced-cons word words) ∙ list_all-append is_printable (32 ∷ word) (spaced words)
    ∙ and_from (list_all is_printable (32 ∷ word)) (list_all is_printable (spaced words))
    (printable-plain word h.0.plain) (printable-spaced words h.1)

-- they are not long
length-spaced : (words : List (List ℕ)) → ArePlain words → length (spaced words) ≤ 17 * length words
unfolding ArePlain
length-spaced [] h = omega arith
length-spaced (word ∷ words) h =
    omega (
      arith,
      h.0.few,
      ap length (spaced-cons word words),
      length-append (32 ∷ word) (spaced words),
      length-spaced
          words h.1,
    )

-- the first of them ends where the next begins
before_next : (words : List (List ℕ)) → before 32 (spaced words) ≡ []
before_next [] = refl
before_next (word ∷ words) = ap (before 32) (spaced-cons word words)

-- a word with bytes comes first
in_prefix : (word : List ℕ) (words : List (List ℕ)) → 0 < length word → with_word word words ≡ word ∷ words
in_prefix [] words h = absurd (omega arith)
in_prefix (byte ∷ bytes) words h = refl

-- a word before them
words_from-joined : (word : List ℕ) (words : List (List ℕ)) → IsPlain word → words_from [] (spaced words) ≡ words →
    words_from [] (word ++ spaced words) ≡ word ∷ words
words_from-joined word words plain rest =
    let first : before 32 (word ++ spaced words) ≡ word =
    before-plain 32 word (spaced words) (λ byte p. p.no_space) plain.plain
    ∙ ap (λ (bytes : List ℕ). word ++ bytes) (before_next words) ∙ append-nil word in
    words_from-word [] (word ++ spaced words)
    ∙ ap (λ (w : List ℕ). with_word w (words_from [] (drop (length w) (word ++ spaced words)))) first
    ∙ ap (λ (bytes : List ℕ). with_word word (words_from [] bytes)) (drop_at word (spaced words) (length word) refl)
    ∙ ap (with_word word) rest ∙ in_prefix word words plain.some

-- the words of spaced words
words_from-spaced : (words : List (List ℕ)) → ArePlain words → words_from [] (spaced words) ≡ words
unfolding ArePlain
words_from-spaced [] h = refl
words_from-spaced (word ∷ words) h = ap (words_from []) (spaced-cons word words)
    ∙ words_from-joined word words h.0 (words_from-spaced words h.1)

-- raised, they are as they are
raised-words : (words : List (List ℕ)) → ArePlain words → map raised words ≡ words
unfolding ArePlain
raised-words [] h = refl
raised-words (word ∷ words) h = rw (raised-plain word h.0.plain, raised-words words h.1) refl

-- 20 plain words are not long
pub few_fit : (words : List (List ℕ)) → ArePlain words → length words ≤ 20 → length (joined words) ≤ 340
unfolding ArePlain
few_fit [] h few = omega arith
few_fit (word ∷ words) h few = omega (arith, few, h.0.few, length-append word (spaced words), length-spaced words h.1)

-- plain words with single spaces between them
pub record AreJoined (words : List (List ℕ)) : Type 0 where
  pub printable : list_all is_printable (before 35 (joined words)) ≡ true
  pub are : words_of (joined words) ≡ words

pub joined_line : (words : List (List ℕ)) → ArePlain words → AreJoined words
unfolding ArePlain
joined_line [] h = record { printable = refl; are = refl }
joined_line (word ∷ words) h =
    let line = joined (word ∷ words) in
    let clear : before 35 line ≡ line =
    before-plain 35 word (spaced words) (λ byte p. p.no_comment) h.0.plain
    ∙ ap (λ (bytes : List ℕ). word ++ bytes) (before-spaced words h.1) in
    record {
      printable =
          ap (list_all is_printable) clear ∙ list_all-append is_printable word (spaced words)
          ∙ and_from _ _ (printable-plain word h.0.plain) (printable-spaced words h.1);
      are =
          ap (λ (bytes : List ℕ). map raised (words_from [] bytes)) clear
          ∙ ap (map raised) (words_from-joined word words h.0 (words_from-spaced words h.1))
          ∙ raised-words (word ∷ words) h;
    }

-- where they fit a line they are what the words are
reading_by-joined : (most : ℕ) (rows : List Row) (words : List (List ℕ)) → ArePlain words →
    length (joined words) ≤ most →
    reading_by most rows (joined words) ≡ words_reading rows words
reading_by-joined most rows words h fits =
    let short : ltb most (length (joined words)) ≡ false = le-ltb most (length (joined words)) fits in
    let line = joined_line words h in
    rw (short, line.printable) (ap (words_reading rows) line.are)

-- letters in upper case and digits are plain
plain_letter : (byte : ℕ) → is_letter_or_digit byte ≡ true → is_plain byte ≡ true
plain_letter byte h = grind (arith, nat_tests)

plain_letters : (word : List ℕ) → list_all is_letter_or_digit word ≡ true → list_all is_plain word ≡ true
plain_letters [] all = refl
plain_letters (byte ∷ bytes) all =
    let parts = and_parts (is_letter_or_digit byte) (list_all is_letter_or_digit bytes) all in
    rw (plain_letter byte parts.0, plain_letters bytes parts.1) refl

-- what is known of the digits of a number
abbrev DigitsOf : ℕ → List ℕ → Type 0
DigitsOf number digits = (list_all is_digit digits ≡ true) × (value_of_digits digits ≡ number)

one_digit : (number : ℕ) → number < 10 → list_all is_digit ((48 + number) ∷ []) ≡ true
one_digit number small = grind (arith, nat_tests)

-- one digit
digits_one : (number : ℕ) → number < 10 → DigitsOf number ((48 + number) ∷ [])
digits_one number small = (one_digit number small, omega arith)

-- one more digit
digits_more : (number : ℕ) (digits : List ℕ) → 10 ≤ number → DigitsOf (number / 10) digits
    → DigitsOf number (digits ++ ((48 + number % 10) ∷ []))
digits_more number digits large h =
    let last = one_digit (number % 10) (omega arith) in
    let value : value_of_digits (digits ++ ((48 + number % 10) ∷ []))
    ≡ value_of_digits digits * 10 + (48 + number % 10 - 48) =
    fold_push (λ value digit. value * 10 + (digit - 48)) 0 digits (48 + number % 10) in
    (list_all-append is_digit digits ((48 + number % 10) ∷ []) ∙ and_from _ _ h.0 last, value ∙ omega (arith, h.1))

some_digits : (digits : List ℕ) → 0 < length digits → list_all is_digit digits ≡ true → are_digits digits ≡ true
some_digits [] some all = absurd (omega arith)
some_digits (digit ∷ digits) some all = all

-- the spelling of a number is that number
pub decimal_number : (number : ℕ) → number ≤ number_most → IsNumber number (decimal number)
decimal_number number small =
    let long : number < 2 ^ 64 = omega arith in
    let digits = decimal_by_steps DigitsOf digits_one digits_more number long in
    record { digits = some_digits (decimal number) (decimal_nonempty number long) digits.0; value = digits.1 }

-- digits are plain
plain_digits : (digits : List ℕ) → list_all is_digit digits ≡ true → list_all is_plain digits ≡ true
plain_digits [] all = refl
plain_digits (digit ∷ digits) all =
    let parts = and_parts (is_digit digit) (list_all is_digit digits) all in
    rw (plain_letter digit (or_right (is_capital digit) (is_digit digit) parts.0), plain_digits digits parts.1) refl

-- the spelling of a number is plain
pub decimal_plain : (number : ℕ) → number ≤ number_most → IsPlain (decimal number)
decimal_plain number small =
    let long : number < 2 ^ 64 = omega arith in
    let digits = decimal_by_steps DigitsOf digits_one digits_more number long in
    let few = length-decimal-le 5 number (omega arith) (omega arith) long in
    record {
      some = decimal_nonempty number long;
      few = omega (arith, few);
      plain =
          plain_digits (decimal number) digits.0;
    }

-- a name is plain
name_plain : (name : List ℕ) → is_name name ≡ true → IsPlain name
name_plain [] is = absurd (false≢true is)
name_plain (first ∷ rest) is =
    let parts = and_parts (is_capital first) (nat_le (length rest) 7 && list_all is_letter_or_digit rest) is in
    let others = and_parts (nat_le (length rest) 7) (list_all is_letter_or_digit rest) parts.1 in
    let few = leb-true (length rest) 7 others.0 in
    let here : is_letter_or_digit first ≡ true = or_left (is_capital first) (is_digit first) parts.0 in
    record {
      some = omega arith;
      few = omega (arith, few);
      plain =
          plain_letters (first ∷ rest) (and_from (is_letter_or_digit first) (list_all is_letter_or_digit rest) here
          others.1);
    }

names_plain : (names : List (List ℕ)) → list_all is_name names ≡ true → ArePlain names
unfolding ArePlain
names_plain [] all = tt
names_plain (name ∷ names) all =
    let parts = and_parts (is_name name) (list_all is_name names) all in
    (name_plain name parts.0, names_plain names parts.1)

-- whether a word that is known is plain
abbrev is_plain_word : List ℕ → Bool
is_plain_word word = nat_le 1 (length word) && (nat_le (length word) 16 && list_all is_plain word)

pub plain_word : (word : List ℕ) → is_plain_word word ≡ true → IsPlain word
plain_word word h =
    let a = and_parts (nat_le 1 (length word)) (nat_le (length word) 16 && list_all is_plain word) h in
    let b = and_parts (nat_le (length word) 16) (list_all is_plain word) a.1 in
    record { some = leb-true 1 (length word) a.0; few = leb-true (length word) 16 b.0; plain = b.1 }

keyword_plain : (k : Keyword) → is_plain_word (text_of_keyword k) ≡ true
keyword_plain keyword.Game = refl
keyword_plain other = refl

code_plain : (p : Private) → is_plain_word (code_of_private p) ≡ true
code_plain private.SchuylkillValley = refl
code_plain other = refl

pub company_plain : (co : Company) → is_plain_word (code_of_company co) ≡ true
company_plain company.Pennsylvania = refl
company_plain other = refl

pub kind_plain : (k : Kind) → is_plain_word (code_of_kind k) ≡ true
kind_plain kind.Two = refl
kind_plain other = refl

-- what is known of the word of a value
record IsSpelt (v : Value) : Type 0 where
  text : IsTextOf v (text_of_value v)
  small : is_small v ≡ true
  plain : IsPlain (text_of_value v)

-- what is known of the spelling of a round whose letters are these
record IsNumberedText (letters : List ℕ) (number : ℕ) : Type 0 where
  text : IsNumbered letters number (letters ++ decimal number)
  few : length (letters ++ decimal number) ≤ 7
  small : nat_le number number_most ≡ true
  plain : IsPlain (letters ++ decimal number)

numbered_text : (letters : List ℕ) (number : ℕ) → length letters ≤ 2 → list_all is_plain letters ≡ true →
    (nat_le 1 number && nat_le number number_most) ≡ true → IsNumberedText letters number
numbered_text letters number two letters_plain has =
    let parts = and_parts (nat_le 1 number) (nat_le number number_most) has in
    let least = leb-true 1 number parts.0 in
    let most = leb-true number number_most parts.1 in
    let long : number < 2 ^ 64 = omega (arith, most) in
    let first = first_decimal number (omega (arith, least)) (omega (arith, most)) in
    let digits = decimal_plain number most in
    let few = length-decimal-le 5 number (omega arith) (omega (arith, most)) long in
    let size = length-append letters (decimal number) in
    record {
      text = (decimal number, refl, (λ e. omega (arith, first, e)), decimal_number number most);
      few = omega (arith, few, size, two);
      small = parts.1;
      plain = record {
        some = omega (arith, size, digits.some);
        few = omega (arith, few, size, two);
        plain = list_all-append is_plain letters (decimal number)
            ∙ and_from (list_all is_plain letters) (list_all is_plain (decimal number)) letters_plain digits.plain;
      };
    }

-- more words after a plain word
plain_joined : (word more : List ℕ) → IsPlain word → length word + length more ≤ 16 → list_all is_plain more ≡ true
    → IsPlain (word ++ more)
plain_joined word more plain few more_plain = record {
  some = omega (arith, length-append word more, plain.some);
  few = omega (arith, length-append word more, few);
  plain = list_all-append is_plain word more ∙ and_from (list_all is_plain word) (list_all is_plain more) plain.plain
      more_plain;
}

-- a round
round_spelt : (round : Round) → is_round_of_line round ≡ true → IsSpelt (value.Round round)
round_spelt (Opening number) has =
    let spelt = numbered_text (codes "PR") number (omega arith) refl has in
    record { text = spelt.text; small = spelt.small; plain = spelt.plain }
round_spelt (Stock number) has =
    let spelt = numbered_text (codes "SR") number (omega arith) refl has in
    record { text = spelt.text; small = spelt.small; plain = spelt.plain }
round_spelt (Operating set number) has =
    let parts = and_parts (nat_le 1 set && nat_le set number_most) (nat_le 1 number && nat_le number operating_most)
    has in
    let in_set = and_parts (nat_le 1 number) (nat_le number operating_most) parts.1 in
    let most = leb-true number operating_most in_set.1 in
    let spelt = numbered_text (codes "OR") set (omega arith) refl parts.0 in
    let digits = decimal_plain number (omega (arith, most)) in
    let one : length (decimal number) ≡ 1 = ap length (decimal_digit number (omega (arith, most))) in
    record {
      text = record {
        prefix = codes "OR" ++ decimal set;
        numbered = spelt.text;
        whole = refl;
        least =
            leb-true 1 number in_set.0;
        most = most;
      };
      small = spelt.small;
      plain =
          subst IsPlain (sym (append_assoc (codes "OR" ++ decimal set) (codes ".") (decimal number)))
          (plain_joined (codes "OR" ++ decimal set) (codes "." ++ decimal number) spelt.plain
          (omega (arith, one, spelt.few)) digits.plain);
    }

-- the texts of hexes, places, tiles and rotations are plain
hex_plain : (hex : Hex) → IsPlain (text_of_hex hex)
hex_plain hex =
    let digits = decimal_plain (column_of hex) (omega (arith, column_short hex)) in
    let capital : is_letter_or_digit (row_of hex) ≡ true =
    or_left (is_capital (row_of hex)) (is_digit (row_of hex)) (row_capital hex) in
    record {
      some = omega arith;
      few = omega (arith, hex_text-le hex);
      plain = and_from (is_plain (row_of hex)) (list_all is_plain (decimal (column_of hex)))
          (plain_letter (row_of hex) capital) digits.plain;
    }

place_plain_from : (hex : Hex) (stop : Option StopNumber) → IsPlain (text_of_hex hex ++ stop_text stop)
place_plain_from hex None = subst IsPlain (sym (append-nil (text_of_hex hex))) (hex_plain hex)
place_plain_from hex (Some First) =
    plain_joined (text_of_hex hex) (stop_text (Some First)) (hex_plain hex)
    (omega (arith, hex_text-le hex, ap length (decimal_digit 0 (omega arith))))
    (decimal_plain 0 (omega arith)).plain
place_plain_from hex (Some Second) =
    plain_joined (text_of_hex hex) (stop_text (Some Second)) (hex_plain hex)
    (omega (arith, hex_text-le hex, ap length (decimal_digit 1 (omega arith))))
    (decimal_plain 1 (omega arith)).plain

turns_small : (rotation : Rotation) → nat_le (sixths_turned rotation) number_most ≡ true
turns_small Zero = refl
turns_small other = refl

-- the word of a value is its text
value_spelt : (v : Value) → has_word v ≡ true → IsSpelt v
value_spelt (value.Number number) has =
    let small = leb-true number number_most has in
    record { text = decimal_number number small; small = has; plain = decimal_plain number small }
value_spelt (value.Name name) has = record { text = (refl, has); small = refl; plain = name_plain name has }
value_spelt (value.Round round) has = round_spelt round has
value_spelt (value.Private p) has = record {
  text = refl;
  small = refl;
  plain =
      plain_word (code_of_private p) (code_plain p);
}
value_spelt (value.Company co) has = record {
  text = refl;
  small = refl;
  plain =
      plain_word (code_of_company co) (company_plain co);
}
value_spelt (value.Kind k) has = record {
  text = refl;
  small = refl;
  plain =
      plain_word (code_of_kind k) (kind_plain k);
}
value_spelt (value.Tile tile) has = record {
  text = refl;
  small = refl;
  plain =
      decimal_plain (number_of_tile tile) (omega (arith, number_short tile));
}
value_spelt (value.Hex hex) has = record { text = refl; small = refl; plain = hex_plain hex }
value_spelt (value.Rotation rotation) has =
    record {
      text = refl;
      small = refl;
      plain = decimal_plain (sixths_turned rotation)
          (leb-true (sixths_turned rotation) number_most (turns_small rotation));
    }
value_spelt (value.Place place) has = record {
  text = refl;
  small = refl;
  plain =
      place_plain_from place.hex place.stop;
}
value_spelt value.HexDigits has = absurd (false≢true has)
value_spelt (value.Word k) has = record {
  text = refl;
  small = refl;
  plain =
      plain_word (text_of_keyword k) (keyword_plain k);
}

-- the words of values and of what is repeated
record AreSpelt (values : List Value) (t : Trailing) : Type 0 where
  texts : AreTextsOf values t (map text_of_value values ++ words_of_trailing t)
  small : list_all is_small values ≡ true
  plain : ArePlain (map text_of_value values ++ words_of_trailing t)

-- what is repeated
trailing_texts : (t : Trailing) → AreWordsOfTrailing t (words_of_trailing t)
trailing_texts trailing.Nothing = tt
trailing_texts (trailing.Names names) = refl
trailing_texts (trailing.Places run) = refl

values_spelt : (values : List Value) (t : Trailing) → list_all has_word values ≡ true → ArePlain (words_of_trailing t)
    → AreSpelt values t
unfolding ArePlain
values_spelt [] t has plain = record { texts = trailing_texts t; small = refl; plain = plain }
values_spelt (v ∷ values) t has plain =
    let parts = and_parts (has_word v) (list_all has_word values) has in
    let first = value_spelt v parts.0 in
    let rest = values_spelt values t parts.1 plain in
    record {
      texts = (first.text, rest.texts);
      small = and_from (is_small v) (list_all is_small values) first.small
          rest.small;
      plain = (first.plain, rest.plain);
    }

-- what is repeated is not much, unless it is the places of a run
abbrev pub IsFew : Trailing → Type 0
IsFew (trailing.Places run) = Unit {0}
IsFew t = length (words_of_trailing t) ≤ 6

places_plain : (run : List Place) → ArePlain (map text_of_place run)
unfolding ArePlain
places_plain [] = tt
places_plain (place ∷ run) = (place_plain_from place.hex place.stop, places_plain run)

-- what is repeated is plain, and not much
record IsShortTrailing (t : Trailing) : Type 0 where
  plain : ArePlain (words_of_trailing t)
  few : IsFew t

trailing_short : (r : TrailingClass) (t : Trailing) → has_room r ≡ true → is_of_trailing_class r t ≡ true →
    IsShortTrailing t
unfolding ArePlain
trailing_short trailing_class.Nothing trailing.Nothing room of = record { plain = tt; few = omega arith }
trailing_short (trailing_class.Names least most) (trailing.Names names) room of =
    let named = and_parts (nat_le least (length names.items) && nat_le (length names.items) most)
    (list_all is_name names.items) of in
    let counted = and_parts (nat_le least (length names.items)) (nat_le (length names.items) most) named.0 in
    record {
      plain = names_plain names.items named.1;
      few =
          omega (arith, leb-true most 6 room, leb-true (length names.items) most counted.1);
    }
trailing_short trailing_class.Places (trailing.Places run) room of = record { plain = places_plain run; few = tt }
trailing_short r t room of = absurd (false≢true of)

-- as many values as classes, and then what is repeated
values_short : (classes : List Class) (r : TrailingClass) (values : List Value) (t : Trailing) → has_room r ≡ true
    → are_of_classes classes r values t ≡ true →
    (length values ≡ length classes) × IsShortTrailing t
values_short [] r [] t room of = (refl, trailing_short r t room of)
values_short [] r (v ∷ values) t room of = absurd (false≢true of)
values_short (c ∷ classes) r [] t room of = absurd (false≢true of)
values_short (c ∷ classes) r (v ∷ values) t room of =
    let parts = and_parts (is_of_class c v) (are_of_classes classes r values t) of in
    let rest = values_short classes r values t room parts.1 in
    (omega (arith, rest.0), rest.1)

-- each form is short
forms_short : list_all is_short_row forms ≡ true
forms_short = refl

-- parts with the places of a run fit a line
abbrev FitWithPlaces : ℕ → Keyword → List Value → Trailing → Type 0
FitWithPlaces most k values (trailing.Places run) =
    length (joined (words_of_parts (made_of k values (trailing.Places run)))) ≤ most
FitWithPlaces most k values t = Unit {0}

abbrev FitsParts : ℕ → Option Parts → Type 0
FitsParts most None = Unit {0}
FitsParts most (Some parts) = FitWithPlaces most parts.keyword parts.values parts.trailing

-- so do those of an order that does; a purchase and an offer are named, so that each of their kinds
-- is looked at
fits_by_parts : (text : TextKind) (order : Order) → FitsLineIn text order → FitsParts text.most (parts_of order)
fits_by_parts text (Run k run) fits = fits
fits_by_parts text (Claim k run) fits = fits
fits_by_parts text (Play (BuyTrain kind source.Bank)) fits = tt
fits_by_parts text (Play (Offer (offer.Train kind seller buyer price))) fits = tt
fits_by_parts text other fits = tt

-- parts of a form that have words fit a line
parts_fit : (most : ℕ) (k : Keyword) (values : List Value) (t : Trailing) → 340 ≤ most → length values ≤ 5 → IsFew t →
    ArePlain (words_of_parts (made_of k values t)) → FitWithPlaces most k values t
    → length (joined (words_of_parts (made_of k values t))) ≤ most
parts_fit most k values trailing.Nothing room five few plain fits =
    let short = few_fit _ plain (omega (
      arith,
      length-append (map text_of_value values) [],
      length-map values
          text_of_value,
      five,
    )) in
    omega (arith, short, room)
parts_fit most k values (trailing.Names names) room five few plain fits =
    let short = few_fit _ plain (omega (
      arith,
      length-append (map text_of_value values) names.items,
      length-map values
          text_of_value,
      five,
      few,
    )) in
    omega (arith, short, room)
parts_fit most k values (trailing.Places run) room five few plain fits = fits

-- what is known of the words of parts of a form that have words
pub record IsSpeltOut (order : Order) (parts : Parts) : Type 0 where
  pub plain : ArePlain (words_of_parts (Some parts))
  pub are : AreWordsFor order (words_of_parts (Some parts))
  pub small : HasSmallNumbers order
  pub five : length parts.values ≤ 5
  pub few : IsFew parts.trailing

pub spelt_out : (order : Order) (parts : Parts) → parts_of order ≡ Some parts → have_words (Some parts) ≡ true →
    IsSpeltOut order parts
unfolding ArePlain
spelt_out order parts is has =
    let values = parts.values in
    let h = and_parts (has_form parts) (list_all has_word values) has in
    let row = among_any (is_row_of parts.keyword values parts.trailing) forms h.0 in
    let of_row =
    and_parts (same_word (text_of_keyword row.0.keyword) (text_of_keyword parts.keyword))
    (are_of_classes row.0.classes row.0.trailing_class values parts.trailing) row.2 in
    let short = and_parts (nat_le (length row.0.classes) 5) (has_room row.0.trailing_class)
    (all_among is_short_row forms row.0 forms_short row.1) in
    let counted = values_short row.0.classes row.0.trailing_class values parts.trailing short.1 of_row.1 in
    let spelt = values_spelt values parts.trailing h.1 counted.1.plain in
    let words = words_of_parts (Some parts) in
    record {
      plain = (plain_word (text_of_keyword parts.keyword) (keyword_plain parts.keyword), spelt.plain);
      are = of_parts order words (subst (λ (p : Option Parts). AreWordsByParts p words) (sym is)
          ((refl, spelt.texts), h.0));
      small = small_of_parts order (ap are_small is ∙ spelt.small);
      five = omega (arith, counted.0, leb-true (length row.0.classes) 5 short.0);
      few = counted.1.few;
    }

-- parts of a form that have words are read as what they make, by the forms of a text that knows the
-- first of them
parts_read : (text : TextKind) (rows : List Row) → AreRowsOf text rows → 340 ≤ text.most →
    (order : Order) (parts : Option Parts) →
    parts_of order ≡ parts → have_words parts ≡ true → FitsParts text.most parts →
    BeginWithOneOf text.first_words (words_of_parts parts) →
    reading_by text.most rows (joined (words_of_parts parts)) ≡ Ok order
unfolding ArePlain
parts_read text rows of room order None is has fits known =
    reading_by-joined text.most rows [] tt (omega arith)
    ∙ spelt_words_read [] order (of_parts order [] (subst (λ (p : Option Parts). AreWordsByParts p []) (sym is) tt))
    (small_of_parts order (ap are_small is))
parts_read text rows of room order (Some parts) is has fits known =
    let words = words_of_parts (Some parts) in
    let spelt = spelt_out order parts is has in
    reading_by-joined text.most rows words spelt.plain
    (parts_fit text.most parts.keyword parts.values parts.trailing room spelt.five spelt.few spelt.plain fits)
    ∙ known_read text rows words of known
    ∙ spelt_words_read words order spelt.are spelt.small

-- the spelling of an order in a text is read as it
pub spelling_read : (text : TextKind) (rows : List Row) → AreRowsOf text rows → 340 ≤ text.most → (order : Order)
    → IsOrderIn text order →
    reading_by text.most rows (spelling_of order) ≡ Ok order
spelling_read text rows of room order is =
    parts_read text rows of room order (parts_of order) refl (has_words order is.0) (fits_by_parts text order is.1) is.2
