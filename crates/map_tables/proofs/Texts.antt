-- A text names a hex, a place, a tile or a rotation exactly if it is the text of that.
use Rattle.std.proofs.Common.{◌≡◌, ℕ, ◌+◌, ◌*◌, ◌-◌, ◌/◌, ◌%◌, ◌^◌, ◌<◌, ◌≤◌, ◌==◌, ◌&&◌, ltb, nat_le, nat_lt, true}
use Rattle.std.proofs.Common.{cond, inl, inr, List, [], ◌∷◌, ◌++◌, Option, Some, None, length, take, drop, decimal}
use Rattle.std.proofs.Common.{append_assoc, refl, sym, ap, ◌∙◌, arith}
use Rattle.std.specs.Option.{option_and_then}
use Rattle.std.proofs.lemmas.Bool.{cases_Bool, cases_lt, and_parts, eqb-true, ltb-true, lt-ltb}
use Rattle.std.proofs.lemmas.Bool.Decides.{nat_tests}
use Rattle.std.proofs.lemmas.Fmt.{decimal_digit, decimal_step}
use Rattle.std.proofs.lemmas.List.{append-nil, drop_at, length-append, take-append-drop, take_at}
use Rattle.std.proofs.lemmas.Option.{same_Some}
use Rattle.map_tables.specs.declared.hex.Hex.{Hex}
use Rattle.map_tables.specs.declared.hex.Hex.TheVariants.{A9}
use Rattle.map_tables.specs.declared.place.Place.{Place}
use Rattle.map_tables.specs.declared.place.StopNumber.{StopNumber}
use Rattle.map_tables.specs.declared.place.StopNumber.TheVariants.{First, Second}
use Rattle.map_tables.specs.declared.side.Rotation.{Rotation}
use Rattle.map_tables.specs.declared.side.Rotation.TheVariants.{Zero, One, Two, Three, Four, Five}
use Rattle.map_tables.specs.declared.tiles.TileNo.{TileNo}
use Rattle.map_tables.specs.declared.tiles.TileNo.TheVariants.{T1}
use Rattle.map_tables.specs.Hex.{hex_at, site_of, row_of, column_of}
use Rattle.map_tables.specs.Place.{stop_index_of}
use Rattle.map_tables.specs.Side.{rotation_of, sixths_turned}
use Rattle.map_tables.specs.Text.{text_of_hex, stop_text, text_of_place, text_of_tile, text_of_rotation, is_digit}
use Rattle.map_tables.specs.Text.{short_number, hex_of_text, stop_of_text, place_from, place_of_text, tile_of_text}
use Rattle.map_tables.specs.Text.{rotation_of_text, TextsAreRead}
use Rattle.map_tables.specs.Tile.{tiles, number_of_tile, tile_numbered, printed}
use Rattle.map_tables.proofs.HexAt.{hex_at-is, hex_at-site}
use Rattle.map_tables.proofs.ListedOnce.{tile_is_listed}
use Rattle.map_tables.proofs.Searches.{found_passes}

-- the digit of a number less than 10
digit_is : (d : ℕ) → d < 10 → is_digit (48 + d) ≡ true
digit_is d small = grind (arith, nat_tests)

short-one : (d : ℕ) → d < 10 → short_number ((48 + d) ∷ []) ≡ Some d
short-one d small =
    let value : 48 + d - 48 ≡ d = omega arith in
    rw (digit_is d small, value) refl

short-two : (t d : ℕ) → 0 < t → t < 10 → d < 10 → short_number ((48 + t) ∷ (48 + d) ∷ []) ≡ Some (t * 10 + d)
short-two t d some tens ones =
    let first : nat_lt 48 (48 + t) ≡ true = lt-ltb 48 (48 + t) (omega arith) in
    let value : (48 + t - 48) * 10 + (48 + d - 48) ≡ t * 10 + d = omega arith in
    rw (first, digit_is t tens, digit_is d ones, value) refl

-- a number of two digits as its text
pub two_digits : (n : ℕ) → 10 ≤ n → n < 100 → decimal n ≡ (48 + n / 10) ∷ (48 + n % 10) ∷ []
two_digits n large small =
    let long : n < 2 ^ 64 = omega arith in
    decimal_step n large long ∙ ap (λ (digits : List ℕ). digits ++ (48 + n % 10) ∷ [])
    (decimal_digit (n / 10) (omega arith))

-- a short number is read again
pub short_number-decimal : (n : ℕ) → n < 100 → short_number (decimal n) ≡ Some n
short_number-decimal n small =
    elim (cases_lt n 10) [
      | inl one ↦ ap short_number (decimal_digit n one) ∙ short-one n one
      | inr two ↦
          let whole : n / 10 * 10 + n % 10 ≡ n = omega arith in
          ap short_number (two_digits n two small) ∙ short-two (n / 10) (n % 10) (omega arith) (omega arith)
          (omega arith) ∙ ap (λ (m : ℕ). Some m) whole
    ]

-- what is known of a digit
digit_range : (byte : ℕ) → is_digit byte ≡ true → (48 ≤ byte) × (byte ≤ 57)
digit_range byte h = (grind (arith, nat_tests), grind (arith, nat_tests))

one-is : (ones n : ℕ) → is_digit ones ≡ true → ones - 48 ≡ n → ones ∷ [] ≡ decimal n
one-is ones n digit is =
    let range = digit_range ones digit in
    let byte : 48 + n ≡ ones = omega (arith, range.0) in
    sym (decimal_digit n (omega (arith, range.0, range.1)) ∙ ap (λ (b : ℕ). b ∷ []) byte)

two-is : (tens ones n : ℕ) → 48 < tens → is_digit tens ≡ true → is_digit ones ≡ true
    → (tens - 48) * 10 + (ones - 48) ≡ n → tens ∷ ones ∷ [] ≡ decimal n
two-is tens ones n some first second is =
    let a = digit_range tens first in
    let b = digit_range ones second in
    let t : 48 + n / 10 ≡ tens = omega (arith, a.0, a.1, b.0, b.1) in
    let o : 48 + n % 10 ≡ ones = omega (arith, a.0, a.1, b.0, b.1) in
    sym (two_digits n (omega (arith, a.0, a.1, b.0, b.1)) (omega (arith, a.0, a.1, b.0, b.1))
    ∙ ap (λ (x : ℕ). x ∷ (48 + n % 10) ∷ []) t ∙ ap (λ (x : ℕ). tens ∷ x ∷ []) o)

-- the text of a short number is what the number is written as
pub short_number-is : (text : List ℕ) (n : ℕ) → short_number text ≡ Some n → text ≡ decimal n
short_number-is [] n e = absurd cc
short_number-is (ones ∷ []) n e =
    elim (cases_Bool (is_digit ones)) [
      | inl digit ↦ let found : Some (ones - 48) ≡ Some n =
          rw digit at e in one-is ones n digit (same_Some (ones - 48) n found)
      | inr other ↦ let wrong : None ≡ Some n = rw other at e in absurd cc
    ]
short_number-is (tens ∷ ones ∷ []) n e =
    elim (cases_Bool (nat_lt 48 tens && (is_digit tens && is_digit ones))) [
      | inl all ↦
          let found : Some ((tens - 48) * 10 + (ones - 48)) ≡ Some n = rw all at e in
          let a = and_parts (nat_lt 48 tens) (is_digit tens && is_digit ones) all in
          let b = and_parts (is_digit tens) (is_digit ones) a.1 in
          two-is tens ones n (ltb-true 48 tens a.0) b.0 b.1 (same_Some ((tens - 48) * 10 + (ones - 48)) n found)
      | inr other ↦ let wrong : None ≡ Some n = rw other at e in absurd cc
    ]
short_number-is (a ∷ b ∷ c ∷ rest) n e = absurd cc

-- what a short number is written with
digits-le : (n : ℕ) → n < 100 → length (decimal n) ≤ 2
digits-le n small =
    elim (cases_lt n 10) [
      | inl one ↦ omega (arith, ap length (decimal_digit n one))
      | inr two ↦ omega (arith, ap length (two_digits n two small))
    ]

-- each column is short
column_test : (hex : Hex) → ltb (column_of hex) 100 ≡ true
unfolding site_of
column_test A9 = refl
column_test _ = refl

pub column_short : (hex : Hex) → column_of hex < 100
column_short hex = ltb-true (column_of hex) 100 (column_test hex)

-- a row has a capital letter
pub row_capital : (hex : Hex) → (nat_le 65 (row_of hex) && nat_le (row_of hex) 90) ≡ true
unfolding site_of
row_capital A9 = refl
row_capital _ = refl

-- the text of a hex is
pub hex_text-le : (hex : Hex) → length (text_of_hex hex) ≤ 3
hex_text-le hex = omega (arith, digits-le (column_of hex) (column_short hex))

-- as it is written
pub hex_written : (hex : Hex) (row column : ℕ) (prefix middle whole : List ℕ) → prefix ≡ [] → row ≡ row_of hex
    → column ≡ column_of hex → middle ≡ prefix ++ row ∷ [] → whole ≡ middle ++ decimal column → whole ≡ text_of_hex hex
hex_written hex row column prefix middle whole none r c first rest = rw (rest, first, none, r, c) refl

-- a hex is read again
pub hex_text : (hex : Hex) → hex_of_text (text_of_hex hex) ≡ Some hex
hex_text hex =
    ap (option_and_then (hex_at (row_of hex))) (short_number-decimal (column_of hex) (column_short hex))
    ∙ hex_at-site hex

-- only its text is
row_named : (row : ℕ) (digits : List ℕ) (found : Option ℕ) (hex : Hex) → short_number digits ≡ found
    → option_and_then (hex_at row) found ≡ Some hex → row ∷ digits ≡ text_of_hex hex
row_named row digits None hex is e = absurd cc
row_named row digits (Some column) hex is e =
    let at = hex_at-is row column hex e in
    ap (λ (r : ℕ). r ∷ digits) (sym at.0) ∙ ap (λ (ds : List ℕ). row_of hex ∷ ds)
    (short_number-is digits column is ∙ ap decimal (sym at.1))

pub hex_named : (text : List ℕ) (hex : Hex) → hex_of_text text ≡ Some hex → text ≡ text_of_hex hex
hex_named [] hex e = absurd cc
hex_named (row ∷ digits) hex e = row_named row digits (short_number digits) hex refl e

-- the number of a stop after its hex
stop_read : (number : StopNumber) → stop_of_text (stop_text (Some number)) ≡ Some number
stop_read First = ap (λ (digits : List ℕ). stop_of_text (46 ∷ digits)) (decimal_digit 0 (omega arith))
stop_read Second = ap (λ (digits : List ℕ). stop_of_text (46 ∷ digits)) (decimal_digit 1 (omega arith))

stop_first : (point digit i : ℕ) → i < 10 → (point == 46 && digit == 48 + i) ≡ true
    → point ∷ digit ∷ [] ≡ 46 ∷ decimal i
stop_first point digit i small h =
    let parts = and_parts (point == 46) (digit == 48 + i) h in
    let p : point ≡ 46 = eqb-true point 46 parts.0 in
    let d : digit ≡ 48 + i = eqb-true digit (48 + i) parts.1 in
    rw (p, d, decimal_digit i small) refl

stop_named : (text : List ℕ) (number : StopNumber) → stop_of_text text ≡ Some number → text ≡ stop_text (Some number)
stop_named [] number e = absurd cc
stop_named (point ∷ []) number e = absurd cc
stop_named (point ∷ digit ∷ []) number e =
    elim (cases_Bool (point == 46 && digit == 48)) [
      | inl first ↦
          let found : First ≡ number = same_Some First number (rw first at e) in
          stop_first point digit 0 (omega arith) first ∙ ap (λ (n : StopNumber). stop_text (Some n)) found
      | inr other ↦
          elim (cases_Bool (point == 46 && digit == 49)) [
            | inl second ↦
                let found : Second ≡ number = same_Some Second number (rw (other, second) at e) in
                stop_first point digit 1 (omega arith) second ∙ ap (λ (n : StopNumber). stop_text (Some n)) found
            | inr neither ↦ let wrong : None ≡ Some number = rw (other, neither) at e in absurd cc
          ]
    ]
stop_named (a ∷ b ∷ c ∷ rest) number e = absurd cc

-- a hex with a stop after it is no hex
long_number : (digits : List ℕ) (b : ℕ) → short_number (digits ++ 46 ∷ b ∷ []) ≡ None
long_number [] b = refl
long_number (d ∷ []) b = refl
long_number (d ∷ e ∷ rest) b = longer d e rest b where
  longer : (d e : ℕ) (rest : List ℕ) (b : ℕ) → short_number (d ∷ e ∷ (rest ++ 46 ∷ b ∷ [])) ≡ None
  longer d e [] b = refl
  longer d e (f ∷ rest) b = refl

stop_digit : (number : StopNumber) → decimal (stop_index_of number) ≡ (48 + stop_index_of number) ∷ []
stop_digit First = decimal_digit 0 (omega arith)
stop_digit Second = decimal_digit 1 (omega arith)

-- a place is read again
stop_of_hex_text : (hex : Hex) (number : StopNumber)
    → place_of_text (text_of_hex hex ++ stop_text (Some number)) ≡ Some (record { hex = hex; stop = Some number })
stop_of_hex_text hex number =
    let digit : decimal (stop_index_of number) ≡ (48 + stop_index_of number) ∷ [] = stop_digit number in
    let none : hex_of_text (text_of_hex hex ++ stop_text (Some number)) ≡ None =
    ap (λ (digits : List ℕ). option_and_then (hex_at (row_of hex))
    (short_number (decimal (column_of hex) ++ 46 ∷ digits))) digit
    ∙ ap (option_and_then (hex_at (row_of hex))) (long_number (decimal (column_of hex)) (48 + stop_index_of number)) in
    let size : length (text_of_hex hex ++ stop_text (Some number)) - 2 ≡ length (text_of_hex hex) =
    omega (arith, length-append (text_of_hex hex) (stop_text (Some number)), ap length digit) in
    let prefix : take (length (text_of_hex hex ++ stop_text (Some number)) - 2)
    (text_of_hex hex ++ stop_text (Some number)) ≡ text_of_hex hex =
    take_at (text_of_hex hex) (stop_text (Some number)) _ (sym size) in
    let back : drop (length (text_of_hex hex ++ stop_text (Some number)) - 2)
    (text_of_hex hex ++ stop_text (Some number)) ≡ stop_text (Some number) =
    drop_at (text_of_hex hex) (stop_text (Some number)) _ (sym size) in
    place_by (text_of_hex hex ++ stop_text (Some number)) hex number none (ap hex_of_text prefix ∙ hex_text hex)
    (ap stop_of_text back ∙ stop_read number) where
      place_by : (text : List ℕ) (hex : Hex) (number : StopNumber) → hex_of_text text ≡ None
          → hex_of_text (take (length text - 2) text) ≡ Some hex
          → stop_of_text (drop (length text - 2) text) ≡ Some number
          → place_of_text text ≡ Some (record { hex = hex; stop = Some number })
      place_by text hex number none prefix back = rw (none, prefix, back, place_of_text) refl

place_text_from : (hex : Hex) (stop : Option StopNumber)
    → place_of_text (text_of_hex hex ++ stop_text stop) ≡ Some (record { hex = hex; stop = stop })
place_text_from hex None =
    let whole : hex_of_text (text_of_hex hex ++ []) ≡ Some hex =
    ap hex_of_text (append-nil (text_of_hex hex)) ∙ hex_text hex in
    rw (whole, place_of_text) refl
place_text_from hex (Some number) = stop_of_hex_text hex number

pub place_text : (place : Place) → place_of_text (text_of_place place) ≡ Some place
place_text place = place_text_from place.hex place.stop

-- the text of a stop, as it is written
pub stop_written : (place : Place) (number : StopNumber) (digit : ℕ) (prefix middle whole : List ℕ)
    → prefix ≡ text_of_hex place.hex → place.stop ≡ Some number → digit ≡ 48 + stop_index_of number
    → middle ≡ prefix ++ 46 ∷ [] → whole ≡ middle ++ digit ∷ [] → whole ≡ text_of_place place
stop_written place number digit prefix middle whole hex stop is point end =
    let number_is : digit ∷ [] ≡ decimal (stop_index_of number) = ap (λ (d : ℕ). d ∷ []) is ∙ sym (stop_digit number) in
    end ∙ ap (λ (bytes : List ℕ). bytes ++ digit ∷ []) (point ∙ ap (λ (bytes : List ℕ). bytes ++ 46 ∷ []) hex)
    ∙ append_assoc (text_of_hex place.hex) (46 ∷ []) (digit ∷ [])
    ∙ ap (λ (bytes : List ℕ). text_of_hex place.hex ++ 46 ∷ bytes) number_is
    ∙ ap (λ (s : Option StopNumber). text_of_hex place.hex ++ stop_text s) (sym stop)

-- only its text is
stop_place_named : (prefix back : List ℕ) (hex : Option Hex) (stop : Option StopNumber) (place : Place)
    → hex_of_text prefix ≡ hex → stop_of_text back ≡ stop → place_from hex stop ≡ Some place
    → prefix ++ back ≡ text_of_place place
stop_place_named prefix back (Some hex) (Some number) place h s e =
    let is = same_Some (record { hex = hex; stop = Some number }) place e in
    ap (λ (text : List ℕ). text ++ back) (hex_named prefix hex h)
    ∙ ap (λ (text : List ℕ). text_of_hex hex ++ text) (stop_named back number s) ∙ ap text_of_place is
stop_place_named prefix back (Some hex) None place h s e = absurd cc
stop_place_named prefix back None stop place h s e = absurd cc

place_named_by : (text : List ℕ) (found : Option Hex) (place : Place) → hex_of_text text ≡ found
    → place_of_text text ≡ Some place → text ≡ text_of_place place
place_named_by text (Some hex) place is e =
    let one : Some (record { hex = hex; stop = None }) ≡ Some place = rw (is, place_of_text) at e in
    hex_named text hex is ∙ sym (append-nil (text_of_hex hex))
    ∙ ap text_of_place (same_Some (record { hex = hex; stop = None }) place one)
place_named_by text None place is e =
    let one : place_from (hex_of_text (take (length text - 2) text)) (stop_of_text (drop (length text - 2) text))
    ≡ Some place = rw (is, place_of_text) at e in
    sym (take-append-drop (length text - 2) text) ∙ stop_place_named (take (length text - 2) text)
    (drop (length text - 2) text) _ _ place refl refl one

pub place_named : (text : List ℕ) (place : Place) → place_of_text text ≡ Some place → text ≡ text_of_place place
place_named text place e = place_named_by text (hex_of_text text) place refl e

-- tiles
number_test : (tile : TileNo) → ltb (number_of_tile tile) 100 ≡ true
unfolding number_of_tile printed
number_test T1 = refl
number_test _ = refl

pub number_short : (tile : TileNo) → number_of_tile tile < 100
number_short tile = ltb-true (number_of_tile tile) 100 (number_test tile)

tile_is : (number : ℕ) (tile : TileNo) → tile_numbered number ≡ Some tile → number_of_tile tile ≡ number
unfolding tile_numbered
tile_is number tile e = eqb-true (number_of_tile tile) number
    (found_passes (λ t. number_of_tile t == number) tiles tile e)

tile_text : (tile : TileNo) → tile_of_text (text_of_tile tile) ≡ Some tile
tile_text tile =
    ap (option_and_then tile_numbered) (short_number-decimal (number_of_tile tile) (number_short tile))
    ∙ (tile_is_listed tile).found

tile_named_by : (text : List ℕ) (found : Option ℕ) (tile : TileNo) → short_number text ≡ found
    → option_and_then tile_numbered found ≡ Some tile → text ≡ text_of_tile tile
tile_named_by text None tile is e = absurd cc
tile_named_by text (Some number) tile is e = short_number-is text number is ∙ ap decimal (sym (tile_is number tile e))

-- rotations
rotation_text : (rotation : Rotation) → rotation_of_text (text_of_rotation rotation) ≡ Some rotation
rotation_text Zero = ap (option_and_then rotation_of) (short_number-decimal 0 (omega arith))
rotation_text One = ap (option_and_then rotation_of) (short_number-decimal 1 (omega arith))
rotation_text Two = ap (option_and_then rotation_of) (short_number-decimal 2 (omega arith))
rotation_text Three = ap (option_and_then rotation_of) (short_number-decimal 3 (omega arith))
rotation_text Four = ap (option_and_then rotation_of) (short_number-decimal 4 (omega arith))
rotation_text Five = ap (option_and_then rotation_of) (short_number-decimal 5 (omega arith))

-- the first of some rotations, or one of the others
first_of : (turns k : ℕ) (first : Rotation) (others : Option Rotation) (rotation : Rotation) → sixths_turned first ≡ k
    → cond (turns == k) (Some first) others ≡ Some rotation → (others ≡ Some rotation → sixths_turned rotation ≡ turns)
    → sixths_turned rotation ≡ turns
first_of turns k first others rotation is e later =
    elim (cases_Bool (turns == k)) [
      | inl same ↦
          let found : first ≡ rotation = same_Some first rotation (rw same at e) in
          ap sixths_turned (sym found) ∙ is ∙ sym (eqb-true turns k same)
      | inr other ↦ later (rw other at e)
    ]

rotation_is : (turns : ℕ) (rotation : Rotation) → rotation_of turns ≡ Some rotation → sixths_turned rotation ≡ turns
rotation_is turns rotation e =
    first_of turns 0 Zero _ rotation refl e
    (λ e1. first_of turns 1 One _ rotation refl e1
    (λ e2. first_of turns 2 Two _ rotation refl e2
    (λ e3. first_of turns 3 Three _ rotation refl e3
    (λ e4. first_of turns 4 Four _ rotation refl e4
    (λ e5. first_of turns 5 Five _ rotation refl e5 (λ none. absurd cc))))))

rotation_named_by : (text : List ℕ) (found : Option ℕ) (rotation : Rotation) → short_number text ≡ found
    → option_and_then rotation_of found ≡ Some rotation → text ≡ text_of_rotation rotation
rotation_named_by text None rotation is e = absurd cc
rotation_named_by text (Some turns) rotation is e =
    short_number-is text turns is ∙ ap decimal (sym (rotation_is turns rotation e))

-- each is read from its text, and from no other
pub texts_read : TextsAreRead
texts_read = record {
  hexes = λ text hex. (hex_named text hex, λ is. ap hex_of_text is ∙ hex_text hex);
  places = λ text place. (place_named text place, λ is. ap place_of_text is ∙ place_text place);
  tiles = λ text tile. (tile_named_by text (short_number text) tile refl, λ is. ap tile_of_text is ∙ tile_text tile);
  rotations = λ text rotation. (
    rotation_named_by text (short_number text) rotation refl,
    λ is. ap rotation_of_text is
        ∙ rotation_text rotation,
  );
}
