-- Letters and digits, raised.
use Rattle.std.proofs.Common.{◌≡◌, ℕ, ◌-◌, ◌<◌, ◌≤◌, Bool, true, List, [], ◌∷◌, length, leb, get_or, take, drop, refl}
use Rattle.std.proofs.Common.{ap, ◌∙◌, arith}
use Rattle.std.specs.Char.{to_ascii_uppercase, is_ascii_alphabetic, is_ascii_alphanumeric}
use Rattle.std.specs.List.{list_all}
use Rattle.std.proofs.lemmas.Bool.{le-leb}
use Rattle.std.proofs.lemmas.Bool.Decides.{nat_tests}
use Rattle.std.proofs.lemmas.List.{length-map, take_rest}
use Rattle.map_tables.specs.Text.{is_digit}
use Rattle.order_grammar.specs.Name.{is_name, is_capital, is_letter_or_digit}
use Rattle.order_grammar.specs.Words.{raised}

pub is_capital-raised : (byte : ℕ) → is_capital (to_ascii_uppercase byte) ≡ is_ascii_alphabetic byte
is_capital-raised byte = grind (arith, nat_tests)

pub is_digit-raised : (byte : ℕ) → is_digit (to_ascii_uppercase byte) ≡ is_digit byte
is_digit-raised byte = grind (arith, nat_tests)

pub is_letter_or_digit-raised : (byte : ℕ) → is_letter_or_digit (to_ascii_uppercase byte) ≡ is_ascii_alphanumeric byte
is_letter_or_digit-raised byte = grind (arith, nat_tests)

-- raised letters and digits
pub letters_or_digits-raised : (word : List ℕ)
    → list_all is_letter_or_digit (raised word) ≡ list_all is_ascii_alphanumeric word
letters_or_digits-raised [] = refl
letters_or_digits-raised (byte ∷ bytes) = rw (is_letter_or_digit-raised byte, letters_or_digits-raised bytes) refl

-- a word that begins with a letter and is no longer than a name is one if the rest are letters and
-- digits
pub is_name-raised : (word : List ℕ) (rest_fits : Bool) → is_ascii_alphabetic (get_or word 0 0) ≡ true
    → length word ≤ 8 →
    rest_fits ≡ list_all is_ascii_alphanumeric (take (length word - 1) (drop 1 word)) → 0 < length word
    → rest_fits ≡ is_name (raised word)
is_name-raised [] r letter short rest some = absurd (omega arith)
is_name-raised (byte ∷ bytes) r letter short rest some =
    let capital : is_capital (to_ascii_uppercase byte) ≡ true = is_capital-raised byte ∙ letter in
    let size : length (raised bytes) ≤ 7 = omega (arith, length-map bytes to_ascii_uppercase) in
    let few : leb (length (raised bytes)) 7 ≡ true = le-leb (length (raised bytes)) 7 size in
    rest ∙ ap (list_all is_ascii_alphanumeric) (take_rest (byte ∷ bytes) 1)
    ∙ rw (capital, few, letters_or_digits-raised bytes) refl
