-- Marks in a text: four bits to a hexadecimal digit, the highest first. They are read in upper or
-- lower case and printed in lower case; the last digit is filled up with 0 bits.
use Rattle.std.specs.Prelude.{◌≡◌, ℕ, zero, suc, ◌+◌, ◌-◌, ◌*◌, ◌/◌, ◌%◌, ◌^◌, ◌==◌, ◌&&◌, nat_le, Bool, false, not}
use Rattle.std.specs.Prelude.{if◌then◌else◌, Option, Some, None, is_some, unwrap_or, List, [], ◌∷◌, ◌++◌, get_or, codes}
use Rattle.std.specs.List.{AllByRecursion, flat_map, list_any}
use Rattle.reach.specs.Position.{IsAmong}
use Rattle.certificate.specs.Holding.{AreFilling}

-- the bits of a number, this many of the lowest, the highest of them first
abbrev pub bits_of : ℕ → ℕ → List Bool
bits_of zero number = []
bits_of (suc count) number = (number / 2 ^ count % 2 == 1) ∷ bits_of count number

-- the bits of bytes
abbrev pub bits_of_bytes : List ℕ → List Bool
bits_of_bytes bytes = flat_map (bits_of 8) bytes

-- the value of a hexadecimal digit, in upper or lower case
abbrev pub digit_value : ℕ → Option ℕ
digit_value byte = if nat_le 48 byte && nat_le byte 57 then Some (byte - 48)
    else if nat_le 97 byte && nat_le byte 102 then Some (byte - 97 + 10)
    else if nat_le 65 byte && nat_le byte 70 then Some (byte - 65 + 10) else None

abbrev pub is_digit : ℕ → Bool
is_digit byte = is_some (digit_value byte)

-- a text has a byte that is no digit
abbrev pub has_other : List ℕ → Bool
has_other text = list_any (λ byte. not (is_digit byte)) text

-- the bits for which digits stand
abbrev pub bits_of_digit : ℕ → List Bool
bits_of_digit byte = bits_of 4 (unwrap_or (digit_value byte) 0)

-- the bits of a text of hexadecimal digits, digit by digit
abbrev pub bits_of_digits : List ℕ → List Bool
bits_of_digits text = flat_map bits_of_digit text

-- the digits in lower case
abbrev pub lower_digits : List ℕ
lower_digits = codes "0123456789abcdef"

-- a bit as a number: 1 if it is set
abbrev pub bit_number : Bool → ℕ
bit_number bit = if bit then 1 else 0

-- the digit of four bits, the highest first
abbrev pub digit_of : Bool → Bool → Bool → Bool → ℕ
digit_of a b c d = get_or lower_digits (8 * bit_number a + 4 * bit_number b + 2 * bit_number c + bit_number d) 0

-- how bits are printed
abbrev pub digits_of : List Bool → List ℕ
digits_of [] = []
digits_of (a ∷ []) = digit_of a false false false ∷ []
digits_of (a ∷ b ∷ []) = digit_of a b false false ∷ []
digits_of (a ∷ b ∷ c ∷ []) = digit_of a b c false ∷ []
digits_of (a ∷ b ∷ c ∷ d ∷ bits) = digit_of a b c d ∷ digits_of bits

-- a text of digits in lower case
abbrev pub AreLower : List ℕ → Type 0
AreLower text = AllByRecursion (λ byte. IsAmong byte lower_digits) text

-- what is printed are such texts, and each of them is printed again as it was read
abbrev pub PrintsWhatWasRead : Type 0
PrintsWhatWasRead = (text : List ℕ) → AreLower text → digits_of (bits_of_digits text) ≡ text

abbrev pub PrintsInLowerCase : Type 0
PrintsInLowerCase = (bits : List Bool) → AreLower (digits_of bits)

-- reading what was printed adds at most three 0 bits
abbrev pub ReadsWhatWasPrinted : Type 0
ReadsWhatWasPrinted =
    (bits : List Bool) → (filling : List Bool) × (bits_of_digits (digits_of bits) ≡ bits ++ filling)
    × AreFilling filling
