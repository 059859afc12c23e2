-- How bits are kept and printed: the bits of a number, one more at its end, and the digits of four
-- bits after four.
use Rattle.std.proofs.Common.{◌≡◌, ℕ, zero, suc, ◌+◌, ◌-◌, ◌*◌, ◌/◌, ◌%◌, ◌^◌, ◌<◌, Bool, true, false, nat_eq, List, []}
use Rattle.std.proofs.Common.{◌∷◌, ◌++◌, length, take, drop, get_or, append_assoc, append-nil, refl, ap, sym, ◌∙◌}
use Rattle.std.proofs.Common.{arith}
use Rattle.std.proofs.lemmas.Grind.{flat_map-append}
use Rattle.std.proofs.lemmas.List.{length-append}
use Rattle.std.proofs.lemmas.Nat.Bits.{bit_at-suc, bit_at_lowest}
use Rattle.certificate.specs.Digits.{bit_number, bits_of, bits_of_bytes, digit_of, digits_of}

-- a bit at the end of a number
half : (number : ℕ) (bit : Bool) → (2 * number + bit_number bit) / 2 ≡ number
half number true = omega arith
half number false = omega arith

odd : (number : ℕ) (bit : Bool) → (2 * number + bit_number bit) % 2 ≡ bit_number bit
odd number true = omega arith
odd number false = omega arith

is_bit : (bit : Bool) → nat_eq (bit_number bit) 1 ≡ bit
is_bit true = refl
is_bit false = refl

low_bit : (number : ℕ) (bit : Bool) → nat_eq ((2 * number + bit_number bit) / 2 ^ 0 % 2) 1 ≡ bit
low_bit number bit =
    ap (λ (n : ℕ). nat_eq n 1) (bit_at_lowest (2 * number + bit_number bit) ∙ odd number bit) ∙ is_bit bit

higher : (count number : ℕ) (bit : Bool) → (2 * number + bit_number bit) / 2 ^ suc count % 2 ≡ number / 2 ^ count % 2
higher count number bit = bit_at-suc (2 * number + bit_number bit) count
    ∙ ap (λ (n : ℕ). n / 2 ^ count % 2) (half number bit)

-- with one more bit at the end
one_more : (count number : ℕ) (bit : Bool) → bits_of (suc count) (2 * number + bit_number bit)
    ≡ bits_of count number ++ bit ∷ []
one_more zero number bit = ap (λ (b : Bool). b ∷ []) (low_bit number bit)
one_more (suc count) number bit =
    ap (λ (b : Bool). b ∷ bits_of (suc count) (2 * number + bit_number bit))
    (ap (λ (n : ℕ). nat_eq n 1) (higher count number bit))
    ∙ ap (λ (rest : List Bool). nat_eq (number / 2 ^ count % 2) 1 ∷ rest) (one_more count number bit)

more_at_end : (count number more : ℕ) (bit : Bool) → more ≡ bit_number bit
    → bits_of (count + 1) (2 * number + more) ≡ bits_of count number ++ bit ∷ []
more_at_end count number more bit is =
    let next : count + 1 ≡ suc count = omega arith in
    ap (λ (c : ℕ). bits_of c (2 * number + more)) next
    ∙ (ap (λ (m : ℕ). bits_of (suc count) (2 * number + m)) is ∙ one_more count number bit)

-- a bit is added after the bytes
pub pushed :
    (bytes : List ℕ) (count number more : ℕ) (bit : Bool) (old : List Bool) → more ≡ bit_number bit →
    bits_of_bytes bytes ++ bits_of count number ≡ old
    → bits_of_bytes bytes ++ bits_of (count + 1) (2 * number + more) ≡ old ++ bit ∷ []
pushed bytes count number more bit old is before =
    ap (λ (b : List Bool). bits_of_bytes bytes ++ b) (more_at_end count number more bit is)
    ∙ (sym (append_assoc (bits_of_bytes bytes) (bits_of count number) (bit ∷ []))
    ∙ ap (λ (b : List Bool). b ++ bit ∷ []) before)

byte_more : (bytes : List ℕ) (byte : ℕ) → bits_of_bytes (bytes ++ byte ∷ []) ≡ bits_of_bytes bytes ++ bits_of 8 byte
byte_more bytes byte = flat_map-append (bits_of 8) bytes (byte ∷ [])
    ∙ ap (λ (b : List Bool). bits_of_bytes bytes ++ b) (append-nil (bits_of 8 byte))

-- and is the eighth of a byte
pub filled :
    (bytes more_bytes : List ℕ) (count number more : ℕ) (bit : Bool) (old : List Bool) → count ≡ 7
    → more ≡ bit_number bit →
    more_bytes ≡ bytes ++ (2 * number + more) ∷ [] → bits_of_bytes bytes ++ bits_of count number ≡ old →
    bits_of_bytes more_bytes ++ bits_of 0 0 ≡ old ++ bit ∷ []
filled bytes more_bytes count number more bit old seven is gained before =
    let eight : bits_of (count + 1) (2 * number + more) ≡ bits_of 8 (2 * number + more) =
    ap (λ (c : ℕ). bits_of (c + 1) (2 * number + more)) seven in
    append-nil (bits_of_bytes more_bytes)
    ∙ (ap bits_of_bytes gained
    ∙ (byte_more bytes (2 * number + more)
    ∙ (ap (λ (b : List Bool). bits_of_bytes bytes ++ b) (sym eight)
    ∙ pushed bytes count number more bit old is before)))

-- four bits at the end of a number
of_bit : (rest : ℕ) → rest < 2 → rest ≡ bit_number (nat_eq rest 1)
of_bit zero low = refl
of_bit (suc zero) low = refl
of_bit (suc (suc rest)) low = absurd (omega arith)

four_more : (count number value : ℕ) → value < 16
    → bits_of (count + 1 + 1 + 1 + 1) (16 * number + value) ≡ bits_of count number ++ bits_of 4 value
four_more count number value low =
    let a : ℕ = value / 8 % 2 in
    let b : ℕ = value / 4 % 2 in
    let c : ℕ = value / 2 % 2 in
    let d : ℕ = value / 1 % 2 in
    let one : ℕ = 2 * number + a in
    let two : ℕ = 2 * one + b in
    let three : ℕ = 2 * two + c in
    let is : 16 * number + value ≡ 2 * three + d = omega arith in
    let first = more_at_end count number a (nat_eq a 1) (of_bit a (omega arith)) in
    let second = more_at_end (count + 1) one b (nat_eq b 1) (of_bit b (omega arith)) in
    let third = more_at_end (count + 1 + 1) two c (nat_eq c 1) (of_bit c (omega arith)) in
    let fourth = more_at_end (count + 1 + 1 + 1) three d (nat_eq d 1) (of_bit d (omega arith)) in
    let bits : List Bool = bits_of count number in
    ap (bits_of (count + 1 + 1 + 1 + 1)) is
    ∙ (fourth ∙ (ap (λ (l : List Bool). l ++ nat_eq d 1 ∷ []) third
    ∙ (ap (λ (l : List Bool). (l ++ nat_eq c 1 ∷ []) ++ nat_eq d 1 ∷ []) second
    ∙ (ap (λ (l : List Bool). ((l ++ nat_eq b 1 ∷ []) ++ nat_eq c 1 ∷ []) ++ nat_eq d 1 ∷ []) first
    ∙ all_four bits (nat_eq a 1) (nat_eq b 1) (nat_eq c 1) (nat_eq d 1)))))
  where
    all_four : (bits : List Bool) (a b c d : Bool)
        → (((bits ++ a ∷ []) ++ b ∷ []) ++ c ∷ []) ++ d ∷ [] ≡ bits ++ a ∷ b ∷ c ∷ d ∷ []
    all_four [] a b c d = refl
    all_four (bit ∷ bits) a b c d = ap (λ (l : List Bool). bit ∷ l) (all_four bits a b c d)

-- the bits of a digit are added after half a byte
pub digit_ended :
    (bytes more_bytes : List ℕ) (count number value : ℕ) (old : List Bool) → count ≡ 4 → value < 16 →
    more_bytes ≡ bytes ++ (16 * number + value) ∷ [] → bits_of_bytes bytes ++ bits_of count number ≡ old →
    bits_of_bytes more_bytes ++ bits_of 0 0 ≡ old ++ bits_of 4 value
digit_ended bytes more_bytes count number value old half_full low gained before =
    append-nil (bits_of_bytes more_bytes)
    ∙ (ap bits_of_bytes gained
    ∙ (byte_more bytes (16 * number + value)
    ∙ (ap (λ (l : List Bool). bits_of_bytes bytes ++ l) (four_more 4 number value low)
    ∙ (sym (append_assoc (bits_of_bytes bytes) (bits_of 4 number) (bits_of 4 value))
    ∙ ap (λ (l : List Bool). l ++ bits_of 4 value)
    (ap (λ (n : ℕ). bits_of_bytes bytes ++ bits_of n number) (sym half_full) ∙ before)))))

-- the highest bit comes first
pub first_bit : (count number : ℕ) → 0 < count
    → bits_of count number ≡ nat_eq (number / 2 ^ (count - 1) % 2) 1 ∷ bits_of (count - 1) number
first_bit zero number some = absurd (omega arith)
first_bit (suc count) number some =
    let less : count ≡ suc count - 1 = omega arith in ap (λ (c : ℕ). nat_eq (number / 2 ^ c % 2) 1 ∷ bits_of c number)
    less

-- it is read, and the others are left
pub read_first :
    (count number : ℕ) (rest old : List Bool) → 0 < count → bits_of count number ++ rest ≡ old →
    old ≡ nat_eq (number / 2 ^ (count - 1) % 2) 1 ∷ (bits_of (count - 1) number ++ rest)
read_first count number rest old some is = sym is ∙ ap (λ (b : List Bool). b ++ rest) (first_bit count number some)

-- if none is in hand, the next byte is taken in hand, or what is after the bytes
pub open_byte :
    (left opened : ℕ) (bytes later : List ℕ) (first count last : ℕ) (old : List Bool) → left ≡ 0
    → bytes ≡ first ∷ later →
    bits_of left opened ++ (bits_of_bytes bytes ++ bits_of count last) ≡ old →
    bits_of 8 first ++ (bits_of_bytes later ++ bits_of count last) ≡ old
open_byte left opened bytes later first count last old none is before =
    sym (append_assoc (bits_of 8 first) (bits_of_bytes later) (bits_of count last))
    ∙ (ap (λ (b : List ℕ). bits_of_bytes b ++ bits_of count last) (sym is)
    ∙ (ap (λ (n : ℕ). bits_of n opened ++ (bits_of_bytes bytes ++ bits_of count last)) (sym none) ∙ before))

pub open_last :
    (left opened : ℕ) (bytes : List ℕ) (count last : ℕ) (old : List Bool) → left ≡ 0 → length bytes ≡ 0 →
    bits_of left opened ++ (bits_of_bytes bytes ++ bits_of count last) ≡ old
    → bits_of count last ++ (bits_of_bytes bytes ++ bits_of 0 last) ≡ old
open_last left opened [] count last old none is before =
    append-nil (bits_of count last) ∙ (ap (λ (n : ℕ). bits_of n opened ++ bits_of count last) (sym none) ∙ before)
open_last left opened (byte ∷ bytes) count last old none is before = absurd (omega arith)

-- no bit is left exactly if there is none in hand, no byte, and none after the bytes
bits_counted : (count number : ℕ) → length (bits_of count number) ≡ count
bits_counted zero number = refl
bits_counted (suc count) number = ap suc (bits_counted count number)

pub some_in_hand : (count number : ℕ) (rest : List Bool) → 0 < count → ¬ (bits_of count number ++ rest ≡ [])
some_in_hand zero number rest some is = absurd (omega arith)
some_in_hand (suc count) number rest some is = cc

pub some_behind : (bits : List Bool) (bytes : List ℕ) (count number : ℕ) → 0 < count
    → ¬ (bits ++ (bits_of_bytes bytes ++ bits_of count number) ≡ [])
some_behind bits bytes count number some is =
    let none : length (bits ++ (bits_of_bytes bytes ++ bits_of count number)) ≡ 0 = ap length is in
    let all : length (bits ++ (bits_of_bytes bytes ++ bits_of count number))
    ≡ length bits + length (bits_of_bytes bytes ++ bits_of count number) =
    length-append bits (bits_of_bytes bytes ++ bits_of count number) in
    let later : length (bits_of_bytes bytes ++ bits_of count number)
    ≡ length (bits_of_bytes bytes) + length (bits_of count number) =
    length-append (bits_of_bytes bytes) (bits_of count number) in
    omega (arith, bits_counted count number)

pub some_bytes : (left opened : ℕ) (bytes : List ℕ) (rest : List Bool) → left ≡ 0
    → bits_of left opened ++ (bits_of_bytes bytes ++ rest) ≡ [] → length bytes ≡ 0
some_bytes left opened [] rest none is = refl
some_bytes left opened (byte ∷ bytes) rest none is =
    let all : (bits_of 8 byte ++ bits_of_bytes bytes) ++ rest ≡ [] =
    ap (λ (n : ℕ). bits_of n opened ++ ((bits_of 8 byte ++ bits_of_bytes bytes) ++ rest)) (sym none) ∙ is in
    absurd cc

pub none_there :
    (left opened : ℕ) (bytes : List ℕ) (count last : ℕ) → left ≡ 0 → count ≡ 0 → length bytes ≡ 0 →
    bits_of left opened ++ (bits_of_bytes bytes ++ bits_of count last) ≡ []
none_there left opened [] count last none behind is =
    ap (λ (n : ℕ). bits_of n opened ++ bits_of count last) none ∙ ap (λ (n : ℕ). bits_of n last) behind
none_there left opened (byte ∷ bytes) count last none behind is = absurd (omega arith)

-- digits, four bits after four
pub digits_split : (bits : List Bool) → digits_of bits ≡ digits_of (take 4 bits) ++ digits_of (drop 4 bits)
digits_split [] = refl
digits_split (a ∷ []) = refl
digits_split (a ∷ b ∷ []) = refl
digits_split (a ∷ b ∷ c ∷ []) = refl
digits_split (a ∷ b ∷ c ∷ d ∷ bits) = refl

-- a digit is printed
pub printed_more :
    (text : List ℕ) (digit : ℕ) (bits four later : List Bool) (whole : List ℕ) → four ≡ take 4 bits
    → later ≡ drop 4 bits →
    digits_of four ≡ digit ∷ [] → text ++ digits_of bits ≡ whole → (text ++ digit ∷ []) ++ digits_of later ≡ whole
printed_more text digit bits four later whole first rest is before =
    let split : digits_of bits ≡ digits_of (take 4 bits) ++ digits_of (drop 4 bits) = digits_split bits in
    let now : digits_of (take 4 bits) ≡ digit ∷ [] = ap digits_of (sym first) ∙ is in
    append_assoc text (digit ∷ []) (digits_of later)
    ∙ (ap (λ (l : List Bool). text ++ (digit ∷ digits_of l)) rest
    ∙ (ap (λ (d : List ℕ). text ++ (d ++ digits_of (drop 4 bits))) (sym now)
    ∙ (ap (λ (d : List ℕ). text ++ d) (sym split) ∙ before)))

take_none : (count : ℕ) → take count (let none : List Bool = [] in none) ≡ []
take_none zero = refl
take_none (suc count) = refl

drop_none : (count : ℕ) → drop count (let none : List Bool = [] in none) ≡ []
drop_none zero = refl
drop_none (suc count) = refl

-- four bits on, and the rest
take_split : (count : ℕ) (bits : List Bool) → digits_of (take (suc (suc (suc (suc count)))) bits)
    ≡ digits_of (take 4 bits) ++ digits_of (take count (drop 4 bits))
take_split count [] = sym (ap digits_of (take_none count))
take_split count (a ∷ []) = ap (λ (rest : List Bool). digit_of a false false false ∷ digits_of rest)
    (sym (take_none count))
take_split count (a ∷ b ∷ []) = ap (λ (rest : List Bool). digit_of a b false false ∷ digits_of rest)
    (sym (take_none count))
take_split count (a ∷ b ∷ c ∷ []) = ap (λ (rest : List Bool). digit_of a b c false ∷ digits_of rest)
    (sym (take_none count))
take_split count (a ∷ b ∷ c ∷ d ∷ bits) = refl

drop_split : (count : ℕ) (bits : List Bool) → drop (suc (suc (suc (suc count)))) bits ≡ drop count (drop 4 bits)
drop_split count [] = sym (drop_none count)
drop_split count (a ∷ []) = sym (drop_none count)
drop_split count (a ∷ b ∷ []) = sym (drop_none count)
drop_split count (a ∷ b ∷ c ∷ []) = sym (drop_none count)
drop_split count (a ∷ b ∷ c ∷ d ∷ bits) = refl

-- what is printed of bits, and left of them, this many digits on
abbrev pub Prints : List ℕ → List Bool → ℕ → List ℕ → List Bool → Type 0
Prints text bits count whole left = (text ++ digits_of (take (4 * count) bits) ≡ whole) × (drop (4 * count) bits ≡ left)

pub print_more :
    (text more : List ℕ) (digit : ℕ) (bits later : List Bool) (most counter : ℕ) (whole : List ℕ) (left : List Bool)
    → counter < most →
    more ≡ text ++ digit ∷ [] → digits_of (take 4 bits) ≡ digit ∷ [] → later ≡ drop 4 bits
    → Prints text bits (most - counter) whole left →
    Prints more later (most - (counter + 1)) whole left
print_more text more digit bits later most counter whole left some gained is rest before =
    let count : 4 * (most - counter) ≡ suc (suc (suc (suc (4 * (most - (counter + 1)))))) = omega arith in
    let digits : digits_of (take (4 * (most - counter)) bits)
    ≡ digit ∷ digits_of (take (4 * (most - (counter + 1))) (drop 4 bits)) =
    ap (λ (n : ℕ). digits_of (take n bits)) count
    ∙ (take_split (4 * (most - (counter + 1))) bits
    ∙ ap (λ (d : List ℕ). d ++ digits_of (take (4 * (most - (counter + 1))) (drop 4 bits))) is) in (
      ap (λ (t : List ℕ). t ++ digits_of (take (4 * (most - (counter + 1))) later)) gained
          ∙ (append_assoc text (digit ∷ []) (digits_of (take (4 * (most - (counter + 1))) later))
          ∙ (ap (λ (l : List Bool). text ++ (digit ∷ digits_of (take (4 * (most - (counter + 1))) l))) rest
          ∙ (ap (λ (d : List ℕ). text ++ d) (sym digits) ∙ before.0))),
      ap (λ (l : List Bool). drop (4 * (most - (counter + 1))) l) rest
          ∙ (sym (drop_split (4 * (most - (counter + 1))) bits) ∙ (ap (λ (n : ℕ). drop n bits) (sym count) ∙ before.1)),
    )

-- the first of the bits in hand, of which there are some, is the first of all
pub first_in_hand : (count number : ℕ) (rest old : List Bool) → 0 < count → bits_of count number ++ rest ≡ old
    → get_or (bits_of count number) 0 false ≡ get_or old 0 false
first_in_hand zero number rest old some is = absurd (omega arith)
first_in_hand (suc count) number rest old some is = ap (λ (b : List Bool). get_or b 0 false) is
