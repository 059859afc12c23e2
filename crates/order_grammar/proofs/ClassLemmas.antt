-- Readings of words as texts of a class.
use Rattle.std.proofs.Common.{◌≡◌, ℕ, ◌+◌, ◌<◌, ◌≤◌, ◌==◌, min, true, false, List, [], ◌∷◌, Some, None, length, get_or}
use Rattle.std.proofs.Common.{drop, refl, ap, ◌∙◌, inl, inr, arith}
use Rattle.std.specs.List.{list_all}
use Rattle.std.proofs.lemmas.Bool.{cases_Bool, le-leb, lt-leb, and_parts}
use Rattle.std.proofs.lemmas.Bool.Decides.{nat_tests}
use Rattle.std.proofs.lemmas.List.{drop_more}
use Rattle.std.specs.Char.{to_ascii_uppercase, is_ascii_hexdigit}
use Rattle.map_tables.specs.Text.{is_digit}
use Rattle.order_grammar.specs.Class.{is_hex_digit, are_digits, value_of_digits, capped_value, digits_reading}
use Rattle.order_grammar.specs.Class.{round_of_series, round_number_reading, code_reading}
use Rattle.order_grammar.specs.Words.{raised, same_word}
use Rattle.order_grammar.specs.declared.class.Reading.TheVariants.{Value, TooLarge, Wrong}
use Rattle.order_grammar.specs.declared.order.Value as values
use Rattle.order_grammar.specs.declared.order.Value.TheVariants.{Round as round_value}
use Rattle.order_grammar.specs.declared.class.Series.{Series}
use Rattle.order_grammar.proofs.NameLemmas.{is_digit-raised}

-- a digit raised
digit-raised : (byte : ℕ) → is_digit byte ≡ true → to_ascii_uppercase byte ≡ byte
digit-raised byte h = grind (arith, nat_tests)

-- digits have no letters to raise
raised-digits : (word : List ℕ) → list_all is_digit word ≡ true → raised word ≡ word
raised-digits [] h = refl
raised-digits (digit ∷ digits) h =
    let parts = and_parts _ _ h in
    let same : to_ascii_uppercase digit ≡ digit = digit-raised digit parts.0 in
    rw (same, raised-digits digits parts.1) refl

-- raised digits
all_digits-raised : (word : List ℕ) → list_all is_digit (raised word) ≡ list_all is_digit word
all_digits-raised [] = refl
all_digits-raised (digit ∷ digits) = rw (is_digit-raised digit, all_digits-raised digits) refl

-- hexadecimal digits, raised
is_hex_digit-raised : (byte : ℕ) → is_hex_digit (to_ascii_uppercase byte) ≡ is_ascii_hexdigit byte
is_hex_digit-raised byte = grind (arith, nat_tests)

pub hex_digits-raised : (word : List ℕ) → list_all is_hex_digit (raised word) ≡ list_all is_ascii_hexdigit word
hex_digits-raised [] = refl
hex_digits-raised (byte ∷ bytes) = rw (is_hex_digit-raised byte, hex_digits-raised bytes) refl

-- a reading of digits does not depend on their case
pub digits_reading-raised : (as_value : ℕ → values.Value) (word : List ℕ)
    → digits_reading as_value (raised word) ≡ digits_reading as_value word
digits_reading-raised as_value [] = refl
digits_reading-raised as_value (digit ∷ digits) =
    elim (cases_Bool (list_all is_digit (digit ∷ digits))) [
      | inl e ↦ ap (digits_reading as_value) (raised-digits (digit ∷ digits) e)
      | inr e ↦ let r = all_digits-raised (digit ∷ digits) ∙ e in rw (r, e) refl
    ]

-- no digits
pub digits_reading-none : (as_value : ℕ → values.Value) (word : List ℕ) → None ≡ capped_value word
    → digits_reading as_value word ≡ Wrong
digits_reading-none as_value word h =
    elim (cases_Bool (are_digits word)) [
      | inl e ↦ let wrong = rw e at h in absurd (cc)
      | inr e ↦ rw e refl
    ]

-- digits of a large value
pub digits_reading-large : (as_value : ℕ → values.Value) (word : List ℕ) (v : ℕ) → Some v ≡ capped_value word
    → 99999 < v →
    digits_reading as_value word ≡ TooLarge
digits_reading-large as_value word v h large =
    elim (cases_Bool (are_digits word)) [
      | inl e ↦
          let is = rw e at h in
          let value : v ≡ min (value_of_digits word) 100000 = cc in
          rw (e, lt-leb (value_of_digits word) 99999 (omega arith)) refl
      | inr e ↦ let wrong = rw e at h in absurd (cc)
    ]

-- digits of a value that is not too large
pub digits_reading-value : (as_value : ℕ → values.Value) (word : List ℕ) (v : ℕ) → Some v ≡ capped_value word
    → v ≤ 99999 →
    digits_reading as_value word ≡ Value (as_value v)
digits_reading-value as_value word v h small =
    elim (cases_Bool (are_digits word)) [
      | inl e ↦
          let is = rw e at h in
          let value : v ≡ min (value_of_digits word) 100000 = cc in
          let same : value_of_digits word ≡ v = omega arith in
          rw (e, le-leb (value_of_digits word) 99999 (omega arith), same) refl
      | inr e ↦ let wrong = rw e at h in absurd (cc)
    ]

-- no other byte is raised to 0
no_zero : (byte : ℕ) → (byte ≡ 48 → ⊥) → (to_ascii_uppercase byte == 48) ≡ false
no_zero byte h = grind (arith, nat_tests)

-- digits that do not begin with 0 are the number of a round
pub round_number-digits : (series : Series) (digits : List ℕ) → 0 < length digits → (get_or digits 0 0 ≡ 48 → ⊥) →
    round_number_reading series (raised digits) ≡ digits_reading
    (λ number. round_value (round_of_series series number)) digits
round_number-digits series [] some other = absurd (omega arith)
round_number-digits series (digit ∷ digits) some other =
    let test : (to_ascii_uppercase digit == 48) ≡ false = no_zero digit other in
    rw test (digits_reading-raised (λ number. round_value (round_of_series series number)) (digit ∷ digits))

-- one that is not the first
pub code_reading-next : {X : Type 0} (code : X → List ℕ) (as_value : X → values.Value) (all : List X) (i : ℕ)
    (d : X) (word : List ℕ) → i < length all →
    same_word word (code (get_or all i d)) ≡ false
    → code_reading code as_value (drop i all) word ≡ code_reading code as_value (drop (i + 1) all) word
code_reading-next code as_value all i d word lt other = rw (drop_more all i d lt, other) refl

-- the one whose code it is
pub code_reading-here : {X : Type 0} (code : X → List ℕ) (as_value : X → values.Value) (all : List X) (i : ℕ)
    (d : X) (word : List ℕ) → i < length all →
    same_word word (code (get_or all i d)) ≡ true → code_reading code as_value (drop i all) word
    ≡ Value (as_value (get_or all i d))
code_reading-here code as_value all i d word lt here = rw (drop_more all i d lt, here) refl
