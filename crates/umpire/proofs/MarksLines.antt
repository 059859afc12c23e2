-- A MARKS line is read as it was written.
use Rattle.std.proofs.Common.{◌≡◌, ℕ, ◌+◌, ◌*◌, ◌<◌, ◌≤◌, ◌==◌, Bool, true, ◌&&◌, not}
use Rattle.std.proofs.Common.{List, [], ◌∷◌, ◌++◌, Ok, codes, length, map}
use Rattle.std.proofs.Common.{append_assoc, refl, sym, ap, subst, ◌∙◌, inl, inr, arith}
use Rattle.std.specs.Char.{to_ascii_uppercase}
use Rattle.std.specs.List.{list_all}
use Rattle.std.proofs.lemmas.Bool.{and_from, and_parts, le-leb, not-true}
use Rattle.std.proofs.lemmas.List.{append-nil, length-append, length-map}
use Rattle.std.proofs.lemmas.List.Concat.{flat_map-cons}
use Rattle.reach.specs.Position.{IsAmong}
use Rattle.certificate.specs.Digits.{AreLower, bits_of_digit, bits_of_digits, digits_of, lower_digits}
use Rattle.certificate.proofs.Printed.{prints_in_lower_case, reads_what_was_printed}
use Rattle.order_grammar.specs.Class.{are_hex_digits, is_hex_digit}
use Rattle.order_grammar.specs.Form.{cert_forms}
use Rattle.order_grammar.specs.Line.{cert_reading_of}
use Rattle.order_grammar.specs.Spells.{AreWordsFor, BeginWithOneOf}
use Rattle.order_grammar.specs.Texts.{certificate}
use Rattle.order_grammar.specs.Words.{before, is_printable, raised, with_word, words_from, words_of}
use Rattle.order_grammar.specs.declared.order.Order.TheVariants.{Marks}
use Rattle.order_grammar.proofs.PartLemmas.{rows_of_certificates}
use Rattle.order_grammar.proofs.SpellsLemmas.{spells_read}
use Rattle.umpire.proofs.WrittenLines.{ArePrintable, both_printable}

-- what holds of each of some things holds of one of them
among_all : (p : ℕ → Bool) (xs : List ℕ) (x : ℕ) → list_all p xs ≡ true → IsAmong x xs → p x ≡ true
among_all p [] x all among = absurd among
among_all p (y ∷ ys) x all among =
    let parts = and_parts (p y) (list_all p ys) all in
    elim among [ inl same ↦ ap p (sym same) ∙ parts.0 | inr later ↦ among_all p ys x parts.1 later ]

all_lower : (p : ℕ → Bool) (digits : List ℕ) → list_all p lower_digits ≡ true → AreLower digits
    → list_all p digits ≡ true
all_lower p [] each lower = refl
all_lower p (digit ∷ digits) each lower =
    and_from (p digit) (list_all p digits) (among_all p lower_digits digit each lower.0)
    (all_lower p digits each lower.1)

-- a byte that begins no comment and ends no word
abbrev stays : ℕ → Bool
stays byte = not (byte == 35) && not (byte == 32)

no_comment : (bytes : List ℕ) → list_all stays bytes ≡ true → before 35 bytes ≡ bytes
no_comment [] all = refl
no_comment (byte ∷ bytes) all =
    let parts = and_parts (stays byte) (list_all stays bytes) all in
    let here = not-true (byte == 35) (and_parts (not (byte == 35)) (not (byte == 32)) parts.0).0 in
    rw (here, no_comment bytes parts.1) refl

one_word : (begun bytes : List ℕ) → list_all stays bytes ≡ true → words_from begun bytes ≡ with_word (begun ++ bytes) []
one_word begun [] all = rw (append-nil begun) refl
one_word begun (byte ∷ bytes) all =
    let parts = and_parts (stays byte) (list_all stays bytes) all in
    let here = not-true (byte == 32) (and_parts (not (byte == 35)) (not (byte == 32)) parts.0).1 in
    rw here (one_word (begun ++ byte ∷ []) bytes parts.1
    ∙ ap (λ word. with_word word []) (append_assoc begun (byte ∷ []) bytes))

raised_hex : (digits : List ℕ) → list_all (λ byte. is_hex_digit (to_ascii_uppercase byte)) digits ≡ true
    → list_all is_hex_digit (raised digits) ≡ true
raised_hex [] all = refl
raised_hex (byte ∷ digits) all =
    let parts = and_parts (is_hex_digit (to_ascii_uppercase byte))
    (list_all (λ b. is_hex_digit (to_ascii_uppercase b)) digits) all in
    and_from (is_hex_digit (to_ascii_uppercase byte)) (list_all is_hex_digit (raised digits)) parts.0
    (raised_hex digits parts.1)

-- the line of these digits
abbrev pub marks_of : List ℕ → List ℕ
marks_of digits = codes "MARKS " ++ digits

pub printable_marks : (digits : List ℕ) → AreLower digits → ArePrintable (marks_of digits)
printable_marks digits lower = both_printable (codes "MARKS ") digits refl (all_lower is_printable digits refl lower)

comment_behind : (digits : List ℕ) → before 35 (marks_of digits) ≡ marks_of (before 35 digits)
comment_behind digits = refl

words_behind : (digits : List ℕ) → words_from [] (marks_of digits) ≡ codes "MARKS" ∷ words_from [] digits
words_behind digits = refl

pub words_of_marks : (digits : List ℕ) → 0 < length digits → AreLower digits
    → words_of (marks_of digits) ≡ codes "MARKS" ∷ raised digits ∷ []
words_of_marks [] some lower = absurd (omega arith)
words_of_marks (digit ∷ digits) some lower =
    let all = all_lower stays (digit ∷ digits) refl lower in
    let whole : before 35 (marks_of (digit ∷ digits)) ≡ marks_of (digit ∷ digits) =
    comment_behind (digit ∷ digits) ∙ ap marks_of (no_comment (digit ∷ digits) all) in
    ap (λ line. map raised (words_from [] line)) whole
    ∙ ap (map raised) (words_behind (digit ∷ digits)
    ∙ ap (λ words. codes "MARKS" ∷ words) (one_word [] (digit ∷ digits) all))

-- it is read as such a line
pub marks_read : (digits : List ℕ) → 0 < length digits → length digits ≤ 1000 → AreLower digits
    → cert_reading_of (marks_of digits) ≡ Ok Marks
marks_read digits some few lower =
    let words = words_of_marks digits some lower in
    let long : length (marks_of digits) ≡ 6 + length digits = length-append (codes "MARKS ") digits in
    let all = all_lower stays digits refl lower in
    let printable : list_all is_printable (before 35 (marks_of digits)) ≡ true =
    ap (list_all is_printable) (comment_behind digits ∙ ap marks_of (no_comment digits all))
    ∙ printable_marks digits lower in
    let hex : are_hex_digits (raised digits) ≡ true =
    and_from _ _ (and_from _ _ (le-leb 1 (length (raised digits))
    (omega (arith, length-map digits to_ascii_uppercase, some)))
    (le-leb (length (raised digits)) 1000 (omega (arith, length-map digits to_ascii_uppercase, few))))
    (raised_hex digits (all_lower (λ byte. is_hex_digit (to_ascii_uppercase byte)) digits refl lower)) in
    spells_read certificate cert_forms rows_of_certificates (marks_of digits) Marks (record {
      loosely = record {
        short = omega (arith, long, few);
        printable = printable;
        known = subst (λ (all : List (List ℕ)). BeginWithOneOf certificate.first_words all) (sym words)
            (3, omega arith, refl);
        words = subst (λ (all : List (List ℕ)). AreWordsFor Marks all) (sym words) (refl, (hex, tt));
      };
      small = tt;
    })

-- how many digits bits have
few_digits : (bits : List Bool) → 4 * length (digits_of bits) ≤ length bits + 3
few_digits [] = omega arith
few_digits (a ∷ []) = omega arith
few_digits (a ∷ b ∷ []) = omega arith
few_digits (a ∷ b ∷ c ∷ []) = omega arith
few_digits (a ∷ b ∷ c ∷ d ∷ bits) = omega (arith, few_digits bits)

some_digits : (bits : List Bool) → length bits ≤ 4 * length (digits_of bits)
some_digits [] = omega arith
some_digits (a ∷ []) = omega arith
some_digits (a ∷ b ∷ []) = omega arith
some_digits (a ∷ b ∷ c ∷ []) = omega arith
some_digits (a ∷ b ∷ c ∷ d ∷ bits) = omega (arith, some_digits bits)

-- four bits to a digit
four_bits : (digit : ℕ) → length (bits_of_digit digit) ≡ 4
four_bits digit = refl

bits_counted : (digits : List ℕ) → length (bits_of_digits digits) ≡ 4 * length digits
bits_counted [] = refl
bits_counted (digit ∷ digits) =
    ap length (flat_map-cons bits_of_digit digit digits)
    ∙ length-append (bits_of_digit digit) (bits_of_digits digits)
    ∙ omega (arith, four_bits digit, bits_counted digits)

-- no bits
none : (bits : List Bool) → length bits ≡ 0 → bits ≡ []
none [] e = refl
none (bit ∷ bits) e = absurd (omega arith)

-- bits that fill their digits are read as they are
pub full_digits : (bits : List Bool) (count : ℕ) → length bits ≡ 4 * count → bits_of_digits (digits_of bits) ≡ bits
full_digits bits count full =
    let again = reads_what_was_printed bits in
    let counted = bits_counted (digits_of bits) in
    let both : length (bits_of_digits (digits_of bits)) ≡ length bits + length again.0 =
    ap length again.1 ∙ length-append bits again.0 in
    let filling : length again.0 ≤ 3 = again.2.0 in
    let empty : again.0 ≡ [] = none again.0 (omega (arith, counted, both, filling, full)) in
    again.1 ∙ ap (λ more. bits ++ more) empty ∙ append-nil bits

-- the digits of up to 4,000 bits make a line
pub record HasLine (bits : List Bool) : Type 0 where
  pub printable : ArePrintable (marks_of (digits_of bits))
  pub reads : cert_reading_of (marks_of (digits_of bits)) ≡ Ok Marks
  pub words : words_of (marks_of (digits_of bits)) ≡ codes "MARKS" ∷ raised (digits_of bits) ∷ []

pub has_line : (bits : List Bool) → 0 < length bits → length bits ≤ 4000 → HasLine bits
has_line bits some few =
    let lower = prints_in_lower_case bits in
    let least : 0 < length (digits_of bits) = omega (arith, some_digits bits, some) in
    let most : length (digits_of bits) ≤ 1000 = omega (arith, few_digits bits, few) in
    record {
      printable = printable_marks (digits_of bits) lower;
      reads = marks_read (digits_of bits) least most lower;
      words = words_of_marks (digits_of bits) least lower;
    }
