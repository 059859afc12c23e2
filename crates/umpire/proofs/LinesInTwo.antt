-- What a line of a file of version 1 says, the line that stands for it in version 2 says too.
use Rattle.std.proofs.Common.{◌≡◌, ℕ, inl, inr, true, false, cond, List, [], ◌∷◌, Result, Ok, Err, length, refl}
use Rattle.std.proofs.Common.{sym, ap, ◌∙◌, map}
use Rattle.std.specs.Prelude.{not, codes, nat_le}
use Rattle.std.proofs.lemmas.Bool.{and_parts, cases_Bool}
use Rattle.std.proofs.Math.Bool.{and-false}
use Rattle.order_grammar.specs.Limits.{line_most}
use Rattle.order_grammar.specs.Line.{reading_of}
use Rattle.order_grammar.specs.Words.{first_of_words, has_words, same_word, words_of}
use Rattle.order_grammar.specs.declared.fault.Fault.{Fault}
use Rattle.order_grammar.specs.declared.fault.Fault.TheVariants.{UnknownWord}
use Rattle.order_grammar.specs.declared.order.Order.{Order}
use Rattle.sheets.specs.Text.{is_blank, lines_of, written, written_lines}
use Rattle.umpire.specs.Migrated.{file_in_two, header_of_two, is_if_line, is_unknown, line_in_two}
use Rattle.umpire.proofs.MigratedLines.{lines_go, plain_in_two}

-- a line whose fault is G3
unknown_is : (reading : Result Order Fault) → is_unknown reading ≡ true → reading ≡ Err UnknownWord
unknown_is (Ok order) e = absurd (cc)
unknown_is (Err UnknownWord) e = refl
unknown_is (Err other) e = absurd (cc)

x_is_unknown : reading_of (codes "X") ≡ Err UnknownWord
x_is_unknown = refl

pub if_parts : (line : List ℕ) → is_if_line line ≡ true
    → (same_word (first_of_words (words_of line)) (codes "IF") ≡ true) × (reading_of line ≡ Err UnknownWord)
unfolding is_if_line
if_parts line e =
    let both = and_parts (same_word (first_of_words (words_of line)) (codes "IF")) (is_unknown (reading_of line)) e in
    (both.0, unknown_is (reading_of line) both.1)

-- it is read in version 1 as the line that it stands for
pub read_alike : (line : List ℕ) → reading_of (line_in_two line) ≡ reading_of line
unfolding line_in_two
read_alike line =
    elim (cases_Bool (is_if_line line)) as (λ _. reading_of (cond (is_if_line line) (codes "X") line)
    ≡ reading_of line) [
      | inl e ↦ rw e (x_is_unknown ∙ sym (if_parts line e).1)
      | inr e ↦ rw e refl
    ]

if_has_words : (words : List (List ℕ)) → same_word (first_of_words words) (codes "IF") ≡ true → has_words words ≡ true
if_has_words [] e = absurd (cc)
if_has_words (word ∷ words) e = refl

if_counts : (line : List ℕ) → is_if_line line ≡ true → is_blank line ≡ false
unfolding is_blank
if_counts line e = rw (if_has_words (words_of line) (if_parts line e).0) (and-false (nat_le (length line) line_most))

x_counts : is_blank (codes "X") ≡ false
unfolding is_blank
x_counts = refl

header_counts : is_blank header_of_two ≡ false
unfolding is_blank
header_counts = refl

-- it is blank where that is
pub blank_alike : (line : List ℕ) → is_blank (line_in_two line) ≡ is_blank line
unfolding line_in_two
blank_alike line =
    elim (cases_Bool (is_if_line line)) as (λ _. is_blank (cond (is_if_line line) (codes "X") line) ≡ is_blank line) [
      | inl e ↦ rw e (x_counts ∙ sym (if_counts line e))
      | inr e ↦ rw e refl
    ]

-- so the lines that count stand for those that counted
written_alike : (lines : List (List ℕ)) → written (map line_in_two lines) ≡ map line_in_two (written lines)
written_alike [] = refl
written_alike (line ∷ lines) =
    rw (blank_alike line)
    (elim (is_blank line) as (λ b. cond (not b) (line_in_two line ∷ written (map line_in_two lines))
    (written (map line_in_two lines)) ≡ map line_in_two (cond (not b) (line ∷ written lines) (written lines))) [
      | true ↦ written_alike lines
      | false ↦ ap (λ ls. line_in_two line ∷ ls) (written_alike lines)
    ])

-- the header and the lines after it
abbrev pub headed : List (List ℕ) → List (List ℕ)
headed [] = []
headed (line ∷ lines) = header_of_two ∷ map line_in_two lines

written_in_two : (lines : List (List ℕ)) → written (plain_in_two lines) ≡ headed (written lines)
unfolding plain_in_two
written_in_two [] = refl
written_in_two (line ∷ lines) =
    elim (cases_Bool (is_blank line)) as (λ _. written (plain_in_two (line ∷ lines))
    ≡ headed (written (line ∷ lines))) [
      | inl e ↦ rw e (rw e (written_in_two lines))
      | inr e ↦ rw e (rw header_counts (ap (λ ls. header_of_two ∷ ls) (written_alike lines)))
    ]

pub written_lines_go : (file : List ℕ) → written_lines (file_in_two file) ≡ headed (written_lines file)
unfolding written_lines
written_lines_go file = ap written (lines_go file) ∙ written_in_two (lines_of file)
