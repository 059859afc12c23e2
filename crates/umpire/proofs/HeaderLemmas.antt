-- A header line has at least eleven bytes, so that no file grows as it migrates to version 2.
use Rattle.std.proofs.Common.{◌≡◌, ℕ, ◌≤◌, ◌+◌, ◌-◌, inl, inr, Bool, true, false, cond, List, [], ◌∷◌, ◌++◌, Result, Ok}
use Rattle.std.proofs.Common.{Err, Option, Some, None, codes, length, refl, sym, ap, subst, ◌∙◌, append_assoc, arith}
use Rattle.std.proofs.Common.{eqb, map}
use Rattle.std.specs.Prelude.{◌&&◌, nat_le}
use Rattle.std.proofs.lemmas.Bool.{and_parts, cases_Bool, eqb-true, leb-true}
use Rattle.std.proofs.lemmas.List.{append-nil, length-append, length-map}
use Rattle.std.specs.Char.{to_ascii_uppercase}
use Rattle.map_tables.specs.Text.{is_digit}
use Rattle.order_grammar.specs.Class.{are_digits, value_of_digits}
use Rattle.order_grammar.specs.Form.{order_forms}
use Rattle.order_grammar.specs.Line.{reading_of}
use Rattle.order_grammar.specs.Spells.{End, IsNumber, IsWord, Then}
use Rattle.order_grammar.specs.Texts.{order_file}
use Rattle.order_grammar.specs.Words.{before, before_comment, raised, with_word, words_from, words_of}
use Rattle.order_grammar.specs.declared.condition.Version.{Version}
use Rattle.order_grammar.specs.declared.condition.Version.TheVariants.{One, Two}
use Rattle.order_grammar.specs.declared.fault.Fault.{Fault}
use Rattle.order_grammar.specs.declared.order.Order.{Order}
use Rattle.order_grammar.specs.declared.order.Order.TheVariants.{Game}
use Rattle.order_grammar.proofs.PartLemmas.{rows_of_orders}
use Rattle.order_grammar.proofs.SpellsLemmas.{read_spells}
use Rattle.sheets.specs.File.{header_version, version_numbered}
use Rattle.sheets.specs.Text.{is_blank, without_return, written, written_lines}
use Rattle.umpire.specs.Migrated.{EndedLine, ended_in_two, ended_lines, ended_lines_from, file_in_two, header_of_two}
use Rattle.umpire.specs.Migrated.{is_if_line, line_in_two, lines_in_two, named_version, return_of, text_of_ended}
use Rattle.umpire.proofs.EndedLines.{both_parts}
use Rattle.umpire.proofs.MigratedLines.{plain, plain_lines}

not_one : (is : Bool) → ◌≡◌ {A = Option Version} (cond is (Some Two) None) (Some One) → ⊥
not_one true e = cc
not_one false e = cc

-- a header line is read as game 1830 and version 1
version_is : (number : ℕ) → version_numbered number ≡ Some One → number ≡ 1
version_is number e =
    elim (cases_Bool (eqb number 1)) [
      | inl one ↦ eqb-true number 1 one
      | inr other ↦ absurd (let wrong = rw other at e in not_one (eqb number 2) wrong)
    ]

game_is : (game number : ℕ) → cond (eqb game 1830) (version_numbered number) None ≡ Some One
    → (game ≡ 1830) × (number ≡ 1)
game_is game number e =
    elim (cases_Bool (eqb game 1830)) [
      | inl same ↦ (eqb-true game 1830 same, version_is number (rw same at e))
      | inr other ↦ absurd (let wrong : ◌≡◌ {A = Option Version} None (Some One) = rw other at e in cc)
    ]

-- the words of a header line
abbrev HeaderWords : List (List ℕ) → Type 0
HeaderWords words = Then (IsWord (codes "GAME")) (Then (IsNumber 1830) (Then (IsNumber 1) End)) words

words_by : (line : List ℕ) (reading : Result Order Fault) → reading_of line ≡ reading
    → header_version reading ≡ Some One → HeaderWords (words_of line)
words_by line (Ok (Game game number)) read e =
    let both = game_is game number e in
    let is : reading_of line ≡ Ok (Game 1830 1) = read ∙ rw (both.0, both.1) refl in
    (read_spells order_file order_forms rows_of_orders line (Game 1830 1) is).loosely.words
words_by line (Ok other) read e = absurd (cc)
words_by line (Err fault) read e = absurd (cc)

-- the bytes of words, with one after each
total : List (List ℕ) → ℕ
total [] = 0
total (word ∷ words) = length word + 1 + total words

with_fit : (word : List ℕ) (words : List (List ℕ)) (n : ℕ) → total words ≤ n
    → total (with_word word words) ≤ length word + 1 + n
unfolding total
with_fit [] words n fits = omega arith
with_fit (byte ∷ word) words n fits = omega arith

words_fit : (begun text : List ℕ) → total (words_from begun text) ≤ length begun + length text + 1
unfolding total
words_fit [] [] = omega arith
words_fit (a ∷ begun) [] = omega arith
words_fit begun (byte ∷ text) =
    let first : total (words_from [] text) ≤ length text + 1 = omega (arith, words_fit [] text) in
    let here = with_fit begun (words_from [] text) (length text + 1) first in
    let later = words_fit (begun ++ byte ∷ []) text in
    let longer = length-append begun (byte ∷ []) in
    elim (eqb byte 32) as (λ b. total (cond b (with_word begun (words_from [] text))
    (words_from (begun ++ byte ∷ []) text)) ≤ length begun + length (byte ∷ text) + 1) [
      | true ↦ omega arith
      | false ↦ omega arith
    ]

before_fits : (stop : ℕ) (line : List ℕ) → length (before stop line) ≤ length line
before_fits stop [] = omega arith
before_fits stop (byte ∷ line) =
    let rest = before_fits stop line in
    elim (eqb byte stop) as (λ b. length (cond b [] (byte ∷ before stop line)) ≤ length (byte ∷ line))
    [ true ↦ omega arith | false ↦ omega arith ]

raised_total : (words : List (List ℕ)) → total (map raised words) ≡ total words
unfolding total
raised_total [] = refl
raised_total (word ∷ words) = rw (length-map word to_ascii_uppercase, raised_total words) refl

line_total : (line : List ℕ) → total (words_of line) ≤ length line + 1
line_total line =
    let fit = words_fit [] (before_comment line) in
    let shorter = before_fits 35 line in
    rw (raised_total (words_from [] (before_comment line))) (omega arith)

-- digits of so great a number
digit_most : (digit : ℕ) → is_digit digit ≡ true → digit - 48 ≤ 9
digit_most digit e = let most = leb-true digit 57 (and_parts (nat_le 48 digit) (nat_le digit 57) e).1 in omega arith

four_digits : (digits : List ℕ) → are_digits digits ≡ true → value_of_digits digits ≡ 1830 → 4 ≤ length digits
four_digits [] are e = absurd (cc)
four_digits (a ∷ []) are e =
    let first = digit_most a (and_parts (is_digit a) true are).0 in
    absurd (omega arith)
four_digits (a ∷ b ∷ []) are e =
    let parts = and_parts (is_digit a) (is_digit b && true) are in
    let first = digit_most a parts.0 in
    let second = digit_most b (and_parts (is_digit b) true parts.1).0 in
    absurd (omega arith)
four_digits (a ∷ b ∷ c ∷ []) are e =
    let parts = and_parts (is_digit a) (is_digit b && (is_digit c && true)) are in
    let others = and_parts (is_digit b) (is_digit c && true) parts.1 in
    let first = digit_most a parts.0 in
    let second = digit_most b others.0 in
    let third = digit_most c (and_parts (is_digit c) true others.1).0 in
    absurd (omega arith)
four_digits (a ∷ b ∷ c ∷ d ∷ digits) are e = omega arith

one_digit : (digits : List ℕ) → are_digits digits ≡ true → 1 ≤ length digits
one_digit [] are = absurd (cc)
one_digit (digit ∷ digits) are = omega arith

header_total : (words : List (List ℕ)) → HeaderWords words → 12 ≤ total words
unfolding total
header_total [] are = absurd are
header_total (a ∷ []) are = absurd are.1
header_total (a ∷ b ∷ []) are = absurd are.1.1
header_total (a ∷ b ∷ c ∷ []) are =
    let first : length a ≡ 4 = ap length are.0 in
    let second = four_digits b are.1.0.digits are.1.0.value in
    let third = one_digit c are.1.1.0.digits in
    omega arith
header_total (a ∷ b ∷ c ∷ d ∷ words) are = absurd are.1.1.1

header_length : (line : List ℕ) → header_version (reading_of line) ≡ Some One → 11 ≤ length line
header_length line e =
    let words = words_by line (reading_of line) refl e in
    let many = header_total (words_of line) words in
    let fit = line_total line in
    omega arith

-- a line that stands for another is no longer
no_if : is_if_line [] ≡ false
unfolding is_if_line
no_if = refl

x_fits : (line : List ℕ) → is_if_line line ≡ true → 1 ≤ length line
x_fits [] e = absurd (let none = no_if in cc)
x_fits (byte ∷ line) e = omega arith

line_fits : (line : List ℕ) → length (line_in_two line) ≤ length line
unfolding line_in_two
line_fits line =
    elim (cases_Bool (is_if_line line)) as (λ _. length (cond (is_if_line line) (codes "X") line) ≤ length line) [
      | inl e ↦ rw e (x_fits line e)
      | inr e ↦ rw e (omega arith)
    ]

-- so are all
ended_fits : (line other end rest more : List ℕ) → length line ≤ length other → length rest ≤ length more
    → length ((line ++ end) ++ rest) ≤ length ((other ++ end) ++ more)
ended_fits line other end rest more first behind =
    rw (
      length-append (line ++ end) rest,
      length-append line end,
      length-append (other ++ end) more,
      length-append
          other end,
    ) (omega arith)

all_fit : (lines : List EndedLine) → length (text_of_ended (map ended_in_two lines)) ≤ length (text_of_ended lines)
all_fit [] = omega arith
all_fit (ended ∷ lines) =
    ended_fits (line_in_two ended.line) ended.line ended.end (text_of_ended (map ended_in_two lines))
    (text_of_ended lines) (line_fits ended.line) (all_fit lines)

lines_fit : (lines : List EndedLine) → named_version (written (plain lines)) ≡ Some One
    → length (text_of_ended (lines_in_two lines)) ≤ length (text_of_ended lines)
unfolding plain
lines_fit [] e = omega arith
lines_fit (ended ∷ lines) e =
    elim (cases_Bool (is_blank ended.line)) as (λ _. length (text_of_ended (lines_in_two (ended ∷ lines)))
    ≤ length (text_of_ended (ended ∷ lines))) [
      | inl blank ↦ rw blank (ended_fits ended.line ended.line ended.end (text_of_ended (lines_in_two lines))
          (text_of_ended lines) (omega arith) (lines_fit lines (rw blank at e)))
      | inr counts ↦ rw counts (ended_fits header_of_two ended.line ended.end (text_of_ended (map ended_in_two lines))
          (text_of_ended lines) (header_length ended.line (rw counts at e)) (all_fit lines))
    ]

-- the lines of a text with their ends are the text
whole_line : (begun : List ℕ) (byte : ℕ) (text : List ℕ) → eqb byte 10 ≡ true
    → (without_return begun ++ (return_of begun ++ 10 ∷ [])) ++ text ≡ begun ++ byte ∷ text
whole_line begun byte text e =
    rw (eqb-true byte 10 e)
    (ap (λ l. l ++ text) (sym (append_assoc (without_return begun) (return_of begun) (10 ∷ []))
    ∙ ap (λ l. l ++ 10 ∷ []) (both_parts begun)) ∙ append_assoc begun (10 ∷ []) text)

whole_text : (begun text : List ℕ) → text_of_ended (ended_lines_from begun text) ≡ begun ++ text
whole_text [] [] = refl
whole_text (a ∷ begun) [] = append-nil ((a ∷ begun) ++ [])
whole_text begun (byte ∷ text) =
    elim (cases_Bool (eqb byte 10)) as (λ _. text_of_ended (ended_lines_from begun (byte ∷ text))
    ≡ begun ++ byte ∷ text) [
      | inl e ↦ rw e (ap (λ l. (without_return begun ++ (return_of begun ++ 10 ∷ [])) ++ l) (whole_text [] text)
          ∙ whole_line begun byte text e)
      | inr e ↦ rw e (whole_text (begun ++ byte ∷ []) text ∙ append_assoc begun (byte ∷ []) text)
    ]

-- a file of version 1 goes over to no more bytes
pub file_fits : (file : List ℕ) → named_version (written_lines file) ≡ Some One
    → length (file_in_two file) ≤ length file
unfolding file_in_two ended_lines written_lines
file_fits file e =
    let named : named_version (written (plain (ended_lines_from [] file))) ≡ Some One =
    ap (λ lines. named_version (written lines)) (plain_lines [] file) ∙ e in
    subst (λ (text : List ℕ). length (text_of_ended (lines_in_two (ended_lines_from [] file))) ≤ length text)
    (whole_text [] file) (lines_fit (ended_lines_from [] file) named)
