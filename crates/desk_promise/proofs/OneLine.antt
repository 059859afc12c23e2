-- Lines that are ended, one after another, are the lines of their text; and what is printed in one line.
use Rattle.std.proofs.Common.{◌≡◌, ℕ, zero, suc, ◌+◌, ◌%◌, ◌^◌, ◌<◌, ◌==◌, Bool, true, false, ◌&&◌, nat_le, List, [], ◌∷◌, ◌++◌}
use Rattle.std.proofs.Common.{append_assoc, codes, refl, sym, ap, ◌∙◌, arith}
use Rattle.std.specs.Prelude.{if◌then◌else◌, not}
use Rattle.std.specs.Fmt.{decimal}
use Rattle.std.specs.List.{AllByRecursion, flat_map, list_all, range_with_len}
use Rattle.std.proofs.lemmas.Bool.{and_from, and_parts, leb-true}
use Rattle.std.proofs.lemmas.Bool.Decides.{nat_tests}
use Rattle.std.proofs.lemmas.Fmt.{decimal_by_steps}
use Rattle.std.proofs.lemmas.List.{append-nil}
use Rattle.std.proofs.lemmas.List.Concat.{flat_map-cons}
use Rattle.std.proofs.lemmas.List.Folds.{list_all-append}
use Rattle.order_grammar.specs.Print.{spaced, text_of_round}
use Rattle.order_grammar.specs.Spells.{is_round_of_line}
use Rattle.sheets.specs.Text.{lines_from, lines_of, without_return}
use Rattle.tables.specs.Roster.{code_of_company}
use Rattle.tables.specs.Round.{number_most, operating_most}
use Rattle.tables.specs.declared.roster.Company.{Company}
use Rattle.tables.specs.declared.roster.Company.TheVariants as companies
use Rattle.tables.specs.declared.round.Round.{Round}
use Rattle.tables.specs.declared.round.Round.TheVariants.{Opening, Stock, Operating}

-- a byte ends no line
abbrev pub is_within : ℕ → Bool
is_within byte = not (byte == 10) && not (byte == 13)

-- no byte ends the line
abbrev pub IsUnbroken : List ℕ → Type 0
IsUnbroken line = list_all is_within line ≡ true

-- so no CR at its end goes
whole : (line : List ℕ) → IsUnbroken line → without_return line ≡ line
whole [] all = refl
whole (byte ∷ []) all =
    let last : (byte == 13) ≡ false = grind arith in
    ap (λ (b : Bool). if b then [] else byte ∷ []) last
whole (byte ∷ next ∷ bytes) all =
    ap (λ (rest : List ℕ). byte ∷ rest) (whole (next ∷ bytes) (and_parts (is_within byte) (list_all is_within (next ∷ bytes)) all).1)

-- it is the first line of a text, up to an LF
up_to_end : (begun line rest : List ℕ) → IsUnbroken line
    → lines_from begun (line ++ 10 ∷ rest) ≡ without_return (begun ++ line) ∷ lines_from [] rest
up_to_end begun [] rest all = ap (λ (line : List ℕ). without_return line ∷ lines_from [] rest) (sym (append-nil begun))
up_to_end begun (byte ∷ line) rest all =
    let parts = and_parts (is_within byte) (list_all is_within line) all in
    let goes_on : (byte == 10) ≡ false = grind (arith, parts.0) in
    ap (λ (b : Bool). if b then without_return begun ∷ lines_from [] (line ++ 10 ∷ rest)
    else lines_from (begun ++ byte ∷ []) (line ++ 10 ∷ rest)) goes_on
    ∙ up_to_end (begun ++ byte ∷ []) line rest parts.1
    ∙ ap (λ (first : List ℕ). without_return first ∷ lines_from [] rest) (append_assoc begun (byte ∷ []) line)

-- a text reads as these lines, whatever follows it
abbrev pub ReadsAs : List ℕ → List (List ℕ) → Type 0
ReadsAs text lines = (rest : List ℕ) → lines_of (text ++ rest) ≡ lines ++ lines_of rest

pub nothing_read : ReadsAs [] []
nothing_read rest = refl

pub line_read : (line : List ℕ) → IsUnbroken line → ReadsAs (line ++ 10 ∷ []) (line ∷ [])
line_read line all rest =
    ap lines_of (append_assoc line (10 ∷ []) rest) ∙ up_to_end [] line rest all
    ∙ ap (λ (first : List ℕ). first ∷ lines_of rest) (whole line all)

pub both_read : (a b : List ℕ) (l m : List (List ℕ)) → ReadsAs a l → ReadsAs b m → ReadsAs (a ++ b) (l ++ m)
both_read a b l m first second rest =
    ap lines_of (append_assoc a b rest) ∙ first (b ++ rest) ∙ ap (λ (lines : List (List ℕ)). l ++ lines) (second rest)
    ∙ sym (append_assoc l m (lines_of rest))

-- so do the texts of some seats, one after another
pub seats_read : (f : ℕ → List ℕ) (g : ℕ → List (List ℕ)) (first count : ℕ)
    → ((seat : ℕ) → seat < first + count → ReadsAs (f seat) (g seat))
    → ReadsAs (flat_map f (range_with_len first count)) (flat_map g (range_with_len first count))
seats_read f g first zero each = nothing_read
seats_read f g first (suc count) each =
    both_read (f first) (flat_map f (range_with_len (first + 1) count)) (g first)
    (flat_map g (range_with_len (first + 1) count)) (each first (omega arith))
    (seats_read f g (first + 1) count (λ seat within. each seat (omega (arith, within))))

pub whole_text : (text : List ℕ) (lines : List (List ℕ)) → ReadsAs text lines → lines_of text ≡ lines
whole_text text lines is = ap lines_of (sym (append-nil text)) ∙ is [] ∙ append-nil lines

-- what is printed of numbers, rounds and companies is unbroken
pub both_unbroken : (a b : List ℕ) → IsUnbroken a → IsUnbroken b → IsUnbroken (a ++ b)
both_unbroken a b first second = list_all-append is_within a b
    ∙ and_from (list_all is_within a) (list_all is_within b) first second

one_digit : (number : ℕ) → number < 10 → IsUnbroken ((48 + number) ∷ [])
one_digit number small = grind (arith, nat_tests)

pub number_unbroken : (number : ℕ) → number < 2 ^ 64 → IsUnbroken (decimal number)
number_unbroken number small =
    decimal_by_steps (λ (n : ℕ) (digits : List ℕ). IsUnbroken digits) one_digit
    (λ n digits large all. both_unbroken digits ((48 + n % 10) ∷ []) all (one_digit (n % 10) (omega arith))) number small

pub round_unbroken : (round : Round) → is_round_of_line round ≡ true → IsUnbroken (text_of_round round)
round_unbroken (Opening number) its =
    let most = leb-true number number_most (and_parts (nat_le 1 number) (nat_le number number_most) its).1 in
    both_unbroken (codes "PR") (decimal number) refl (number_unbroken number (omega (arith, most)))
round_unbroken (Stock number) its =
    let most = leb-true number number_most (and_parts (nat_le 1 number) (nat_le number number_most) its).1 in
    both_unbroken (codes "SR") (decimal number) refl (number_unbroken number (omega (arith, most)))
round_unbroken (Operating set number) its =
    let parts = and_parts (nat_le 1 set && nat_le set number_most) (nat_le 1 number && nat_le number operating_most)
    its in
    let set_most = leb-true set number_most (and_parts (nat_le 1 set) (nat_le set number_most) parts.0).1 in
    let most = leb-true number operating_most (and_parts (nat_le 1 number) (nat_le number operating_most) parts.1).1 in
    both_unbroken ((codes "OR" ++ decimal set) ++ codes ".") (decimal number)
    (both_unbroken (codes "OR" ++ decimal set) (codes ".")
    (both_unbroken (codes "OR") (decimal set) refl (number_unbroken set (omega (arith, set_most)))) refl)
    (number_unbroken number (omega (arith, most)))

pub company_unbroken : (company : Company) → IsUnbroken (code_of_company company)
company_unbroken companies.Pennsylvania = refl
company_unbroken other = refl

-- so are words with a space before each
pub spaced_unbroken : (words : List (List ℕ)) → AllByRecursion IsUnbroken words → IsUnbroken (spaced words)
spaced_unbroken [] all = refl
spaced_unbroken (word ∷ words) all =
    ap (list_all is_within) (flat_map-cons (λ (w : List ℕ). 32 ∷ w) word words)
    ∙ both_unbroken (32 ∷ word) (spaced words) all.0 (spaced_unbroken words all.1)
