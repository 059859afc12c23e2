-- The groups of a text of certificates. A line whose first word is CERT begins one, spelt or not,
-- and it goes up to the next such line. It is well formed if that line is spelt, CLAIM lines
-- follow, and then MARKS lines, and no other line with words. The digits of its MARKS lines may be
-- divided into lines in any way. Lines before the first group are not looked at.
use Rattle.std.specs.Prelude.{ℕ, Bool, true, false, if◌then◌else◌, List, [], ◌∷◌, ◌++◌, codes, Option, Some, None}
use Rattle.std.specs.Prelude.{option_and_then, Result, Ok}
use Rattle.certificate.specs.Digits.{bits_of_digits}
use Rattle.legal_runs.specs.declared.claim.ClaimedRun.{ClaimedRun}
use Rattle.certificate.specs.declared.group.Group.{Group}
use Rattle.order_grammar.specs.Line.{cert_reading_of}
use Rattle.order_grammar.specs.Words.{words_of, first_of_words, same_word}
use Rattle.order_grammar.specs.declared.fault.Fault.{Fault}
use Rattle.order_grammar.specs.declared.order.Order.{Order}
use Rattle.order_grammar.specs.declared.order.Order.TheVariants.{Blank, Cert, Claim, Marks}
use Rattle.sheets.specs.Text.{lines_of}

-- a line whose first word is CERT
unfoldable pub begins_group : List ℕ → Bool
begins_group line = same_word (first_of_words (words_of line)) (codes "CERT")

-- the second of some words; nothing if there is none
abbrev pub second_of_words : List (List ℕ) → List ℕ
second_of_words [] = []
second_of_words (word ∷ words) = first_of_words words

-- what a CERT line begins: a group without runs and marks; nothing if it is not spelt
abbrev pub group_begun : Result Order Fault → Option Group
group_begun (Ok (Cert round company revenue)) =
    Some (record { round = round; company = company; claim = record { revenue = revenue; runs = [] }; bits = [] })
group_begun other = None

-- a group with one more run; runs are claimed before marks
abbrev pub with_run : Group → ClaimedRun → List Bool → Option Group
with_run group run [] =
    Some (record group { claim = record { revenue = group.claim.revenue; runs = group.claim.runs ++ run ∷ [] } })
with_run group run (bit ∷ bits) = None

-- a group with more marks
abbrev pub with_marks : Group → List ℕ → Group
with_marks group digits = record group { bits = group.bits ++ bits_of_digits digits }

-- a group with a line, by what is read of that and by its words
abbrev pub with_reading : Group → List (List ℕ) → Result Order Fault → Option Group
with_reading group words (Ok Blank) = Some group
with_reading group words (Ok (Claim kind run)) = with_run group (record { kind = kind; run = run }) group.bits
with_reading group words (Ok Marks) = Some (with_marks group (second_of_words words))
with_reading group words other = None

-- a group with a line; nothing if it is no longer well formed
unfoldable pub group_with_line : Group → List ℕ → Option Group
group_with_line group line = with_reading group (words_of line) (cert_reading_of line)

-- a group with the lines up to the next that begins one
abbrev pub with_lines : List (List ℕ) → Option Group → Option Group
with_lines [] group = group
with_lines (line ∷ lines) group =
    if begins_group line then group else with_lines lines (option_and_then (λ begun. group_with_line begun line) group)

-- the group that a line begins, with the lines of the text after that
abbrev pub group_behind : List ℕ → List ℕ → Option Group
group_behind head text = with_lines (lines_of text) (group_begun (cert_reading_of head))

-- a group, if it is well formed
abbrev pub group_if : Bool → Group → Option Group
group_if true group = Some group
group_if false group = None

-- the groups of some lines; nothing for one that is malformed
abbrev pub groups_in : List (List ℕ) → List (Option Group)
groups_in [] = []
groups_in (line ∷ lines) = if begins_group line
    then with_lines lines (group_begun (cert_reading_of line)) ∷ groups_in lines else groups_in lines

-- the groups of a text
unfoldable pub groups_of : List ℕ → List (Option Group)
groups_of text = groups_in (lines_of text)
