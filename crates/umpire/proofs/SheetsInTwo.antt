-- A file that has gone over to version 2 has the same players, unread lines and parts of sheets.
use Rattle.std.proofs.Common.{◌≡◌, ℕ, ◌+◌, ◌≤◌, inl, inr, Bool, true, false, cond, List, [], ◌∷◌, Option, Some, None}
use Rattle.std.proofs.Common.{Result, Ok, Err, codes, length, take, refl, sym, ap, ◌∙◌, arith, map}
use Rattle.std.specs.Prelude.{not, nat_lt, is_some, option_map, unwrap_or}
use Rattle.std.specs.List.{list_all, prefix_len}
use Rattle.std.specs.Option.{option_or}
use Rattle.std.proofs.lemmas.Bool.{cases_Bool}
use Rattle.std.proofs.lemmas.List.{take-map}
use Rattle.order_grammar.specs.Condition.{unconditional}
use Rattle.order_grammar.specs.Form.{order_forms, words_reading}
use Rattle.order_grammar.specs.Limits.{line_most}
use Rattle.order_grammar.specs.Line.{reading_of}
use Rattle.order_grammar.specs.Version.{reading_in}
use Rattle.order_grammar.specs.Words.{before_comment, first_of_words, is_printable, same_word, words_of}
use Rattle.order_grammar.specs.declared.condition.Version.{Version}
use Rattle.order_grammar.specs.declared.condition.Version.TheVariants.{One, Two}
use Rattle.order_grammar.specs.declared.fault.Fault.{Fault}
use Rattle.order_grammar.specs.declared.fault.Fault.TheVariants.{UnknownWord}
use Rattle.order_grammar.specs.declared.order.Order.{Order}
use Rattle.order_grammar.proofs.KeywordLemmas.{same_word-is}
use Rattle.order_grammar.proofs.VersionLemmas.{one_is_as_it_was, same_without_if}
use Rattle.sheets.specs.File.{Content, begins, body_content, body_in, body_of, content_of, good_lines, sheet_lines}
use Rattle.sheets.specs.File.{header_version, is_sheet_line, lines_begun, lines_content, players_content, players_in}
use Rattle.sheets.specs.File.{players_named, players_of, sheet_key_at, same_sheet_key, sheet_in, sheet_of, unread_fault}
use Rattle.sheets.specs.File.{unread_in, unread_of, version_in, version_of}
use Rattle.sheets.specs.Laws.{SameParts}
use Rattle.sheets.specs.Limits.{file_most, sheets_most}
use Rattle.sheets.specs.Part.{opens_part, parts_after}
use Rattle.sheets.specs.Text.{written_lines}
use Rattle.sheets.specs.declared.fault.FileFault.{FileFault}
use Rattle.sheets.specs.declared.fault.FileFault.TheVariants.{TooManySheets}
use Rattle.sheets.specs.declared.sheet_key.SheetKey.{SheetKey}
use Rattle.sheets.proofs.ContentLemmas.{short_enough}
use Rattle.tables.specs.declared.round.Round.{Round}
use Rattle.tables.proofs.Tests.{second_fails}
use Rattle.umpire.specs.Migrated.{file_in_two, header_of_two, is_if_line, is_unknown, line_in_two, named_version}
use Rattle.umpire.proofs.HeaderLemmas.{file_fits}
use Rattle.umpire.proofs.LinesInTwo.{headed, if_parts, read_alike, written_lines_go}

-- SHEET lines begin the same sheets
x_is_no_sheet : is_sheet_line (codes "X") ≡ false
unfolding is_sheet_line
x_is_no_sheet = refl

if_is_no_sheet : (line : List ℕ) → is_if_line line ≡ true → is_sheet_line line ≡ false
unfolding is_sheet_line
if_is_no_sheet line e =
    let first = same_word-is (first_of_words (words_of line)) (codes "IF") (if_parts line e).0 in
    rw first refl

sheet_line_alike : (line : List ℕ) → is_sheet_line (line_in_two line) ≡ is_sheet_line line
unfolding line_in_two
sheet_line_alike line =
    elim (cases_Bool (is_if_line line)) as (λ _. is_sheet_line (cond (is_if_line line) (codes "X") line)
    ≡ is_sheet_line line) [
      | inl e ↦ rw e (x_is_no_sheet ∙ sym (if_is_no_sheet line e))
      | inr e ↦ rw e refl
    ]

begins_alike : (players : List (List ℕ)) (line : List ℕ) → begins players (line_in_two line) ≡ begins players line
unfolding begins
begins_alike players line = rw (sheet_line_alike line, read_alike line) refl

good_alike : (players lines : List (List ℕ)) → good_lines players (map line_in_two lines) ≡ good_lines players lines
good_alike players [] = refl
good_alike players (line ∷ lines) = rw (begins_alike players line, good_alike players lines) refl

abbrev is_inside : List ℕ → Bool
is_inside line = not (is_sheet_line line)

inside_alike : (lines : List (List ℕ)) → prefix_len is_inside (map line_in_two lines) ≡ prefix_len is_inside lines
inside_alike [] = refl
inside_alike (line ∷ lines) = rw (sheet_line_alike line, inside_alike lines) refl

sheet_lines_alike : (lines : List (List ℕ)) → sheet_lines (map line_in_two lines) ≡ map line_in_two (sheet_lines lines)
sheet_lines_alike lines =
    ap (λ n. take n (map line_in_two lines)) (inside_alike lines)
    ∙ take-map line_in_two (prefix_len is_inside lines) lines

-- a sheet with its lines gone over
abbrev gone : Option (List (List ℕ)) → Option (List (List ℕ))
gone sheet = option_map (map line_in_two) sheet

begun_goes : (sheet_key : SheetKey) (lines : List (List ℕ)) (begun : Option SheetKey)
    → lines_begun sheet_key (map line_in_two lines) begun ≡ gone (lines_begun sheet_key lines begun)
begun_goes sheet_key lines None = refl
begun_goes sheet_key lines (Some begun) =
    elim (same_sheet_key begun sheet_key) as (λ b. cond b (Some (map line_in_two lines)) None
    ≡ gone (cond b (Some lines) None)) [ true ↦ refl | false ↦ refl ]

either_goes : (first second : Option (List (List ℕ)))
    → option_or (gone first) (gone second) ≡ gone (option_or first second)
either_goes None second = refl
either_goes (Some lines) second = refl

sheet_goes : (players lines : List (List ℕ)) (sheet_key : SheetKey)
    → sheet_in players (map line_in_two lines) sheet_key ≡ gone (sheet_in players lines sheet_key)
sheet_goes players [] sheet_key = refl
sheet_goes players (line ∷ lines) sheet_key =
    let here : lines_begun sheet_key (sheet_lines (map line_in_two lines)) (begins players (line_in_two line))
    ≡ gone (lines_begun sheet_key (sheet_lines lines) (begins players line)) =
    rw (begins_alike players line, sheet_lines_alike lines) (begun_goes sheet_key (sheet_lines lines)
    (begins players line)) in
    rw (sheet_goes players lines sheet_key, here) (either_goes (sheet_in players lines sheet_key)
    (lines_begun sheet_key (sheet_lines lines) (begins players line)))

-- a line is read in version 2 as the line that it stands for in version 1
pub if_unknown : (words : List (List ℕ)) → same_word (first_of_words words) (codes "IF") ≡ true
    → words_reading order_forms words ≡ Err UnknownWord
if_unknown [] e = absurd (cc)
if_unknown (first ∷ rest) e = rw (same_word-is first (codes "IF") e) refl

-- one that stays although its first word is IF has a fault before that
no_words : (line : List ℕ) → same_word (first_of_words (words_of line)) (codes "IF") ≡ true
    → is_unknown (reading_of line) ≡ false → reading_in Two line ≡ reading_in One line
no_words line first known =
    elim (cases_Bool (nat_lt line_most (length line))) [
      | inl long ↦ rw long refl
      | inr short ↦
          elim (cases_Bool (list_all is_printable (before_comment line))) [
            | inl printable ↦
                let read : reading_of line ≡ Err UnknownWord =
                rw (short, printable) (if_unknown (words_of line) first) in
                absurd (let wrong = rw read at known in cc)
            | inr stray ↦ rw (short, stray) refl
          ]
    ]

stays_alike : (line : List ℕ) → is_if_line line ≡ false → reading_in Two line ≡ reading_in One line
unfolding is_if_line
stays_alike line e =
    elim (cases_Bool (same_word (first_of_words (words_of line)) (codes "IF"))) [
      | inl first ↦ no_words line first (second_fails (same_word (first_of_words (words_of line)) (codes "IF"))
          (is_unknown (reading_of line)) e first)
      | inr other ↦ same_without_if line (λ is. let wrong = rw is at other in cc)
    ]

x_in_two : reading_in Two (codes "X") ≡ Err UnknownWord
x_in_two = refl

versions_alike : (line : List ℕ) → reading_in Two (line_in_two line) ≡ reading_in One line
unfolding line_in_two
versions_alike line =
    elim (cases_Bool (is_if_line line)) as (λ _. reading_in Two (cond (is_if_line line) (codes "X") line)
    ≡ reading_in One line) [
      | inl e ↦ rw e (x_in_two ∙ sym (one_is_as_it_was line ∙ ap unconditional (if_parts line e).1))
      | inr e ↦ rw e (stays_alike line e)
    ]

unread_alike : (line : List ℕ) → unread_fault Two (line_in_two line) ≡ unread_fault One line
unfolding unread_fault
unread_alike line = rw (versions_alike line) refl

unread_go : (players : List (List ℕ)) (inside : Bool) (lines : List (List ℕ))
    → unread_in Two players inside (map line_in_two lines) ≡ unread_in One players inside lines
unread_go players inside [] = refl
unread_go players inside (line ∷ lines) =
    rw (
      sheet_line_alike line,
      begins_alike players line,
      unread_alike line,
      unread_go players true lines,
      unread_go
          players false lines,
    ) refl

parts_go : (opens : Result Order Fault → Bool) (count : ℕ) (lines : List (List ℕ))
    → parts_after Two opens count (map line_in_two lines) ≡ parts_after One opens count lines
parts_go opens count [] = refl
parts_go opens count (line ∷ lines) = rw (versions_alike line, parts_go opens (count + 1) lines) refl

lines_go : (sheet : Option (List (List ℕ))) → unwrap_or (gone sheet) [] ≡ map line_in_two (unwrap_or sheet [])
lines_go None = refl
lines_go (Some lines) = refl

still_posted : (sheet : Option (List (List ℕ))) → is_some (gone sheet) ≡ is_some sheet
still_posted None = refl
still_posted (Some lines) = refl

-- what the file says, with the lines after the players migrated
abbrev pub with_body : Result Content FileFault → Result Content FileFault
with_body (Ok content) = Ok (record { players = content.players; body = map line_in_two content.body })
with_body (Err fault) = Err fault

body_goes : (lines : List (List ℕ)) (named : Option (List (List ℕ)))
    → body_content (map line_in_two lines) named ≡ with_body (body_content lines named)
body_goes lines None = refl
body_goes lines (Some players) =
    rw (good_alike players lines)
    (elim (nat_lt sheets_most (good_lines players lines)) as
    (λ b. cond b (Err TooManySheets) (Ok (record { players = players; body = map line_in_two lines }))
    ≡ with_body (cond b (Err TooManySheets) (Ok (record { players = players; body = lines })))) [
      | true ↦ refl
      | false ↦ refl
    ])

players_go : (lines : List (List ℕ)) → players_content (map line_in_two lines) ≡ with_body (players_content lines)
players_go [] = refl
players_go (line ∷ lines) = rw (read_alike line) (body_goes lines (players_named (reading_of line)))

header_is_named : header_version (reading_of header_of_two) ≡ Some Two
header_is_named = refl

content_of_lines : (lines : List (List ℕ)) → named_version lines ≡ Some One
    → lines_content (headed lines) ≡ with_body (lines_content lines)
content_of_lines [] e = absurd (let wrong : ◌≡◌ {A = Option Version} None (Some One) = e in cc)
content_of_lines (line ∷ lines) e = rw e (players_go lines)

pub named_in_two : (lines : List (List ℕ)) → named_version lines ≡ Some One → named_version (headed lines) ≡ Some Two
named_in_two [] e = absurd (let wrong : ◌≡◌ {A = Option Version} None (Some One) = e in cc)
named_in_two (line ∷ lines) e = header_is_named

module _ (file : List ℕ) (named : named_version (written_lines file) ≡ Some One) (short : length file ≤ file_most) where
  pub content_goes : content_of (file_in_two file) ≡ with_body (content_of file)
  content_goes =
      let fits : length (file_in_two file) ≤ file_most = let less = file_fits file named in omega arith in
      short_enough (file_in_two file) fits ∙ ap lines_content (written_lines_go file)
      ∙ content_of_lines (written_lines file) named
      ∙ ap with_body (sym (short_enough file short))

players_stay : (content : Result Content FileFault) → players_in (with_body content) ≡ players_in content
players_stay (Ok content) = refl
players_stay (Err fault) = refl

bodies_go : (content : Result Content FileFault) → body_in (with_body content) ≡ map line_in_two (body_in content)
bodies_go (Ok content) = refl
bodies_go (Err fault) = refl

version_by_name : (lines : List (List ℕ)) (version : Version) → named_version lines ≡ Some version
    → version_in lines ≡ version
version_by_name [] version e = absurd (let wrong : ◌≡◌ {A = Option Version} None (Some version) = e in cc)
version_by_name (line ∷ lines) version e = rw e refl

pub version_named : (file : List ℕ) (version : Version) → named_version (written_lines file) ≡ Some version
    → version_of file ≡ version
unfolding version_of
version_named file version e = version_by_name (written_lines file) version e

pub goes_to_two : (file : List ℕ) → named_version (written_lines file) ≡ Some One
    → named_version (written_lines (file_in_two file)) ≡ Some Two
goes_to_two file e = ap named_version (written_lines_go file) ∙ named_in_two (written_lines file) e

module _ (file : List ℕ) (named : named_version (written_lines file) ≡ Some One) (short : length file ≤ file_most) where
  pub players_alike : players_of (file_in_two file) ≡ players_of file
  unfolding players_of
  players_alike = ap players_in (content_goes file named short) ∙ players_stay (content_of file)

  body_goes_over : body_of (file_in_two file) ≡ map line_in_two (body_of file)
  unfolding body_of
  body_goes_over = ap body_in (content_goes file named short) ∙ bodies_go (content_of file)

  sheet_goes_over : (seat : ℕ) (round : Round) → sheet_of (file_in_two file) seat round
      ≡ gone (sheet_of file seat round)
  unfolding sheet_of
  sheet_goes_over seat round =
      rw (players_alike, body_goes_over) (sheet_goes (players_of file) (body_of file) (sheet_key_at seat round))

  pub posted_alike : (seat : ℕ) (round : Round) → is_some (sheet_of (file_in_two file) seat round)
      ≡ is_some (sheet_of file seat round)
  posted_alike seat round = ap is_some (sheet_goes_over seat round) ∙ still_posted (sheet_of file seat round)

  pub all_unread_alike : unread_of (file_in_two file) ≡ unread_of file
  unfolding unread_of
  all_unread_alike =
      rw (
        players_alike,
        body_goes_over,
        version_named (file_in_two file) Two (goes_to_two file named),
        version_named
            file One named,
      )
      (unread_go (players_of file) false (body_of file))

  pub parts_alike : SameParts (file_in_two file) file
  parts_alike round seat =
      rw (
        version_named (file_in_two file) Two (goes_to_two file named),
        version_named file One named,
        sheet_goes_over
            seat round,
        lines_go (sheet_of file seat round),
      )
      (parts_go (opens_part round) 0 (unwrap_or (sheet_of file seat round) []))
