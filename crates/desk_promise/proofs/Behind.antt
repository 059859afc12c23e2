-- What a file reads as with more lines at its end.
use Rattle.std.proofs.Common.{◌≡◌, ℕ, Bool, true, false, cond, eqb, List, [], ◌∷◌, ◌++◌, Option, Some, None, Result, Ok, Err}
use Rattle.std.proofs.Common.{IsOk, append_assoc, refl, sym, ap, subst, ◌∙◌, rules}
use Rattle.std.specs.Option.{option_or}
use Rattle.std.specs.Prelude.{is_some, nat_lt, not}
use Rattle.std.proofs.lemmas.List.Elements.{filter-append}
use Rattle.std.proofs.lemmas.List.Sums.{take_while-cons}
use Rattle.desk_promise.specs.LineFile.{IsEnded}
use Rattle.order_grammar.specs.Line.{reading_of}
use Rattle.sheets.proofs.AcceptedLemmas.{accepted_short}
use Rattle.sheets.proofs.BodyLemmas.{begins_none, option_or-none}
use Rattle.sheets.proofs.ContentLemmas.{short_enough}
use Rattle.sheets.specs.Collecting.{HasNoSheetLine}
use Rattle.sheets.specs.File.{Content, IsAccepted, begins, body_content, body_in, body_of, content_of, good_lines}
use Rattle.sheets.specs.File.{header_version, is_sheet_line, lines_begun, lines_content, players_content, players_in}
use Rattle.sheets.specs.File.{players_named, players_of, sheet_in, sheet_lines, version_in, version_of}
use Rattle.sheets.specs.Limits.{sheets_most}
use Rattle.sheets.specs.Text.{is_blank, lines_from, lines_of, without_return, written, written_lines}
use Rattle.sheets.specs.declared.fault.FileFault.{FileFault}
use Rattle.sheets.specs.declared.fault.FileFault.TheVariants.{Header, Players, TooManySheets}
use Rattle.sheets.specs.declared.sheet_key.SheetKey.{SheetKey}

-- what follows an LF is read apart from what is before it
apart : (line prefix more : List ℕ) → lines_from line (prefix ++ 10 ∷ more)
    ≡ lines_from line (prefix ++ 10 ∷ []) ++ lines_from [] more
apart line [] more = refl
apart line (byte ∷ prefix) more =
    elim (eqb byte 10) as (λ b. cond b (without_return line ∷ lines_from [] (prefix ++ 10 ∷ more))
    (lines_from (line ++ byte ∷ []) (prefix ++ 10 ∷ more))
    ≡ cond b (without_return line ∷ lines_from [] (prefix ++ 10 ∷ []))
    (lines_from (line ++ byte ∷ []) (prefix ++ 10 ∷ [])) ++ lines_from [] more) [
      | true ↦ ap (λ (lines : List (List ℕ)). without_return line ∷ lines) (apart [] prefix more)
      | false ↦ apart (line ++ byte ∷ []) prefix more
    ]

-- so more text brings its own lines, if the last line before it is ended
pub lines_behind : (file more : List ℕ) → IsEnded file
    → written_lines (file ++ more) ≡ written_lines file ++ written (lines_of more)
unfolding written_lines
lines_behind file more ended =
    subst (λ (text : List ℕ). written (lines_of (text ++ more)) ≡ written (lines_of text) ++ written (lines_of more))
    (sym ended.1)
    (ap (λ (text : List ℕ). written (lines_of text)) (append_assoc ended.0 (10 ∷ []) more)
    ∙ ap written (apart [] ended.0 more)
    ∙ filter-append (λ (line : List ℕ). not (is_blank line)) (lines_from [] (ended.0 ++ 10 ∷ [])) (lines_from [] more))

-- what lines say, and with these more of them
record GoesOn (old new : Result Content FileFault) (more : List (List ℕ)) : Type 0 where
  players : players_in new ≡ players_in old
  body : body_in new ≡ body_in old ++ more
  line : List ℕ
  named : players_named (reading_of line) ≡ Some (players_in old)

-- if neither is refused
abbrev GoOn : Result Content FileFault → Result Content FileFault → List (List ℕ) → Type 0
GoOn old new more = IsOk old → IsOk new → GoesOn old new more

-- nothing is said of what is refused
of_refused : (fault : FileFault) (new : Result Content FileFault) (more : List (List ℕ)) → GoOn (Err fault) new more
of_refused fault new more ok also = absurd (search rules)

-- of a body with few sheets
few : (many also : Bool) (players body more : List (List ℕ)) (line : List ℕ)
    → players_named (reading_of line) ≡ Some players
    → GoOn (cond many (Err TooManySheets) (Ok (record { players = players; body = body })))
    (cond also (Err TooManySheets) (Ok (record { players = players; body = body ++ more }))) more
few true also players body more line named = of_refused TooManySheets _ more
few false true players body more line named = λ ok wrong. absurd (search rules)
few false false players body more line named =
    λ ok new. record { players = refl; body = refl; line = line; named = named }

of_body : (body more : List (List ℕ)) (line : List ℕ) (found : Option (List (List ℕ)))
    → players_named (reading_of line) ≡ found → GoOn (body_content body found) (body_content (body ++ more) found) more
of_body body more line None named = of_refused Players _ more
of_body body more line (Some players) named =
    few (nat_lt sheets_most (good_lines players body)) (nat_lt sheets_most (good_lines players (body ++ more)))
    players body more line named

of_players : (lines more : List (List ℕ)) → GoOn (players_content lines) (players_content (lines ++ more)) more
of_players [] more = of_refused Players _ more
of_players (line ∷ lines) more = of_body lines more line (players_named (reading_of line)) refl

of_header : (good : Bool) (lines more : List (List ℕ))
    → GoOn (cond good (players_content lines) (Err Header)) (cond good (players_content (lines ++ more)) (Err Header)) more
of_header true lines more = of_players lines more
of_header false lines more = of_refused Header _ more

of_lines : (lines more : List (List ℕ)) → GoOn (lines_content lines) (lines_content (lines ++ more)) more
of_lines [] more = of_refused Header _ more
of_lines (line ∷ lines) more = of_header (is_some (header_version (reading_of line))) lines more

-- the version is that of the first line, if there is one
same_version : (lines more : List (List ℕ)) → IsOk (lines_content lines) → version_in (lines ++ more) ≡ version_in lines
same_version [] more ok = absurd (search rules)
same_version (line ∷ lines) more ok = refl

-- a file that is not refused, with these more lines
pub record ReadsOn (file new : List ℕ) (more : List (List ℕ)) : Type 0 where
  pub players : players_of new ≡ players_of file
  pub body : body_of new ≡ body_of file ++ more
  pub version : version_of new ≡ version_of file
  pub line : List ℕ
  pub named : players_named (reading_of line) ≡ Some (players_of file)

pub reads_on : (file new : List ℕ) (more : List (List ℕ)) → IsAccepted file → IsAccepted new
    → written_lines new ≡ written_lines file ++ more → ReadsOn file new more
unfolding players_of body_of version_of
reads_on file new more accepted also lines =
    let old : content_of file ≡ lines_content (written_lines file) =
    short_enough file (accepted_short file accepted) in
    let then : content_of new ≡ lines_content (written_lines file ++ more) =
    short_enough new (accepted_short new also) ∙ ap lines_content lines in
    let first : IsOk (lines_content (written_lines file)) = subst IsOk old accepted in
    let both = of_lines (written_lines file) more first (subst IsOk then also) in
    record {
      players = ap players_in then ∙ both.players ∙ ap players_in (sym old);
      body = ap body_in then ∙ both.body ∙ ap (λ (said : Result Content FileFault). body_in said ++ more) (sym old);
      version = ap version_in lines ∙ same_version (written_lines file) more first;
      line = both.line;
      named = both.named ∙ ap (λ (said : Result Content FileFault). Some (players_in said)) (sym old);
    }

-- a SHEET line comes first
abbrev pub BeginsSheet : List (List ℕ) → Type 0
BeginsSheet [] = ⊥
BeginsSheet (line ∷ lines) = is_sheet_line line ≡ true

-- a sheet goes on with a line
abbrev pub is_inside : List ℕ → Bool
is_inside line = not (is_sheet_line line)

-- the lines of a sheet go on up to it
sheet_ends : (lines more : List (List ℕ)) → BeginsSheet more → sheet_lines (lines ++ more) ≡ sheet_lines lines
sheet_ends [] [] begins = absurd begins
sheet_ends [] (line ∷ more) begins = take_while-cons is_inside line more ∙ ap (λ (b : Bool). cond (not b) (line ∷ sheet_lines more) []) begins
sheet_ends (line ∷ lines) more begins =
    take_while-cons is_inside line (lines ++ more)
    ∙ ap (λ (rest : List (List ℕ)). cond (not (is_sheet_line line)) (line ∷ rest) []) (sheet_ends lines more begins)
    ∙ sym (take_while-cons is_inside line lines)

-- a sheet is the last among the new lines, or where it is in none of them the last among the old ones
pub sheet_behind : (players lines more : List (List ℕ)) (sheet_key : SheetKey) → BeginsSheet more
    → sheet_in players (lines ++ more) sheet_key ≡ option_or (sheet_in players more sheet_key) (sheet_in players lines sheet_key)
sheet_behind players [] more sheet_key begins = sym (option_or-none (sheet_in players more sheet_key))
sheet_behind players (line ∷ lines) more sheet_key first =
    ap (λ (rest : List (List ℕ)). option_or (sheet_in players (lines ++ more) sheet_key) (lines_begun sheet_key rest (begins players line)))
    (sheet_ends lines more first)
    ∙ ap (λ (later : Option (List (List ℕ))). option_or later (lines_begun sheet_key (sheet_lines lines) (begins players line)))
    (sheet_behind players lines more sheet_key first)
    ∙ elim (sheet_in players more sheet_key) as (λ (last : Option (List (List ℕ))).
    option_or (option_or last (sheet_in players lines sheet_key)) (lines_begun sheet_key (sheet_lines lines) (begins players line))
    ≡ option_or last (sheet_in players (line ∷ lines) sheet_key)) [
      | None ↦ refl
      | Some its ↦ refl
    ]

-- lines that begin no sheet are of the sheet before them
pub own_lines : (lines more : List (List ℕ)) → HasNoSheetLine lines → sheet_lines more ≡ [] → sheet_lines (lines ++ more) ≡ lines
own_lines [] more none ends = ends
own_lines (line ∷ lines) more none ends =
    take_while-cons is_inside line (lines ++ more)
    ∙ ap (λ (b : Bool). cond (not b) (line ∷ sheet_lines (lines ++ more)) []) none.0
    ∙ ap (λ (rest : List (List ℕ)). line ∷ rest) (own_lines lines more none.1 ends)

-- and bring none
pub none_begun : (players lines more : List (List ℕ)) (sheet_key : SheetKey) → HasNoSheetLine lines
    → sheet_in players (lines ++ more) sheet_key ≡ sheet_in players more sheet_key
none_begun players [] more sheet_key none = refl
none_begun players (line ∷ lines) more sheet_key none =
    ap (λ (begun : Option SheetKey). option_or (sheet_in players (lines ++ more) sheet_key)
    (lines_begun sheet_key (sheet_lines (lines ++ more)) begun)) (begins_none players line none.0)
    ∙ option_or-none (sheet_in players (lines ++ more) sheet_key)
    ∙ none_begun players lines more sheet_key none.1
