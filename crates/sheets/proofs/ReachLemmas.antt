-- How far the lines after the players line have come, after each of them.
use Rattle.std.proofs.Common.{◌≡◌, ℕ, ◌-◌, List, [], ◌∷◌, ◌++◌, true, false, cond, Option, Some, None, length, take}
use Rattle.std.proofs.Common.{refl, sym, ◌∙◌, ap, arith, subst}
use Rattle.std.proofs.Math.Seq.{take-length}
use Rattle.std.specs.Prelude.{is_some, not}
use Rattle.order_grammar.specs.Line.{reading_of}
use Rattle.order_grammar.specs.declared.condition.Version.{Version}
use Rattle.order_grammar.specs.declared.fault.Fault.{Fault}
use Rattle.sheets.specs.Collecting.{HasBegun, Open, IsOpen, CollectedSoFar, HasNoSheetLine, IsInSheet, Reaches, closed, StopsAt}
use Rattle.sheets.specs.Collecting.{StopsBy}
use Rattle.sheets.specs.File.{is_sheet_line, begins, sheet_key_begun, unread_fault, same_sheet_key, sheet_in}
use Rattle.sheets.specs.File.{good_lines}
use Rattle.sheets.specs.Text.{BeginsWith, is_blank, written, written_lines}
use Rattle.sheets.specs.declared.open_sheet.OpenSheet.{OpenSheet}
use Rattle.sheets.specs.declared.fault.FileFault.{FileFault}
use Rattle.sheets.specs.declared.sheet_key.SheetKey.{SheetKey}
use Rattle.sheets.proofs.TextLemmas.{begins_with_nothing, one_after_another, prefix_by_rest, lines_of_both}
use Rattle.sheets.proofs.BodyLemmas.{option_or-cond, collected_same, collected_inside, collected_stray}
use Rattle.sheets.proofs.BodyLemmas.{collected_closed, collected_skipped}
use Rattle.sheets.proofs.BodyLemmas.{collected_begun, collected_bad, too_many}

module _ (version : Version) (players body : List (List ℕ)) (sheets : SheetKey → Option (List (List ℕ)))
    (unread : List Fault) (good : ℕ) where
  -- a SHEET line comes, and the sheet before it is kept
  pub kept_before : (line : List ℕ) (lines : List (List ℕ)) (text : List ℕ) (sheet : Option OpenSheet)
      (current : Option Open) → is_sheet_line line ≡ true → IsOpen sheet current text
      → CollectedSoFar version players body (line ∷ lines) current sheets unread good
      → CollectedSoFar version players body (line ∷ lines) None (closed sheet text sheets) unread good
  kept_before line lines text None None is h s = s
  kept_before line lines text None (Some had) is h s = absurd h
  kept_before line lines text (Some sheet) None is h s = absurd h
  kept_before line lines text (Some sheet) (Some had) is h s =
      let prefix : List ℕ = h.1.0 in
      let same : written_lines (take (length sheet.text.now - length text) sheet.text.now) ≡ had.lines =
      ap written_lines (prefix_by_rest prefix had.lines text sheet.text.now h.1.1) ∙ h.1.1.first in
      collected_same version players body (λ q. cond (same_sheet_key had.sheet_key q) (Some had.lines) (sheets q))
      unread good (closed (Some sheet) text sheets) (line ∷ lines) None
      (λ q. ap (λ p. cond (same_sheet_key p q) (Some
      (written_lines (take (length sheet.text.now - length text) sheet.text.now))) (sheets q)) h.0
      ∙ ap (λ ls. cond (same_sheet_key had.sheet_key q) (Some ls) (sheets q)) same)
      (collected_closed version players body sheets unread good line lines had.sheet_key had.lines is s)

  -- a line inside a sheet
  pub reaches_inside : (prefix line : List ℕ) (rest text : List ℕ) (sheet : Option OpenSheet) (current : Option Open)
      → is_some sheet ≡ true → is_sheet_line line ≡ false → BeginsWith prefix (line ∷ []) rest text
      → IsOpen sheet current text → CollectedSoFar version players body (line ∷ written_lines rest) current sheets
      unread good → Reaches version players body rest sheet sheets unread good
  reaches_inside prefix line rest text None current some other first h s = absurd
      (let wrong : false ≡ true = some in cc)
  reaches_inside prefix line rest text (Some sheet) None some other first h s = absurd h
  reaches_inside prefix line rest text (Some sheet) (Some had) some other first h s = (
    Some (record { sheet_key = had.sheet_key; lines = had.lines ++ line ∷ [] }),
    (h.0, (h.1.0 ++ prefix, one_after_another h.1.0 prefix had.lines (line ∷ []) text rest sheet.text.now h.1.1 first)),
    collected_inside version players body sheets unread good line (written_lines rest) had.sheet_key had.lines other s,
  )

  -- lines inside a sheet, if they are what the rest of it begins with
  reaches_through : (rest text : List ℕ) (sheet : Option OpenSheet) (current : Option Open) (skipped : IsInSheet rest text)
      → is_some sheet ≡ true → IsOpen sheet current text
      → CollectedSoFar version players body (skipped.1 ++ written_lines rest) current sheets unread good
      → Reaches version players body rest sheet sheets unread good
  reaches_through rest text None current skipped some h s = absurd (let wrong : false ≡ true = some in cc)
  reaches_through rest text (Some sheet) None skipped some h s = absurd h
  reaches_through rest text (Some sheet) (Some had) skipped some h s = (
    Some (record { sheet_key = had.sheet_key; lines = had.lines ++ skipped.1 }),
    (
      h.0,
      (
        h.1.0 ++ skipped.0,
        one_after_another h.1.0 skipped.0 had.lines skipped.1 text rest sheet.text.now h.1.1
            skipped.2,
      ),
    ),
    collected_skipped version players body sheets unread good skipped.1 (written_lines rest) had.sheet_key had.lines
        skipped.3 s,
  )

  -- an open sheet goes on up to where a SHEET line may come
  pub reaches_skipped : (rest text : List ℕ) (sheet : Option OpenSheet) → is_some sheet ≡ true → IsInSheet rest text
      → Reaches version players body text sheet sheets unread good
      → Reaches version players body rest sheet sheets unread good
  reaches_skipped rest text sheet some skipped r =
      reaches_through rest text sheet r.0 skipped some r.1
      (subst (λ ls. CollectedSoFar version players body ls r.0 sheets unread good)
      (lines_of_both skipped.0 skipped.1 rest text skipped.2) r.2)

  -- a line outside
  pub reaches_stray : (line rest text : List ℕ) (sheet : Option OpenSheet) (current : Option Open)
      → is_some sheet ≡ false → is_sheet_line line ≡ false → IsOpen sheet current text
      → CollectedSoFar version players body (line ∷ written_lines rest) current sheets unread good
      → Reaches version players body rest sheet sheets (unread ++ unread_fault version line ∷ []) good
  reaches_stray line rest text None None none other h s =
      (None, tt, collected_stray version players body sheets unread good line (written_lines rest) other s)
  reaches_stray line rest text None (Some had) none other h s = absurd h
  reaches_stray line rest text (Some sheet) current none other h s = absurd (let wrong : true ≡ false = none in cc)

  -- a SHEET line where no sheet is open, by the sheet that it begins
  reaches_by : (line rest : List ℕ) (begun : Option SheetKey) (sheet : Option OpenSheet) (codes : List Fault)
      (count : ℕ) → is_sheet_line line ≡ true → begins players line ≡ begun
      → HasBegun rest (unread_fault version line) good unread begun sheet count codes
      → CollectedSoFar version players body (line ∷ written_lines rest) None sheets unread good
      → Reaches version players body rest sheet sheets codes count
  reaches_by line rest None sheet codes count is b h s =
      rw (h.0, h.1, h.2) (
        None,
        tt,
        collected_bad version players body sheets unread good line (written_lines rest) is b
            s,
      )
  reaches_by line rest (Some sheet_key) None codes count is b h s = absurd h.0
  reaches_by line rest (Some sheet_key) (Some sheet) codes count is b h s =
      rw (h.2, h.3) (
        Some (record { sheet_key = sheet_key; lines = [] }),
        (h.0.0, ([], subst (λ t. BeginsWith [] [] rest t) (sym h.0.1) (begins_with_nothing rest))),
        collected_begun
            version players body sheets unread good line (written_lines rest) sheet_key is b h.1 s,
      )

  -- after a SHEET line
  pub reaches_begun : (line rest : List ℕ) (sheet : Option OpenSheet) (codes : List Fault) (count : ℕ)
      → is_sheet_line line ≡ true → HasBegun rest (unread_fault version line) good unread
      (sheet_key_begun players (reading_of line)) sheet count codes
      → CollectedSoFar version players body (line ∷ written_lines rest) None sheets unread good
      → Reaches version players body rest sheet sheets codes count
  unfolding begins
  reaches_begun line rest sheet codes count is h s =
      reaches_by line rest (sheet_key_begun players (reading_of line)) sheet codes count is (rw is refl) h s

  -- why reading stops, by the sheet that the line begins
  stops_by : (line : List ℕ) (lines : List (List ℕ)) (begun : Option SheetKey) (fault : FileFault)
      → begins players line ≡ begun → StopsAt good begun fault
      → CollectedSoFar version players body (line ∷ lines) None sheets unread good
      → StopsBy (good_lines players body) fault
  stops_by line lines None fault b h s = rw h tt
  stops_by line lines (Some sheet_key) fault b h s =
      rw h.0 (too_many version players body sheets unread good line lines sheet_key b h.1 s)

  -- why reading stops at a SHEET line
  pub stops_begun : (line : List ℕ) (lines : List (List ℕ)) (fault : FileFault) → is_sheet_line line ≡ true
      → StopsAt good (sheet_key_begun players (reading_of line)) fault
      → CollectedSoFar version players body (line ∷ lines) None sheets unread good
      → StopsBy (good_lines players body) fault
  unfolding begins
  stops_begun line lines fault is h s = stops_by line lines (sheet_key_begun players (reading_of line)) fault
      (rw is refl) h s

-- a SHEET line comes, and the sheet before it has been kept
pub reaches_sheet_line : (version : Version) (players body : List (List ℕ))
    (sheets kept : SheetKey → Option (List (List ℕ))) (unread : List Fault) (good : ℕ) (line rest text : List ℕ)
    (sheet : Option OpenSheet) →
    is_sheet_line line ≡ true → written_lines text ≡ line ∷ written_lines rest
    → ((sheet_key : SheetKey) → kept sheet_key ≡ closed sheet text sheets sheet_key) →
    Reaches version players body text sheet sheets unread good
    → CollectedSoFar version players body (line ∷ written_lines rest) None kept unread good
reaches_sheet_line version players body sheets kept unread good line rest text sheet is lines same r =
    collected_same version players body (closed sheet text sheets) unread good kept (line ∷ written_lines rest) None
    same (kept_before version players body sheets unread good line (written_lines rest) text sheet r.0 is r.1
    (subst (λ ls. CollectedSoFar version players body ls r.0 sheets unread good) lines r.2))

-- what is kept at the end
module _ (version : Version) (players body : List (List ℕ)) (sheets : SheetKey → Option (List (List ℕ)))
    (unread : List Fault) (good : ℕ) where
  -- a sheet that is open goes to the end
  ended : (text : List ℕ) (sheet : Option OpenSheet) (current : Option Open) → IsOpen sheet current text
      → written_lines text ≡ [] → CollectedSoFar version players body [] current sheets unread good
      → (sheet_key : SheetKey) → closed sheet [] sheets sheet_key ≡ sheet_in players body sheet_key
  ended text None None h none s sheet_key = s.sheets_are sheet_key
  ended text None (Some had) h none s sheet_key = absurd h
  ended text (Some sheet) None h none s sheet_key = absurd h
  ended text (Some sheet) (Some had) h none s sheet_key =
      let whole : take (length sheet.text.now - 0) sheet.text.now ≡ sheet.text.now =
      let n : length sheet.text.now - 0 ≡ length sheet.text.now = omega arith in rw n (take-length sheet.text.now) in
      let lines : written_lines (take (length sheet.text.now - 0) sheet.text.now) ≡ had.lines ++ [] =
      ap written_lines whole ∙ lines_of_both h.1.0 had.lines text sheet.text.now h.1.1
      ∙ ap (λ ls. had.lines ++ ls) none in
      ap (λ p. cond (same_sheet_key p sheet_key) (Some
      (written_lines (take (length sheet.text.now - 0) sheet.text.now))) (sheets sheet_key)) h.0
      ∙ ap (λ ls. cond (same_sheet_key had.sheet_key sheet_key) (Some ls) (sheets sheet_key)) lines
      ∙ sym (option_or-cond (same_sheet_key had.sheet_key sheet_key) (had.lines ++ []) (sheets sheet_key))
      ∙ s.sheets_are sheet_key

  -- the sheets of the whole body
  pub sheets_at_end : (text : List ℕ) (sheet : Option OpenSheet) → written_lines text ≡ []
      → Reaches version players body text sheet sheets unread good → (sheet_key : SheetKey)
      → closed sheet [] sheets sheet_key ≡ sheet_in players body sheet_key
  sheets_at_end text sheet none r = ended text sheet r.0 r.1 none
      (subst (λ ls. CollectedSoFar version players body ls r.0 sheets unread good) none r.2)

-- lines that do not begin with SHEET, and then others
none_in_both : (lines more : List (List ℕ)) → HasNoSheetLine lines → HasNoSheetLine more
    → HasNoSheetLine (lines ++ more)
none_in_both [] more a b = b
none_in_both (line ∷ lines) more a b = (a.0, none_in_both lines more a.1 b)

-- a line that does not begin with SHEET, be it blank or not
none_in_written : (line : List ℕ) → is_sheet_line line ≡ false → HasNoSheetLine (written (line ∷ []))
none_in_written line other = elim (is_blank line) as (λ b. HasNoSheetLine (cond (not b) (line ∷ []) [])) [
  | true ↦ tt
  | false ↦ (other, tt)
]

-- an open sheet has not gone on yet
pub in_sheet_at_start : (text : List ℕ) → IsInSheet text text
in_sheet_at_start text = ([], [], begins_with_nothing text, tt)

-- an open sheet goes on with a line that does not begin with SHEET
pub in_sheet_further : (line middle rest text : List ℕ) → is_sheet_line line ≡ false → IsInSheet middle text
    → (prefix : List ℕ) × BeginsWith prefix (written (line ∷ [])) rest middle → IsInSheet rest text
in_sheet_further line middle rest text other a b = (
  a.0 ++ b.0,
  a.1 ++ written (line ∷ []),
  one_after_another a.0 b.0 a.1 (written (line ∷ [])) middle rest text a.2 b.1,
  none_in_both a.1 (written (line ∷ [])) a.3 (none_in_written line other),
)
