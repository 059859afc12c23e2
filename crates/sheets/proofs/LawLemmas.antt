-- The sheet of a seat for a round is the last of those that the seat sent.
use Rattle.std.proofs.Common.{◌≡◌, ℕ, List, [], ◌∷◌, ◌++◌, true, false, cond, eqb, Option, Some, None, refl, sym, ◌∙◌}
use Rattle.std.proofs.Common.{ap}
use Rattle.std.specs.Prelude.{◌&&◌, unwrap_or}
use Rattle.std.specs.Option.{option_or}
use Rattle.sheets.specs.File.{Sent, begins, sheet_lines, lines_begun, sheet_in, sent_by, sent_in, last_for}
use Rattle.sheets.specs.File.{sheet_key_at}
use Rattle.sheets.specs.File.{sheet_of, posts_of, players_of, body_of, version_of}
use Rattle.sheets.specs.Part.{parts_of_sheet}
use Rattle.sheets.specs.Laws.{LastSheetCounts, ArrivalChangesNoParts, ArrivalChangesNothing}
use Rattle.order_grammar.specs.declared.condition.Version.{Version}
use Rattle.sheets.specs.declared.sheet_key.SheetKey.{SheetKey}
use Rattle.tables.specs.Round.{same_round}
use Rattle.tables.specs.declared.round.Round.{Round}
use Rattle.sheets.proofs.BodyLemmas.{option_or-none}

-- what a line begins, before what later lines begin
begun_first : (seat : ℕ) (round : Round) (lines : List (List ℕ)) (begun : Option SheetKey) (later : List Sent) →
    option_or (last_for round later) (lines_begun (sheet_key_at seat round) lines begun)
    ≡ last_for round (sent_by seat lines begun ++ later)
begun_first seat round lines None later = option_or-none (last_for round later)
begun_first seat round lines (Some sheet_key) later =
    elim (eqb sheet_key.seat.0 seat) as (λ t. option_or (last_for round later)
    (cond (t && same_round sheet_key.round round) (Some lines) None)
    ≡ last_for round (cond t (record { round = sheet_key.round; lines = lines } ∷ []) [] ++ later)) [
      | true ↦ refl
      | false ↦ option_or-none (last_for round later)
    ]

-- the last sheet of some lines
last_in : (players lines : List (List ℕ)) (seat : ℕ) (round : Round)
    → sheet_in players lines (sheet_key_at seat round) ≡ last_for round (sent_in players lines seat)
last_in players [] seat round = refl
last_in players (line ∷ lines) seat round =
    ap (λ o. option_or o (lines_begun (sheet_key_at seat round) (sheet_lines lines) (begins players line)))
    (last_in players lines seat round)
    ∙ begun_first seat round (sheet_lines lines) (begins players line) (sent_in players lines seat)

-- the law of the last sheet
pub last_sheet_counts_law : LastSheetCounts
unfolding sheet_of posts_of
last_sheet_counts_law file seat round = last_in (players_of file) (body_of file) seat round

-- the law of arrival
pub arrival_law : ArrivalChangesNothing
arrival_law f g same seat round =
    last_sheet_counts_law f seat round ∙ ap (last_for round) (same seat) ∙ sym (last_sheet_counts_law g seat round)

-- and that of the parts that are read of the sheets
pub no_parts_law : ArrivalChangesNoParts
no_parts_law f g same version round seat =
    ap (λ (v : Version). parts_of_sheet v round (unwrap_or (sheet_of f seat round) [])) version
    ∙ ap (λ (sheet : Option (List (List ℕ))). parts_of_sheet (version_of g) round (unwrap_or sheet []))
    (arrival_law f g same seat round)
