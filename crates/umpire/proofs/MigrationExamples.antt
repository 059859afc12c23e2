-- Two files that migrate to version 2, or do not.
use Rattle.std.proofs.Common.{◌≡◌, ℕ, List, [], ◌∷◌, ◌++◌, Err, codes, refl}
use Rattle.std.specs.List.{flat_map}
use Rattle.report.specs.Report.{refusal_line}
use Rattle.sheets.specs.File.{content_of}
use Rattle.sheets.specs.Text.{is_blank, written_lines}
use Rattle.sheets.specs.declared.fault.FileFault.TheVariants.{Players}
use Rattle.umpire.specs.Migrated.{ended_lines, file_in_two, is_if_line, line_in_two, migrated}

text_of : List (List ℕ) → List ℕ
text_of lines = flat_map (λ line. line ++ 10 ∷ []) lines

-- a first round with an IF line before a purchase
round_goes_over :
    migrated
    (text_of
    (codes "GAME 1830 1" ∷ codes "PLAYERS ANN BOB CYD" ∷ codes "SHEET ANN PR1" ∷ codes "TURN"
    ∷ codes "IF PHASE 2 BUY SV" ∷ codes "BUY SV" ∷ codes "SHEET BOB PR1" ∷ codes "SHEET CYD PR1" ∷ []))
    ≡ text_of
    (codes "GAME 1830 2" ∷ codes "PLAYERS ANN BOB CYD" ∷ codes "SHEET ANN PR1" ∷ codes "TURN"
    ∷ codes "X" ∷ codes "BUY SV" ∷ codes "SHEET BOB PR1" ∷ codes "SHEET CYD PR1" ∷ [])
unfolding text_of migrated file_in_two ended_lines line_in_two is_if_line is_blank written_lines
round_goes_over = refl

-- a header alone
header_is_refused : content_of (text_of (codes "GAME 1830 1" ∷ [])) ≡ Err Players
unfolding text_of content_of is_blank written_lines
header_is_refused = refl

header_is_answered : refusal_line Players ≡ text_of (codes "FILE REFUSED F2" ∷ [])
unfolding text_of
header_is_answered = refl
