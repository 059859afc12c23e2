-- Example for the chapter `report`: the report of a file, byte for byte.
-- The file is that of the chapter on opening rounds: ANN buys SV, the others pass, and PR2 is
-- awaited.
use Rattle.std.proofs.Common.{refl, ℕ, List, codes}
use Rattle.std.specs.Fmt.{digits}
use Rattle.market.specs.OperatingOrder.{operating_order_of}
use Rattle.report.specs.Column.{left_aligned, right_aligned}
use Rattle.report.specs.Report.{IsReport, header, owing}
use Rattle.report.specs.Statement.{bank_line, cash_column, codes_owned, company_figures, company_line, company_lines}
use Rattle.report.specs.Statement.{counted_column, holdings, player_line, player_lines, shares_column, trains_text}
use Rattle.rounds.proofs.Example.{first_plays}
use Rattle.rounds.specs.Example.{first_end, first_file}
use Rattle.sheets.specs.File.{begins, body_of, content_of, is_sheet_line, players_of, sheet_of, unread_of, version_of}
use Rattle.sheets.specs.Text.{is_blank, written_lines}

-- the text
abbrev pub text : List ℕ
text =
    codes "GAME 1830 1\nPLAYERS ANN BOB CYD\nROUND PR1\nANN 2 OBEYED BUY SV\nSOLD SV ANN 20\nBOB PASSES\nCYD PASSES\nANN PASSES\nREVENUE SV ANN 5\nPLAYER ANN        785  1  0  0  0  0  0  0  0  0 SV\nPLAYER BOB        800  0  0  0  0  0  0  0  0  0\nPLAYER CYD        800  0  0  0  0  0  0  0  0  0\nBANK   9615\nAWAITING PR2 ANN BOB CYD\n"

-- it is the report of the file
pub is_its_report : IsReport first_file text
unfolding digits content_of players_of body_of version_of written_lines is_blank begins is_sheet_line sheet_of
    unread_of header owing operating_order_of left_aligned right_aligned bank_line cash_column codes_owned company_figures
    company_line company_lines counted_column holdings player_line player_lines shares_column trains_text
is_its_report = record { last = first_end; game = first_plays; is = refl }

-- an empty file is refused by the line FILE REFUSED F1
pub empty_is_refused : IsReport (codes "") (codes "FILE REFUSED F1\n")
unfolding content_of written_lines
empty_is_refused = refl
