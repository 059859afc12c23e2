-- Example for the chapter `version-2`: a file of version 1 with an IF line.
-- The header becomes that of version 2, with what stands behind it on its line. The IF line, which
-- is no line of version 1, becomes X. All else stays.
use Rattle.std.proofs.Common.{◌≡◌, refl, codes}
use Rattle.sheets.specs.Text.{is_blank, written_lines}
use Rattle.umpire.specs.Migrated.{ended_lines, file_in_two, is_if_line, line_in_two, migrated}

pub goes_over :
    migrated (codes "game 01830 1 # ours\nPLAYERS ANN BOB CYD\nSHEET ANN PR1\nIF PHASE 2 BUY SV\nTURN\n")
    ≡ codes "GAME 1830 2\nPLAYERS ANN BOB CYD\nSHEET ANN PR1\nX\nTURN\n"
unfolding migrated written_lines is_blank file_in_two line_in_two is_if_line ended_lines
goes_over = refl

-- a file of version 2 stays as it is
pub stays : migrated (codes "GAME 1830 2\nPLAYERS ANN BOB CYD\n") ≡ codes "GAME 1830 2\nPLAYERS ANN BOB CYD\n"
unfolding migrated written_lines is_blank file_in_two line_in_two is_if_line ended_lines
stays = refl
