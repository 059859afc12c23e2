-- Larger limits keep what a file says.
use Rattle.sheets.specs.File.{header_version}
use Rattle.std.specs.Prelude.{is_some}
use Rattle.std.proofs.Common.{◌≡◌, ℕ, ◌≤◌, List, [], ◌∷◌, Bool, true, false, cond, Option, Some, None, Err, length, refl}
use Rattle.std.proofs.Common.{arith}
use Rattle.std.proofs.lemmas.Bool.{le-ltb, ltb-false}
use Rattle.std.specs.Prelude.{nat_lt}
use Rattle.order_grammar.specs.Line.{reading_of}
use Rattle.sheets.specs.Before.{LargerLimitsChangeNothing, body_before, content_before, file_before, lines_before}
use Rattle.sheets.specs.Before.{players_before, sheets_before}
use Rattle.sheets.specs.File.{body_content, content_of, good_lines, lines_content, players_content}
use Rattle.sheets.specs.File.{players_named}
use Rattle.sheets.specs.Limits.{file_most, sheets_most}
use Rattle.sheets.specs.Text.{written_lines}
use Rattle.sheets.specs.declared.fault.FileFault.TheVariants.{Header, TooLong, TooManySheets}

same_body_by : (players body : List (List ℕ)) (over : Bool) → nat_lt sheets_before (good_lines players body) ≡ over
    → (body_before body (Some players) ≡ Err TooManySheets → ⊥)
    → body_content body (Some players) ≡ body_before body (Some players)
same_body_by players body true is few = absurd (few (rw is refl))
same_body_by players body false is few =
    let within : good_lines players body ≤ sheets_before = ltb-false sheets_before (good_lines players body) is in
    let now : nat_lt sheets_most (good_lines players body) ≡ false =
    le-ltb sheets_most (good_lines players body) (omega (arith, within)) in
    rw (is, now) refl

same_body : (body : List (List ℕ)) (named : Option (List (List ℕ))) → (body_before body named ≡ Err TooManySheets → ⊥)
    → body_content body named ≡ body_before body named
same_body body None few = refl
same_body body (Some players) few =
    same_body_by players body (nat_lt sheets_before (good_lines players body)) refl few

same_players : (lines : List (List ℕ)) → (players_before lines ≡ Err TooManySheets → ⊥)
    → players_content lines ≡ players_before lines
same_players [] few = refl
same_players (line ∷ lines) few = same_body lines (players_named (reading_of line)) few

same_lines_by : (lines : List (List ℕ)) (header : Bool)
    → (cond header (players_before lines) (Err Header) ≡ Err TooManySheets → ⊥)
    → cond header (players_content lines) (Err Header) ≡ cond header (players_before lines) (Err Header)
same_lines_by lines true few = same_players lines few
same_lines_by lines false few = refl

same_lines : (lines : List (List ℕ)) → (lines_before lines ≡ Err TooManySheets → ⊥)
    → lines_content lines ≡ lines_before lines
same_lines [] few = refl
same_lines (line ∷ lines) few = same_lines_by lines (is_some (header_version (reading_of line))) few

same_file_by : (file : List ℕ) (over : Bool) → nat_lt file_before (length file) ≡ over
    → (content_before file ≡ Err TooLong → ⊥) → (content_before file ≡ Err TooManySheets → ⊥)
    → content_of file ≡ content_before file
unfolding content_before content_of
same_file_by file true is short few = absurd (short (rw is refl))
same_file_by file false is short few =
    let within : length file ≤ file_before = ltb-false file_before (length file) is in
    let now : nat_lt file_most (length file) ≡ false = le-ltb file_most (length file) (omega (arith, within)) in
    rw (is, now) (same_lines (written_lines file) (λ many. few (rw is many)))

pub larger_limits : LargerLimitsChangeNothing
larger_limits file short few = same_file_by file (nat_lt file_before (length file)) refl short few
