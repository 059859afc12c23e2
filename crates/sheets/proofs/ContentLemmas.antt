-- What a file is kept as, and why it is refused.
use Rattle.std.proofs.Common.{◌≡◌, ℕ, ◌<◌, ◌≤◌, List, true, false, Option, Some, Result, Ok, Err, length, refl, ap, ◌∙◌}
use Rattle.std.proofs.lemmas.Bool.{lt-ltb, le-ltb}
use Rattle.std.specs.Option.{option_map}
use Rattle.std.specs.Prelude.{nat_lt}
use Rattle.order_grammar.specs.declared.condition.Version.{Version}
use Rattle.order_grammar.specs.declared.fault.Fault.{Fault}
use Rattle.sheets.specs.Collecting.{StopsBy, IsCollected}
use Rattle.sheets.specs.File.{Content, Fails, content_of, lines_content, body_content, players_of, body_of, sheet_of}
use Rattle.sheets.specs.File.{unread_of, version_of, version_in, sheet_in, unread_in, good_lines}
use Rattle.sheets.specs.Limits.{file_most, sheets_most}
use Rattle.sheets.specs.Sheet.{Unruled, sent_in_version}
use Rattle.sheets.specs.Text.{written_lines}
use Rattle.sheets.specs.declared.fault.FileFault.{FileFault}
use Rattle.sheets.specs.declared.fault.FileFault.TheVariants.{Header, Players, TooLong, TooManySheets, Memory}
use Rattle.sheets.specs.declared.sheet_key.SheetKey.{SheetKey}

-- a file with too many bytes
pub too_long : (file : List ℕ) → file_most < length file → content_of file ≡ Err TooLong
unfolding content_of
too_long file h = let t : nat_lt file_most (length file) ≡ true = lt-ltb file_most (length file) h in rw t refl

-- another file
pub short_enough : (file : List ℕ) → length file ≤ file_most → content_of file ≡ lines_content (written_lines file)
unfolding content_of
short_enough file h = let t : nat_lt file_most (length file) ≡ false = le-ltb file_most (length file) h in rw t refl

-- a body with too many good SHEET lines
many : (players body : List (List ℕ)) → sheets_most < good_lines players body
    → body_content body (Some players) ≡ Err TooManySheets
many players body h = let t : nat_lt sheets_most (good_lines players body) ≡ true =
    lt-ltb sheets_most (good_lines players body) h in rw t refl

-- another body
pub few_enough : (players body : List (List ℕ)) → good_lines players body ≤ sheets_most →
    body_content body (Some players) ≡ Ok (record { players = players; body = body })
few_enough players body h = let t : nat_lt sheets_most (good_lines players body) ≡ false =
    le-ltb sheets_most (good_lines players body) h in rw t refl

-- a fault of the file
pub fails : (fault : FileFault) (content : Result Content FileFault) → content ≡ Err fault → Fails fault content
fails Memory content e = tt
fails Header content e = e
fails Players content e = e
fails TooLong content e = e
fails TooManySheets content e = e

-- a fault of the body
pub fails_by : (players body : List (List ℕ)) (fault : FileFault) (content : Result Content FileFault)
    → content ≡ body_content body (Some players) →
    StopsBy (good_lines players body) fault → Fails fault content
fails_by players body Memory content e h = tt
fails_by players body Header content e h = absurd h
fails_by players body Players content e h = absurd h
fails_by players body TooLong content e h = absurd h
fails_by players body TooManySheets content e h = e ∙ many players body h

-- what is kept of a file is what it says
pub collected : (file : List ℕ) (version : Version) (players body : List (List ℕ))
    (sheets : SheetKey → Option Unruled) (unread : List Fault) →
    version ≡ version_in (written_lines file) → content_of file ≡ Ok (record { players = players; body = body })
    → 3 ≤ length players → length players ≤ 6 →
    ((sheet_key : SheetKey) → sheets sheet_key
    ≡ option_map (sent_in_version version) (sheet_in players body sheet_key))
    → unread ≡ unread_in version players false body → IsCollected file version players sheets unread
unfolding version_of players_of body_of sheet_of unread_of
collected file version players body sheets unread named e least most same codes = record {
  accepted = rw e refl;
  version_is = named;
  players_are = rw e refl;
  least = least;
  most = most;
  sheets_are = λ sheet_key. rw e (same sheet_key
      ∙ ap (λ (v : Version). option_map (sent_in_version v) (sheet_in players body sheet_key)) named);
  unread_are = rw e (codes ∙ ap (λ (v : Version). unread_in v players false body) named);
}
