-- The sheets that are kept: each is its lines, with the version of the file.
use Rattle.std.proofs.Common.{◌≡◌, ℕ, List, [], Bool, true, false, cond, Option, Some, None, is_none, is_some, unwrap_or, refl, sym}
use Rattle.std.proofs.Common.{◌∙◌, ap, subst}
use denote.Bor.{Bor}
use Rattle.std.specs.Option.{option_copied, option_map}
use Rattle.order_grammar.specs.declared.condition.Version.{Version}
use Rattle.sheets.specs.Collecting.{AreOfVersion, IsOfVersion, lines_kept}
use Rattle.sheets.specs.File.{same_sheet_key}
use Rattle.sheets.specs.Part.{parts_left, parts_of_sheet}
use Rattle.sheets.specs.Sheet.{Unruled, sent_in_version}
use Rattle.sheets.specs.declared.sheet_key.SheetKey.{SheetKey}
use Rattle.tables.specs.declared.round.Round.{Round}

-- the lines of one sheet that is put beside others
lines_put : (here : Bool) (sheet : Unruled) (other : Option Unruled)
    → option_map (λ (s : Unruled). s.lines) (cond here (Some sheet) other)
    ≡ cond here (Some sheet.lines) (option_map (λ (s : Unruled). s.lines) other)
lines_put true sheet other = refl
lines_put false sheet other = refl

-- the lines that are kept once a sheet is put at its seat and round
pub lines_after : (sheets kept : SheetKey → Option Unruled) (key sheet_key : SheetKey) (sheet : Unruled)
    → kept sheet_key ≡ cond (same_sheet_key key sheet_key) (Some sheet) (sheets sheet_key)
    → lines_kept kept sheet_key ≡ cond (same_sheet_key key sheet_key) (Some sheet.lines) (lines_kept sheets sheet_key)
lines_after sheets kept key sheet_key sheet put =
    ap (option_map (λ (s : Unruled). s.lines)) put
    ∙ lines_put (same_sheet_key key sheet_key) sheet (sheets sheet_key)

-- it is of the version, as the others are
version_put : (version : Version) (here : Bool) (lines : List (List ℕ)) (other : Option Unruled)
    → IsOfVersion version other → IsOfVersion version (cond here (Some (sent_in_version version lines)) other)
version_put version true lines other is = refl
version_put version false lines other is = is

-- all that are kept then are of the version
pub versions_after : (version : Version) (sheets kept : SheetKey → Option Unruled) (key : SheetKey)
    (lines : List (List ℕ)) → ((sheet_key : SheetKey) → kept sheet_key
    ≡ cond (same_sheet_key key sheet_key) (Some (sent_in_version version lines)) (sheets sheet_key))
    → AreOfVersion version sheets → AreOfVersion version kept
versions_after version sheets kept key lines put are sheet_key =
    subst (IsOfVersion version) (sym (put sheet_key))
    (version_put version (same_sheet_key key sheet_key) lines (sheets sheet_key) (are sheet_key))

-- one that is of the version is what its lines are
exact : (version : Version) (sheet : Option Unruled) (lines : Option (List (List ℕ))) → IsOfVersion version sheet
    → option_map (λ (s : Unruled). s.lines) sheet ≡ lines → sheet ≡ option_map (sent_in_version version) lines
exact version None lines is same = ap (option_map (sent_in_version version)) same
exact version (Some sheet) lines is same = ap Some is ∙ ap (option_map (sent_in_version version)) same

-- and so is each that is kept
pub kept_exactly : (version : Version) (sheets : SheetKey → Option Unruled)
    (lines : SheetKey → Option (List (List ℕ))) → AreOfVersion version sheets
    → ((sheet_key : SheetKey) → lines_kept sheets sheet_key ≡ lines sheet_key) → (sheet_key : SheetKey)
    → sheets sheet_key ≡ option_map (sent_in_version version) (lines sheet_key)
kept_exactly version sheets lines are same sheet_key =
    exact version (sheets sheet_key) (lines sheet_key) (are sheet_key) (same sheet_key)

-- what is behind a reference is there where the reference is
pub copied_there : {A : Type 0} (found : Option (Bor A)) → is_some found ≡ is_some (option_copied found)
copied_there None = refl
copied_there (Some sheet) = refl

pub copied_missing : {A : Type 0} (found : Option (Bor A)) → is_none found ≡ is_none (option_copied found)
copied_missing None = refl
copied_missing (Some sheet) = refl

-- a sheet is there where its lines are
pub there_alike : (version : Version) (sheet : Option Unruled) (lines : Option (List (List ℕ)))
    → sheet ≡ option_map (sent_in_version version) lines → is_some sheet ≡ is_some lines
there_alike version sheet None is = ap is_some is
there_alike version sheet (Some lines) is = ap is_some is

pub missing_alike : (version : Version) (sheet : Option Unruled) (lines : Option (List (List ℕ)))
    → sheet ≡ option_map (sent_in_version version) lines → is_none sheet ≡ is_none lines
missing_alike version sheet None is = ap is_none is
missing_alike version sheet (Some lines) is = ap is_none is

-- the parts of a sheet that is there
pub parts_there : (version : Version) (round : Round) (sheet : Unruled) (lines : Option (List (List ℕ)))
    → Some sheet ≡ option_map (sent_in_version version) lines
    → parts_left round sheet ≡ parts_of_sheet version round (unwrap_or lines [])
parts_there version round sheet None is = absurd (cc)
parts_there version round sheet (Some lines) is =
    let same : sheet ≡ sent_in_version version lines = cc in ap (parts_left round) same

-- without a sheet there are none
pub parts_absent : (version : Version) (round : Round) (lines : Option (List (List ℕ)))
    → None ≡ option_map (sent_in_version version) lines
    → parts_of_sheet version round [] ≡ parts_of_sheet version round (unwrap_or lines [])
parts_absent version round None is = refl
parts_absent version round (Some lines) is = absurd (cc)
