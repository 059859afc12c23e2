-- Lines that are no SHEET lines and were meant as such: SHEET with a sign behind it in place of a
-- space, as a colon or a tab. Where a sheet is looked at it ends at such a line, too.
use Rattle.std.specs.Prelude.{ℕ, ◌==◌, Bool, false, ◌&&◌, ◌||◌, List, [], ◌∷◌, codes, drop, take}
use Rattle.std.specs.Str.{str_eq_ignore_ascii_case}
use Rattle.sheets.specs.File.{is_sheet_line}

-- a byte that is written behind SHEET in place of a space: a colon, a comma, a semicolon, a full
-- stop, a tab, or the first byte of a no-break space
abbrev pub is_sign : ℕ → Bool
is_sign byte = byte == 58 || (byte == 44 || (byte == 59 || (byte == 46 || (byte == 9 || (byte == 160 || byte == 194)))))

-- the text begins with such a byte
abbrev pub begins_with_sign : List ℕ → Bool
begins_with_sign [] = false
begins_with_sign (byte ∷ bytes) = is_sign byte

-- the line begins with SHEET, in either case, and such a byte
abbrev pub is_like_sheet : List ℕ → Bool
is_like_sheet line = str_eq_ignore_ascii_case (take 5 line) (codes "SHEET") && begins_with_sign (drop 5 line)

-- a sheet ends at the line, or was meant to
abbrev pub closes : List ℕ → Bool
closes line = is_sheet_line line || is_like_sheet line
