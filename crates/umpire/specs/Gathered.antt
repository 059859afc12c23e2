-- How far a file has migrated to version 2.
use Rattle.std.specs.Prelude.{◌≡◌, ℕ, Bool, false, ◌&&◌, nat_le, List, ◌∷◌, ◌++◌, length, Option}
use Rattle.std.specs.List.{list_all}
use Rattle.std.specs.Io.KnownBytes.{Appends}
use Rattle.order_grammar.specs.Limits.{line_most}
use Rattle.order_grammar.specs.Words.{before_comment, is_printable}
use Rattle.sheets.specs.Text.{is_blank, lines_of}
use Rattle.umpire.specs.Migrated.{file_in_two}

-- a text has come after what was gathered to be written: some of both is written, and the rest is
-- gathered
pub record Gathers (old new : Option (List ℕ)) (before after text : List ℕ) : Type 0 where
  pub done : List ℕ
  pub whole : done ++ after ≡ before ++ text
  pub appended : Appends old new done

-- a file is some blank lines, which stay, and this, of which the first line is not blank
pub record IsFromHeader (file rest : List ℕ) : Type 0 where
  pub prefix : List ℕ
  pub whole : file ≡ prefix ++ rest
  pub stays : file_in_two file ≡ prefix ++ file_in_two rest
  pub counts : (line : List ℕ) (lines : List (List ℕ)) → lines_of rest ≡ line ∷ lines → is_blank line ≡ false

-- a line is not too long, and its bytes before the comment are printable: it has no fault that
-- comes before those of its words
abbrev pub is_clean : List ℕ → Bool
is_clean line = nat_le (length line) line_most && list_all is_printable (before_comment line)
