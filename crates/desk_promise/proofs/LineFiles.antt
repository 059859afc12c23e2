-- What the file in which lines are tried reads as.
use Rattle.std.proofs.Common.{◌≡◌, ℕ, ◌<◌, ◌≤◌, true, List, [], ◌++◌, length, Option, Some, None}
use Rattle.std.proofs.Common.{sym, ap, subst, ◌∙◌}
use Rattle.std.specs.Option.{option_or}
use Rattle.std.proofs.lemmas.List.{append-nil}
use Rattle.std.specs.List.{AllByRecursion}
use Rattle.desk_promise.proofs.AtTable.{no_sheet}
use Rattle.desk_promise.proofs.Behind.{lines_behind, reads_on, sheet_behind}
use Rattle.desk_promise.proofs.Heads.{none_found, other_found, own_found}
use Rattle.desk_promise.proofs.Names.{AreNamed, ReadWhereSpelt, are_named}
use Rattle.desk_promise.proofs.SheetHead.{SpellingIsRead, head_begins, head_is_sheet_line}
use Rattle.desk_promise.proofs.SheetText.{IsSheetLine, head, no_sheet_line, sheet_lines_of, sheet_text_of, text_lines}
use Rattle.desk_promise.specs.LineFile.{HasSheets, IsEnded, line_file}
use Rattle.order_grammar.specs.Spells.{is_round_of_line}
use Rattle.sheets.specs.File.{IsAccepted, begins, body_of, is_sheet_line, players_of, sheet_in, sheet_key_at, sheet_of}
use Rattle.sheets.specs.Text.{written_lines}
use Rattle.tables.specs.declared.round.Round.{Round}
use Rattle.tables.specs.declared.seat.Seat.{Seat}

module _ (spelt : ReadWhereSpelt) (is_read : SpellingIsRead) (file : List ℕ) (accepted : IsAccepted file)
    (end : IsEnded file) (round : Round) (its : is_round_of_line round ≡ true) (tried : Seat)
    (own : tried.0 < length (players_of file)) (lines : List (List ℕ)) (all : AllByRecursion IsSheetLine lines)
    (also : IsAccepted (line_file file round tried lines)) where
  abbrev new : List ℕ
  new = line_file file round tried lines

  -- the players have names: an accepted file has its own line for them
  named : AreNamed (players_of file)
  named =
      let on = reads_on file file [] accepted accepted (sym (append-nil (written_lines file))) in
      are_named spelt on.line (players_of file) on.named

  abbrev more : List (List ℕ)
  more = sheet_lines_of spelt is_read file named round its tried own lines all

  added : written_lines new ≡ written_lines file ++ more
  added =
      lines_behind file (sheet_text_of spelt is_read file named round its tried own lines all) end
      ∙ ap (λ (rest : List (List ℕ)). written_lines file ++ rest)
      (text_lines spelt is_read file named round its tried own lines all)

  abbrev head_here : ℕ → List ℕ
  head_here = head spelt is_read file named round its tried own lines all

  is_sheet : (seat : ℕ) → seat < length (players_of file) → is_sheet_line (head_here seat) ≡ true
  is_sheet seat within = head_is_sheet_line spelt is_read (players_of file) named round its seat within

  begin : (seat : ℕ) → seat < length (players_of file)
      → begins (players_of file) (head_here seat) ≡ Some (sheet_key_at seat round)
  begin seat within = head_begins spelt is_read (players_of file) named round its seat within

  -- a sheet is one of the new ones, or else where it was
  found : (seat : ℕ) (before : Round) → sheet_of new seat before
      ≡ option_or (sheet_in (players_of file) more (sheet_key_at seat before)) (sheet_of file seat before)
  unfolding sheet_of
  found seat before =
      let on = reads_on file new more accepted also added in
      ap (λ (players : List (List ℕ)). sheet_in players (body_of new) (sheet_key_at seat before)) on.players
      ∙ ap (λ (body : List (List ℕ)). sheet_in (players_of file) body (sheet_key_at seat before)) on.body
      ∙ sheet_behind (players_of file) (body_of file) more (sheet_key_at seat before) (is_sheet tried.0 own)

  past : (seat : ℕ) (any : Round) → length (players_of file) ≤ seat → sheet_of new seat any ≡ None
  unfolding sheet_of
  past seat any beyond =
      let on = reads_on file new more accepted also added in
      no_sheet (players_of new) (body_of new) (sheet_key_at seat any)
      (subst (λ (players : List (List ℕ)). length players ≤ seat) (sym on.players) beyond)

  pub has_sheets : HasSheets file new round tried lines
  has_sheets =
      let on = reads_on file new more accepted also added in
      let count = length (players_of file) in
      let none = no_sheet_line lines all in
      let chosen : (seat : ℕ) (before : Round) (sheet : Option (List (List ℕ)))
      → sheet_in (players_of file) more (sheet_key_at seat before) ≡ sheet
      → sheet_of new seat before ≡ option_or sheet (sheet_of file seat before) =
      λ seat before sheet is. found seat before
      ∙ ap (λ (first : Option (List (List ℕ))). option_or first (sheet_of file seat before)) is
      in
      record {
        players = on.players;
        version = on.version;
        own = chosen tried.0 round (Some lines)
            (own_found (players_of file) round tried.0 count head_here is_sheet begin lines none own);
        others = λ seat within apart. chosen seat round (Some [])
            (other_found (players_of file) round tried.0 count head_here is_sheet begin lines none own seat within apart);
        no_more = past;
        elsewhere = λ seat before differs. chosen seat before None
            (none_found (players_of file) round tried.0 count head_here is_sheet begin lines none own seat before differs);
      }
