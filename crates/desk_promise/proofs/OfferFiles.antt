-- What the file in which lines are tried with those of another player reads as.
use Rattle.std.proofs.Common.{◌≡◌, ℕ, ◌<◌, ◌≤◌, true, false, List, [], ◌∷◌, ◌++◌, length, Option, Some, None}
use Rattle.std.proofs.Common.{append_assoc, sym, ap, subst, ◌∙◌, arith}
use Rattle.std.specs.Option.{option_or}
use Rattle.std.specs.Prelude.{Bool, if◌then◌else◌, not}
use Rattle.std.specs.List.{AllByRecursion}
use Rattle.std.proofs.lemmas.Bool.Decides.{nat_tests}
use Rattle.std.proofs.lemmas.List.{append-nil}
use Rattle.std.proofs.lemmas.List.Elements.{filter-append}
use Rattle.desk_base.proofs.MomentLemmas.{same_round_self}
use Rattle.desk_promise.proofs.AtTable.{no_sheet}
use Rattle.desk_promise.proofs.Behind.{lines_behind, reads_on, sheet_behind}
use Rattle.desk_promise.proofs.Heads.{none_found, one_found, other_found, own_found}
use Rattle.desk_promise.proofs.Names.{AreNamed, ReadWhereSpelt, are_named}
use Rattle.desk_promise.proofs.OneLine.{both_read, whole_text}
use Rattle.desk_promise.proofs.SheetHead.{SpellingIsRead, head_begins, head_is_sheet_line}
use Rattle.desk_promise.proofs.SheetText.{IsSheetLine, all_count, all_read, head, no_sheet_line, one_counts, one_read}
use Rattle.desk_promise.proofs.SheetText.{sheet_lines_of}
use Rattle.desk_promise.specs.LineFile.{IsEnded}
use Rattle.desk_promise.specs.OfferFile.{HasBothSheets, both_file, sheet_of_one, sheets_of_all}
use Rattle.order_grammar.specs.Spells.{is_round_of_line}
use Rattle.sheets.specs.File.{IsAccepted, begins, body_of, is_sheet_line, players_of, same_sheet_key, sheet_in, sheet_key_at}
use Rattle.sheets.specs.File.{sheet_of}
use Rattle.sheets.specs.Text.{is_blank, written, written_lines}
use Rattle.sheets.specs.declared.sheet_key.SheetKey.{SheetKey}
use Rattle.tables.specs.declared.round.Round.{Round}
use Rattle.tables.specs.declared.seat.Seat.{Seat}

module _ (spelt : ReadWhereSpelt) (is_read : SpellingIsRead) (file : List ℕ) (accepted : IsAccepted file)
    (end : IsEnded file) (round : Round) (its : is_round_of_line round ≡ true) (giver : Seat)
    (giving : giver.0 < length (players_of file)) (given : List (List ℕ)) (given_fit : AllByRecursion IsSheetLine given)
    (seat : Seat) (own : seat.0 < length (players_of file)) (lines : List (List ℕ))
    (lines_fit : AllByRecursion IsSheetLine lines) (apart : giver.0 ≡ seat.0 → ⊥)
    (also : IsAccepted (both_file file round giver given seat lines)) where
  abbrev new : List ℕ
  new = both_file file round giver given seat lines

  abbrev players : List (List ℕ)
  players = players_of file

  named : AreNamed (players_of file)
  named =
      let on = reads_on file file [] accepted accepted (sym (append-nil (written_lines file))) in
      are_named spelt on.line (players_of file) on.named

  -- the lines of the first sheets, and of the last
  abbrev first : List (List ℕ)
  first = sheet_lines_of spelt is_read file named round its giver giving given given_fit

  abbrev head_here : ℕ → List ℕ
  head_here = head spelt is_read file named round its seat own lines lines_fit

  abbrev last : List (List ℕ)
  last = head_here seat.0 ∷ lines

  added : written_lines new ≡ written_lines file ++ (first ++ last)
  added =
      let texts : List ℕ = sheets_of_all file round giver given ++ sheet_of_one file round seat lines in
      lines_behind file texts end
      ∙ ap (λ (rest : List (List ℕ)). written_lines file ++ rest)
      (ap written (whole_text texts (first ++ last) (both_read (sheets_of_all file round giver given)
      (sheet_of_one file round seat lines) first last
      (all_read spelt is_read file named round its giver giving given given_fit)
      (one_read spelt is_read file named round its seat own lines lines_fit)))
      ∙ filter-append (λ (line : List ℕ). not (is_blank line)) first last
      ∙ ap (λ (some : List (List ℕ)). some ++ written last)
      (all_count spelt is_read file named round its giver giving given given_fit)
      ∙ ap (λ (some : List (List ℕ)). first ++ some)
      (one_counts spelt is_read file named round its seat own lines lines_fit))

  is_sheet : (k : ℕ) → k < length (players_of file) → is_sheet_line (head_here k) ≡ true
  is_sheet k within = head_is_sheet_line spelt is_read (players_of file) named round its k within

  begin : (k : ℕ) → k < length (players_of file) → begins (players_of file) (head_here k) ≡ Some (sheet_key_at k round)
  begin k within = head_begins spelt is_read (players_of file) named round its k within

  -- a sheet is the last one, or else one of the first, or else where it was
  found : (k : ℕ) (before : Round) → sheet_of new k before
      ≡ option_or (sheet_in (players_of file) last (sheet_key_at k before))
      (option_or (sheet_in (players_of file) first (sheet_key_at k before)) (sheet_of file k before))
  unfolding sheet_of
  found k before =
      let on = reads_on file new (first ++ last) accepted also added in
      let wanted : SheetKey = sheet_key_at k before in
      ap (λ (names : List (List ℕ)). sheet_in names (body_of new) wanted) on.players
      ∙ ap (λ (body : List (List ℕ)). sheet_in (players_of file) body wanted) on.body
      ∙ ap (λ (body : List (List ℕ)). sheet_in (players_of file) body wanted)
      (sym (append_assoc (body_of file) first last))
      ∙ sheet_behind (players_of file) (body_of file ++ first) last wanted (is_sheet seat.0 own)
      ∙ ap (λ (earlier : Option (List (List ℕ))). option_or (sheet_in (players_of file) last wanted) earlier)
      (sheet_behind (players_of file) (body_of file) first wanted (is_sheet giver.0 giving))

  -- the last one is of one seat for the round
  last_of : (k : ℕ) (before : Round) → sheet_in (players_of file) last (sheet_key_at k before)
      ≡ (if same_sheet_key (sheet_key_at seat.0 round) (sheet_key_at k before) then Some lines else None)
  last_of k before =
      one_found (players_of file) round seat.0 (length (players_of file)) head_here is_sheet begin lines
      (no_sheet_line lines lines_fit) own (sheet_key_at k before)

  chosen : (k : ℕ) (before : Round) (later earlier : Option (List (List ℕ)))
      → sheet_in (players_of file) last (sheet_key_at k before) ≡ later
      → sheet_in (players_of file) first (sheet_key_at k before) ≡ earlier
      → sheet_of new k before ≡ option_or later (option_or earlier (sheet_of file k before))
  chosen k before later earlier is_later is_earlier =
      found k before
      ∙ ap (λ (sheet : Option (List (List ℕ))). option_or sheet
      (option_or (sheet_in (players_of file) first (sheet_key_at k before)) (sheet_of file k before))) is_later
      ∙ ap (λ (sheet : Option (List (List ℕ))). option_or later (option_or sheet (sheet_of file k before))) is_earlier

  not_last : (k : ℕ) (before : Round) → same_sheet_key (sheet_key_at seat.0 round) (sheet_key_at k before) ≡ false
      → sheet_in (players_of file) last (sheet_key_at k before) ≡ None
  not_last k before other =
      last_of k before ∙ ap (λ (b : Bool). if b then Some lines else None) other

  of_another : (k : ℕ) → (k ≡ seat.0 → ⊥) → same_sheet_key (sheet_key_at seat.0 round) (sheet_key_at k round) ≡ false
  of_another k differs = grind (arith, nat_tests, differs)

  past : (k : ℕ) (any : Round) → length (players_of file) ≤ k → sheet_of new k any ≡ None
  unfolding sheet_of
  past k any beyond =
      let on = reads_on file new (first ++ last) accepted also added in
      no_sheet (players_of new) (body_of new) (sheet_key_at k any)
      (subst (λ (names : List (List ℕ)). length names ≤ k) (sym on.players) beyond)

  pub has_both_sheets : HasBothSheets file new round giver given seat lines
  has_both_sheets =
      let on = reads_on file new (first ++ last) accepted also added in
      let count = length (players_of file) in
      let none = no_sheet_line given given_fit in
      let own_last : sheet_in (players_of file) last (sheet_key_at seat.0 round) ≡ Some lines =
      last_of seat.0 round ∙ grind (arith, nat_tests, same_round_self round) in
      record {
        players = on.players;
        version = on.version;
        own = found seat.0 round ∙ ap (λ (sheet : Option (List (List ℕ))). option_or sheet
            (option_or (sheet_in (players_of file) first (sheet_key_at seat.0 round)) (sheet_of file seat.0 round))) own_last;
        givers = chosen giver.0 round None (Some given) (not_last giver.0 round (of_another giver.0 apart))
            (own_found (players_of file) round giver.0 count head_here is_sheet begin given none giving);
        others = λ k within differs too. chosen k round None (Some []) (not_last k round (of_another k differs))
            (other_found (players_of file) round giver.0 count head_here is_sheet begin given none giving k within too);
        no_more = past;
        elsewhere = λ k before other. chosen k before None None
            (not_last k before (grind (arith, other)))
            (none_found (players_of file) round giver.0 count head_here is_sheet begin given none giving k before other);
      }
