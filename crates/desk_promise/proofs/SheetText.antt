-- The text of a player's sheet and of the empty sheets of all others is these lines.
use Rattle.std.proofs.Common.{◌≡◌, ℕ, zero, suc, ◌+◌, ◌<◌, ◌≤◌, ◌==◌, Bool, true, false, cond, List, [], ◌∷◌, ◌++◌, length}
use Rattle.std.proofs.Common.{refl, ap, subst, ◌∙◌, arith}
use Rattle.std.specs.Prelude.{if◌then◌else◌, not}
use Rattle.std.specs.List.{AllByRecursion, flat_map}
use Rattle.std.proofs.lemmas.List.Elements.{filter-append}
use Rattle.desk_promise.proofs.Heads.{head_if_other, other_heads}
use Rattle.desk_promise.proofs.Names.{AreNamed, ReadWhereSpelt}
use Rattle.desk_promise.proofs.SheetHead.{SpellingIsRead, as_text, head_counts, head_of, head_unbroken, name_at}
use Rattle.desk_promise.proofs.OneLine.{IsUnbroken, ReadsAs, both_read, line_read, nothing_read, seats_read, whole_text}
use Rattle.desk_promise.specs.LineFile.{ended, other_sheets, sheet_if_other}
use Rattle.foresight.specs.TrialFile.{empty_sheet}
use Rattle.order_grammar.specs.Spells.{is_round_of_line}
use Rattle.sheets.specs.Collecting.{HasNoSheetLine}
use Rattle.sheets.specs.File.{is_sheet_line, players_of}
use Rattle.sheets.specs.Text.{is_blank, lines_of, written}
use Rattle.tables.specs.declared.round.Round.{Round}
use Rattle.tables.specs.declared.seat.Seat.{Seat}

-- a line that a sheet may have: it is one line, it counts, and it begins no sheet
pub record IsSheetLine (line : List ℕ) : Type 0 where
  pub unbroken : IsUnbroken line
  pub counts : is_blank line ≡ false
  pub inside : is_sheet_line line ≡ false

-- lines with their ends are those lines
lines_ended : (lines : List (List ℕ)) → AllByRecursion IsSheetLine lines → ReadsAs (flat_map ended lines) lines
lines_ended [] all = nothing_read
lines_ended (line ∷ lines) all =
    both_read (ended line) (flat_map ended lines) (line ∷ []) lines (line_read line all.0.unbroken)
    (lines_ended lines all.1)

-- each of them counts
lines_count : (lines : List (List ℕ)) → AllByRecursion IsSheetLine lines → written lines ≡ lines
lines_count [] all = refl
lines_count (line ∷ lines) all =
    ap (λ (b : Bool). cond (not b) (line ∷ written lines) (written lines)) all.0.counts
    ∙ ap (λ (rest : List (List ℕ)). line ∷ rest) (lines_count lines all.1)

-- none of them begins a sheet
pub no_sheet_line : (lines : List (List ℕ)) → AllByRecursion IsSheetLine lines → HasNoSheetLine lines
no_sheet_line [] all = tt
no_sheet_line (line ∷ lines) all = (all.0.inside, no_sheet_line lines all.1)

module _ (spelt : ReadWhereSpelt) (is_read : SpellingIsRead) (file : List ℕ) (named : AreNamed (players_of file))
    (round : Round) (its : is_round_of_line round ≡ true) (tried : Seat) (own : tried.0 < length (players_of file))
    (lines : List (List ℕ)) (all : AllByRecursion IsSheetLine lines) where
  -- the SHEET line of a seat
  abbrev pub head : ℕ → List ℕ
  head seat = head_of (name_at (players_of file) seat) round

  -- the text of an empty sheet is its SHEET line
  empty_written : (seat : ℕ) → seat < length (players_of file) → ReadsAs (empty_sheet file round seat) (head seat ∷ [])
  empty_written seat within =
      subst (λ (text : List ℕ). ReadsAs text (head seat ∷ [])) (as_text (name_at (players_of file) seat) round)
      (line_read (head seat) (head_unbroken spelt is_read (players_of file) named round its seat within))

  if_other : (seat : ℕ) → seat < length (players_of file)
      → ReadsAs (sheet_if_other file round tried.0 seat) (head_if_other head tried.0 seat)
  if_other seat within =
      elim (seat == tried.0) as (λ (is : Bool). ReadsAs (if not is then empty_sheet file round seat else [])
      (if not is then head seat ∷ [] else [])) [
        | true ↦ nothing_read
        | false ↦ empty_written seat within
      ]

  -- the lines of all of them
  abbrev pub sheet_lines_of : List (List ℕ)
  sheet_lines_of = head tried.0 ∷ lines ++ other_heads head tried.0 0 (length (players_of file))

  abbrev pub sheet_text_of : List ℕ
  sheet_text_of = empty_sheet file round tried.0 ++ (flat_map ended lines ++ other_sheets file round tried)

  pub all_read : ReadsAs sheet_text_of sheet_lines_of
  all_read =
      both_read (empty_sheet file round tried.0) (flat_map ended lines ++ other_sheets file round tried)
      (head tried.0 ∷ []) (lines ++ other_heads head tried.0 0 (length (players_of file))) (empty_written tried.0 own)
      (both_read (flat_map ended lines) (other_sheets file round tried) lines
      (other_heads head tried.0 0 (length (players_of file))) (lines_ended lines all)
      (seats_read (sheet_if_other file round tried.0) (head_if_other head tried.0) 0 (length (players_of file))
      (λ seat within. if_other seat (omega (arith, within)))))

  -- the text of the sheet alone
  pub one_read : ReadsAs (empty_sheet file round tried.0 ++ flat_map ended lines) (head tried.0 ∷ lines)
  one_read =
      both_read (empty_sheet file round tried.0) (flat_map ended lines) (head tried.0 ∷ []) lines
      (empty_written tried.0 own) (lines_ended lines all)

  -- the SHEET lines count
  heads_count : (first count : ℕ) → first + count ≤ length (players_of file)
      → written (other_heads head tried.0 first count) ≡ other_heads head tried.0 first count
  heads_count first zero within = refl
  heads_count first (suc count) within =
      let rest : List (List ℕ) = other_heads head tried.0 (first + 1) count in
      let later = heads_count (first + 1) count (omega (arith, within)) in
      elim (first == tried.0) as (λ (is : Bool). written ((if not is then head first ∷ [] else []) ++ rest)
      ≡ (if not is then head first ∷ [] else []) ++ rest) [
        | true ↦ later
        | false ↦
            ap (λ (b : Bool). cond (not b) (head first ∷ written rest) (written rest))
            (head_counts spelt is_read (players_of file) named round its first (omega (arith, within)))
            ∙ ap (λ (lines : List (List ℕ)). head first ∷ lines) later
      ]

  -- so those lines all count
  pub all_count : written sheet_lines_of ≡ sheet_lines_of
  all_count =
      let others : List (List ℕ) = other_heads head tried.0 0 (length (players_of file)) in
      ap (λ (b : Bool). cond (not b) (head tried.0 ∷ written (lines ++ others)) (written (lines ++ others)))
      (head_counts spelt is_read (players_of file) named round its tried.0 own)
      ∙ ap (λ (rest : List (List ℕ)). head tried.0 ∷ rest)
      (filter-append (λ (line : List ℕ). not (is_blank line)) lines others
      ∙ ap (λ (first : List (List ℕ)). first ++ written others) (lines_count lines all)
      ∙ ap (λ (later : List (List ℕ)). lines ++ later) (heads_count 0 (length (players_of file)) (omega arith)))

  -- and those of the sheet alone
  pub one_counts : written (head tried.0 ∷ lines) ≡ head tried.0 ∷ lines
  one_counts =
      ap (λ (b : Bool). cond (not b) (head tried.0 ∷ written lines) (written lines))
      (head_counts spelt is_read (players_of file) named round its tried.0 own)
      ∙ ap (λ (rest : List (List ℕ)). head tried.0 ∷ rest) (lines_count lines all)

  -- they are the lines of the text that count
  pub text_lines : written (lines_of sheet_text_of) ≡ sheet_lines_of
  text_lines = ap written (whole_text sheet_text_of sheet_lines_of all_read) ∙ all_count
