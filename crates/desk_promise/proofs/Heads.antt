-- SHEET lines of players at the end of a file, one after another, each of which begins an empty sheet.
use Rattle.std.proofs.Common.{◌≡◌, ℕ, zero, suc, ◌+◌, ◌<◌, ◌≤◌, ◌==◌, Bool, true, false, cond, List, [], ◌∷◌, ◌++◌}
use Rattle.std.proofs.Common.{Option, Some, None, append-nil, refl, sym, ap, ◌∙◌, inl, inr, arith}
use Rattle.std.specs.Option.{option_or}
use Rattle.std.specs.Prelude.{◌&&◌, ◌||◌, if◌then◌else◌, not}
use Rattle.std.specs.List.{flat_map, range_with_len}
use Rattle.std.proofs.lemmas.Bool.{cases_eq}
use Rattle.std.proofs.lemmas.Bool.Decides.{nat_tests}
use Rattle.std.proofs.lemmas.List.Sums.{take_while-cons}
use Rattle.desk_base.proofs.MomentLemmas.{same_round_self}
use Rattle.desk_promise.proofs.Behind.{is_inside, none_begun, own_lines}
use Rattle.sheets.proofs.BodyLemmas.{option_or-none}
use Rattle.sheets.specs.Collecting.{HasNoSheetLine}
use Rattle.sheets.specs.File.{begins, is_sheet_line, lines_begun, same_sheet_key, sheet_in, sheet_key_at, sheet_lines}
use Rattle.sheets.specs.declared.sheet_key.SheetKey.{SheetKey}
use Rattle.tables.specs.Round.{same_round}
use Rattle.tables.specs.declared.round.Round.{Round}

-- the SHEET line of a seat, unless it is this one
abbrev pub head_if_other : (ℕ → List ℕ) → ℕ → ℕ → List (List ℕ)
head_if_other head tried seat = if not (seat == tried) then head seat ∷ [] else []

-- those of this many seats from one on
abbrev pub other_heads : (ℕ → List ℕ) → ℕ → ℕ → ℕ → List (List ℕ)
other_heads head tried first count = flat_map (head_if_other head tried) (range_with_len first count)

-- one of them begins this sheet
abbrev is_among : Round → ℕ → SheetKey → ℕ → ℕ → Bool
is_among round tried sheet_key first zero = false
is_among round tried sheet_key first (suc count) =
    is_among round tried sheet_key (first + 1) count
    || (not (first == tried) && same_sheet_key (sheet_key_at first round) sheet_key)

-- an empty sheet, if there is one
abbrev empty_if : Bool → Option (List (List ℕ))
empty_if there = if there then Some [] else None

-- a later one or this
one_of_both : (later this : Bool) → option_or (empty_if later) (empty_if this) ≡ empty_if (later || this)
one_of_both true this = refl
one_of_both false this = refl

-- no sheet of one seat is that of another
not_of_tried : (same tried round : Bool) → same ≡ tried → (not tried && (same && round)) ≡ false
not_of_tried same true round is = refl
not_of_tried true false round is = cc
not_of_tried false false round is = refl

module _ (players : List (List ℕ)) (round : Round) (tried seats : ℕ) (head : ℕ → List ℕ)
    (is_sheet : (seat : ℕ) → seat < seats → is_sheet_line (head seat) ≡ true)
    (begin : (seat : ℕ) → seat < seats → begins players (head seat) ≡ Some (sheet_key_at seat round)) where
  -- no line comes before the first of them
  pub at_head : (first count : ℕ) → first + count ≤ seats → sheet_lines (other_heads head tried first count) ≡ []
  at_head first zero within = refl
  at_head first (suc count) within =
      elim (first == tried) as (λ (is : Bool).
      sheet_lines ((if not is then head first ∷ [] else []) ++ other_heads head tried (first + 1) count) ≡ []) [
        | true ↦ at_head (first + 1) count (omega (arith, within))
        | false ↦
            take_while-cons is_inside (head first) (other_heads head tried (first + 1) count)
            ∙ ap (λ (b : Bool). cond (not b) (head first ∷ sheet_lines (other_heads head tried (first + 1) count)) [])
            (is_sheet first (omega (arith, within)))
      ]

  -- each of them begins an empty sheet
  sheets_of_others : (sheet_key : SheetKey) (first count : ℕ) → first + count ≤ seats
      → sheet_in players (other_heads head tried first count) sheet_key
      ≡ empty_if (is_among round tried sheet_key first count)
  sheets_of_others sheet_key first zero within = refl
  sheets_of_others sheet_key first (suc count) within =
      let rest : List (List ℕ) = other_heads head tried (first + 1) count in
      let later = sheets_of_others sheet_key (first + 1) count (omega (arith, within)) in
      let among : Bool = is_among round tried sheet_key (first + 1) count in
      elim (first == tried) as (λ (is : Bool).
      sheet_in players ((if not is then head first ∷ [] else []) ++ rest) sheet_key
      ≡ empty_if (among || (not is && same_sheet_key (sheet_key_at first round) sheet_key))) [
        | true ↦ later ∙ sym (option_or-none (empty_if among)) ∙ one_of_both among false
        | false ↦
            ap (λ (lines : List (List ℕ)). option_or (sheet_in players rest sheet_key)
            (lines_begun sheet_key lines (begins players (head first))))
            (at_head (first + 1) count (omega (arith, within)))
            ∙ ap (λ (begun : Option SheetKey). option_or (sheet_in players rest sheet_key) (lines_begun sheet_key [] begun))
            (begin first (omega (arith, within)))
            ∙ ap (λ (found : Option (List (List ℕ))). option_or found
            (empty_if (same_sheet_key (sheet_key_at first round) sheet_key))) later
            ∙ one_of_both among (same_sheet_key (sheet_key_at first round) sheet_key)
      ]

  -- the seat that is left out has none
  none_of_tried : (its : Round) (first count : ℕ) → is_among round tried (sheet_key_at tried its) first count ≡ false
  none_of_tried its first zero = refl
  none_of_tried its first (suc count) =
      ap (λ (later : Bool). later || (not (first == tried) && (first == tried && same_round round its)))
      (none_of_tried its (first + 1) count)
      ∙ not_of_tried (first == tried) (first == tried) (same_round round its) refl

  -- nor has any for another round
  none_elsewhere : (seat : ℕ) (its : Round) → same_round round its ≡ false → (first count : ℕ)
      → is_among round tried (sheet_key_at seat its) first count ≡ false
  none_elsewhere seat its other first zero = refl
  none_elsewhere seat its other first (suc count) =
      grind (arith, none_elsewhere seat its other (first + 1) count, other)

  -- the others have one for the round
  each_other : (seat : ℕ) → (seat ≡ tried → ⊥) → (first count : ℕ) → first ≤ seat → seat < first + count
      → is_among round tried (sheet_key_at seat round) first count ≡ true
  each_other seat apart first zero from within = absurd (omega (arith, from, within))
  each_other seat apart first (suc count) from within =
      elim (cases_eq first seat) [
        | inl same ↦ grind (arith, nat_tests, same_round_self round, same, apart)
        | inr later ↦
            grind (arith, each_other seat apart (first + 1) count (omega (arith, from, later)) (omega (arith, within)))
      ]

  module _ (lines : List (List ℕ)) (none : HasNoSheetLine lines) (own : tried < seats) where
    -- the sheet of one seat with its lines, and the empty sheets of all others
    abbrev pub all_sheets : List (List ℕ)
    all_sheets = head tried ∷ lines ++ other_heads head tried 0 seats

    found : (sheet_key : SheetKey) → sheet_in players all_sheets sheet_key
        ≡ option_or (empty_if (is_among round tried sheet_key 0 seats))
        (if same_sheet_key (sheet_key_at tried round) sheet_key then Some lines else None)
    found sheet_key =
        ap (λ (found : Option (List (List ℕ))). option_or found
        (lines_begun sheet_key (sheet_lines (lines ++ other_heads head tried 0 seats)) (begins players (head tried))))
        (none_begun players lines (other_heads head tried 0 seats) sheet_key none
        ∙ sheets_of_others sheet_key 0 seats (omega arith))
        ∙ ap (λ (its : List (List ℕ)). option_or (empty_if (is_among round tried sheet_key 0 seats))
        (lines_begun sheet_key its (begins players (head tried))))
        (own_lines lines (other_heads head tried 0 seats) none (at_head 0 seats (omega arith)))
        ∙ ap (λ (begun : Option SheetKey). option_or (empty_if (is_among round tried sheet_key 0 seats))
        (lines_begun sheet_key lines begun)) (begin tried own)

    pub own_found : sheet_in players all_sheets (sheet_key_at tried round) ≡ Some lines
    own_found =
        found (sheet_key_at tried round)
        ∙ ap (λ (b : Bool). option_or (empty_if b)
        (if same_sheet_key (sheet_key_at tried round) (sheet_key_at tried round) then Some lines else None))
        (none_of_tried round 0 seats)
        ∙ grind (arith, nat_tests, same_round_self round)

    pub other_found : (seat : ℕ) → seat < seats → (seat ≡ tried → ⊥)
        → sheet_in players all_sheets (sheet_key_at seat round) ≡ Some []
    other_found seat within apart =
        found (sheet_key_at seat round)
        ∙ ap (λ (b : Bool). option_or (empty_if b)
        (if same_sheet_key (sheet_key_at tried round) (sheet_key_at seat round) then Some lines else None))
        (each_other seat apart 0 seats (omega arith) (omega (arith, within)))

    pub none_found : (seat : ℕ) (its : Round) → same_round round its ≡ false
        → sheet_in players all_sheets (sheet_key_at seat its) ≡ None
    none_found seat its other =
        found (sheet_key_at seat its)
        ∙ ap (λ (b : Bool). option_or (empty_if b)
        (if same_sheet_key (sheet_key_at tried round) (sheet_key_at seat its) then Some lines else None))
        (none_elsewhere seat its other 0 seats)
        ∙ grind (arith, other)

    -- the sheet of that seat alone
    pub one_found : (sheet_key : SheetKey) → sheet_in players (head tried ∷ lines) sheet_key
        ≡ (if same_sheet_key (sheet_key_at tried round) sheet_key then Some lines else None)
    one_found sheet_key =
        ap (λ (all : List (List ℕ)). sheet_in players (head tried ∷ all) sheet_key) (sym (append-nil lines))
        ∙ ap (λ (later : Option (List (List ℕ))). option_or later
        (lines_begun sheet_key (sheet_lines (lines ++ [])) (begins players (head tried))))
        (none_begun players lines [] sheet_key none)
        ∙ ap (λ (its : List (List ℕ)). lines_begun sheet_key its (begins players (head tried)))
        (own_lines lines [] none refl)
        ∙ ap (λ (begun : Option SheetKey). lines_begun sheet_key lines begun) (begin tried own)
