-- Sheets are looked up by seat and round.
use Rattle.std.proofs.Common.{◌≡◌, List, [], ◌∷◌, cond, Some, refl, sym, ◌∙◌, ap}
use Rattle.std.specs.Map.{lookup}
use Rattle.sheets.specs.File.{same_sheet_key}
use Rattle.sheets.specs.declared.sheet_key.SheetKey.{SheetKey}
use Rattle.tables.specs.declared.round.Round.{Round}
use Rattle.tables.specs.declared.round.Round.TheVariants.{Opening, Stock, Operating}
use Rattle.tables.specs.declared.seat.Seat.{Seat}
use Rattle.sheets.specs.contracts.sheet_key.SheetKeyPartialEq.TheImpl as derived

-- the derived test is that of the seat and the round
by_round : (s t : Seat) (a b : Round) →
    derived.eq-value.it (record { seat = s; round = a }) (record { seat = t; round = b })
    ≡ same_sheet_key (record { seat = s; round = a }) (record { seat = t; round = b })
by_round s t (Opening m) (Opening n) = refl
by_round s t (Opening m) (Stock n) = refl
by_round s t (Opening m) (Operating n k) = refl
by_round s t (Stock m) (Opening n) = refl
by_round s t (Stock m) (Stock n) = refl
by_round s t (Stock m) (Operating n k) = refl
by_round s t (Operating m j) (Opening n) = refl
by_round s t (Operating m j) (Stock n) = refl
by_round s t (Operating m j) (Operating n k) = refl

-- look-ups by either test are the same
pub found_by_sheet_key : {X : Type 0} (sheet_key : SheetKey) (entries : List (SheetKey × X))
    → lookup (derived.eq-value.it sheet_key) entries ≡ lookup (same_sheet_key sheet_key) entries
found_by_sheet_key sheet_key [] = refl
found_by_sheet_key sheet_key (entry ∷ entries) =
    ap (λ t. cond t (Some entry.1) (lookup (derived.eq-value.it sheet_key) entries))
    (by_round sheet_key.seat entry.0.seat sheet_key.round entry.0.round)
    ∙ ap (λ o. cond (same_sheet_key sheet_key entry.0) (Some entry.1) o) (found_by_sheet_key sheet_key entries)

-- a sheet that was put at its seat and round
pub found_after_insert : {X : Type 0} (key sheet_key : SheetKey) (value : X) (old new : List (SheetKey × X)) →
    lookup (derived.eq-value.it sheet_key) new ≡ cond (derived.eq-value.it key sheet_key) (Some value)
    (lookup (derived.eq-value.it sheet_key) old) →
    lookup (same_sheet_key sheet_key) new ≡ cond (same_sheet_key key sheet_key) (Some value)
    (lookup (same_sheet_key sheet_key) old)
found_after_insert key sheet_key value old new e =
    sym (found_by_sheet_key sheet_key new) ∙ e
    ∙ ap (λ t. cond t (Some value) (lookup (derived.eq-value.it sheet_key) old))
    (by_round key.seat sheet_key.seat key.round sheet_key.round)
    ∙ ap (λ o. cond (same_sheet_key key sheet_key) (Some value) o) (found_by_sheet_key sheet_key old)
