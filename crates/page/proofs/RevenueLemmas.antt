-- The rows of a table of revenues, round by round.
use Rattle.std.proofs.Common.{◌≡◌, List, ◌∷◌, ◌++◌, ◌∙◌, refl, ap, sym, append_assoc}
use Rattle.std.specs.Prelude.{Option, Some, None, option_to_list}
use Rattle.std.specs.List.{cons_option, filter_map}
use Rattle.events.specs.declared.event.Event.{Event}
use Rattle.page.specs.Revenue.{revenue_row}
use Rattle.page.specs.declared.revenue_part.RevenueRow.{RevenueRow}

-- the row of a round, if it has one, before those of later rounds
row_before : (row : Option RevenueRow) (later : List RevenueRow) → option_to_list row ++ later ≡ cons_option row later
row_before None later = refl
row_before (Some row) later = refl

-- the rows so far, with that of one more round, and those of the rounds to come
pub rows_step : (rows now : List RevenueRow) (round : List Event) (rounds later : List (List Event))
    → now ≡ rows ++ option_to_list (revenue_row round) → rounds ≡ round ∷ later
    → now ++ filter_map revenue_row later ≡ rows ++ filter_map revenue_row rounds
rows_step rows now round rounds later added first =
    ap (λ all. all ++ filter_map revenue_row later) added
    ∙ (append_assoc rows (option_to_list (revenue_row round)) (filter_map revenue_row later)
    ∙ (ap (λ all. rows ++ all) (row_before (revenue_row round) (filter_map revenue_row later))
    ∙ ap (λ all. rows ++ filter_map revenue_row all) (sym first)))
