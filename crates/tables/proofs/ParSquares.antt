-- The square of a row that marks a par value.
use Rattle.std.proofs.Common.{◌≡◌, ◌==◌, ℕ, zero, suc, Bool, true, false, if◌then◌else◌, IfSome, Option, Some, None, is_some, ◌++◌, refl, sym, subst, ap, ◌∙◌}
use Rattle.std.proofs.lemmas.Bool.{eqb-true, true≢false}
use Rattle.std.specs.Option.{option_eq, option_to_list}
use Rattle.tables.specs.Chart.{entry_at, is_on_chart, is_par, par_value_of, par_values_from, price_in, price_of, square_at}
use Rattle.tables.specs.declared.chart.Entry.{Entry}
use Rattle.tables.specs.declared.squares.Square.{Square}

-- a price that is marked, and equal to a par value, is that par value
marked_price : (marked : Bool) (price par : ℕ) → true ≡ option_eq ◌==◌ (if marked then Some price else None) (Some par)
    → price ≡ par
marked_price true price par is = eqb-true price par (sym is)
marked_price false price par is = absurd (true≢false is)

-- what a row has in the column of par values, if it marks one
priced_at : (row par : ℕ) (entry : Option Entry) → entry_at row 7 ≡ entry
    → true ≡ option_eq ◌==◌ (if is_par entry then Some (price_in entry) else None) (Some par)
    → IfSome (if is_some entry then Some (record { row = row; column = 7 }) else None) (λ (s : Square). price_of s ≡ par)
priced_at row par None at is = cc
priced_at row par (Some entry) at is = ap price_in at ∙ marked_price entry.is_par entry.price par is

-- the square of a row that marks a par value has this price
pub priced : (row par : ℕ) (value : Option ℕ) (found : Option Square) → value ≡ par_value_of row
    → true ≡ option_eq ◌==◌ value (Some par) → found ≡ square_at row 7 → IfSome found (λ square. price_of square ≡ par)
priced row par value found marks marked is =
    subst (λ (square : Option Square). IfSome square (λ square. price_of square ≡ par)) (sym is)
    (priced_at row par (entry_at row 7) refl (marked ∙ ap (λ (v : Option ℕ). option_eq ◌==◌ v (Some par)) marks))

-- what a row has there, if anything, is on the chart
on_chart_at : (row : ℕ) (entry : Option Entry) → entry_at row 7 ≡ entry
    → IfSome (if is_some entry then Some (record { row = row; column = 7 }) else None)
    (λ (s : Square). is_on_chart s ≡ true)
on_chart_at row None at = cc
on_chart_at row (Some entry) at = ap is_some at

-- the square of a row is on the chart
pub on_chart : (row : ℕ) (found : Option Square) → found ≡ square_at row 7
    → IfSome found (λ square. is_on_chart square ≡ true)
on_chart row found is =
    subst (λ (square : Option Square). IfSome square (λ square. is_on_chart square ≡ true)) (sym is)
    (on_chart_at row (entry_at row 7) refl)

-- the par value of a row comes after those of the rows below it
pub row_above : (row : ℕ) → par_values_from row ≡ par_values_from (suc row) ++ option_to_list (par_value_of row)
row_above zero = refl
row_above (suc zero) = refl
row_above (suc (suc zero)) = refl
row_above (suc (suc (suc zero))) = refl
row_above (suc (suc (suc (suc zero)))) = refl
row_above (suc (suc (suc (suc (suc zero))))) = refl
row_above (suc (suc (suc (suc (suc (suc zero)))))) = refl
row_above (suc (suc (suc (suc (suc (suc (suc zero))))))) = refl
row_above (suc (suc (suc (suc (suc (suc (suc (suc zero)))))))) = refl
row_above (suc (suc (suc (suc (suc (suc (suc (suc (suc zero))))))))) = refl
row_above (suc (suc (suc (suc (suc (suc (suc (suc (suc (suc zero)))))))))) = refl
row_above (suc (suc (suc (suc (suc (suc (suc (suc (suc (suc (suc below))))))))))) = refl
