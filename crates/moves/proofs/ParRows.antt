-- The rows of the par values, from the lowest row of the chart upwards.
use Rattle.std.proofs.Common.{◌≡◌, ◌++◌, ◌∷◌, [], ℕ, suc, ◌-◌, ◌<◌, List, Option, Some, map, flat_map, refl, sym, ap}
use Rattle.std.proofs.Common.{◌∙◌, subst, arith, add-one}
use Rattle.std.proofs.lemmas.Grind.{flat_map-append}
use Rattle.std.proofs.lemmas.List.{append-nil}
use Rattle.std.specs.Option.{option_to_list}
use Rattle.moves.proofs.RowLemmas.{rows_both}
use Rattle.tables.proofs.ParSquares.{row_above}
use Rattle.tables.specs.Chart.{par_value_of, par_values_from}

-- where the rows below are shown, those of a row with a par value come next
pub rows_above : {A B : Type 0} (f : A → B) (g : ℕ → List A) (row price : ℕ) (value : Option ℕ) (a b c : List B)
    → 0 < row → value ≡ par_value_of (row - 1) → value ≡ Some price
    → b ≡ a ++ map f (flat_map g (par_values_from row)) → c ≡ b ++ map f (g price)
    → c ≡ a ++ map f (flat_map g (par_values_from (row - 1)))
rows_above {A} f g row price value a b c some marks is below pushed =
    let above : suc (row - 1) ≡ row = sym (add-one (row - 1)) ∙ omega (arith, some) in
    let values : par_values_from (row - 1) ≡ par_values_from row ++ (price ∷ []) =
    row_above (row - 1) ∙ ap (λ (v : Option ℕ). par_values_from (suc (row - 1)) ++ option_to_list v) (sym marks ∙ is)
    ∙ ap (λ (r : ℕ). par_values_from r ++ (price ∷ [])) above in
    let parts : flat_map g (par_values_from (row - 1)) ≡ flat_map g (par_values_from row) ++ g price =
    ap (flat_map g) values ∙ rw (flat_map-append g (par_values_from row) (price ∷ []), append-nil (g price)) refl in
    subst (λ (l : List A). c ≡ a ++ map f l) (sym parts) (rows_both f (flat_map g (par_values_from row)) (g price) a b c below pushed)
