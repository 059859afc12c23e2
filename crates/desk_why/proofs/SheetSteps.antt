-- The lines of the sheets for a round, one after another.
use Rattle.std.proofs.Common.{◌≡◌, ℕ, zero, suc, ◌+◌, ◌-◌, ◌<◌, ◌≤◌, List, [], ◌∷◌, ◌++◌, map, take, ap, sym, ◌∙◌, append_assoc, refl, arith}
use Rattle.std.specs.List.{flat_map, range_with_len}
use Rattle.std.proofs.lemmas.Grind.{common_steps}
use Rattle.std.proofs.lemmas.List.{append-nil, map-append}
use Rattle.tables.proofs.OneMore.{more_numbers}
use Rattle.desk_why.specs.SheetLines.{PlacedLine, placed}
use Rattle.desk_why.specs.declared.sheet_line.SheetLine.{SheetLine}

-- the next line is kept, where fewer are kept so far
pub keeps : (was now : List SheetLine) (line : SheetLine) (left more all : List PlacedLine) (most count : ℕ)
    → count < most → map placed was ++ take (most - count) left ≡ all → left ≡ placed line ∷ more
    → now ≡ was ++ line ∷ [] → map placed now ++ take (most - (count + 1)) more ≡ all
keeps was now line left more all most count below before is added =
    let rest : ℕ = most - (count + 1) in
    let same : most - count ≡ suc rest = omega arith in
    ap (λ (lines : List SheetLine). map placed lines ++ take rest more) added
    ∙ ap (λ (lines : List PlacedLine). lines ++ take rest more) (map-append placed was (line ∷ []))
    ∙ append_assoc (map placed was) (placed line ∷ []) (take rest more)
    ∙ ap (λ (n : ℕ). map placed was ++ take n (placed line ∷ more)) (sym same)
    ∙ ap (λ (lines : List PlacedLine). map placed was ++ take (most - count) lines) (sym is)
    ∙ before

-- as many as there are of no lines
no_more : (n : ℕ) → take {A = PlacedLine} n [] ≡ []
no_more zero = refl
no_more (suc n) = refl

-- all are kept, where none is left
pub kept_all : (was : List SheetLine) (left all : List PlacedLine) (n : ℕ) → left ≡ []
    → map placed was ++ take n left ≡ all → map placed was ≡ all
kept_all was left all n none before =
    sym (append-nil (map placed was))
    ∙ ap (λ (lines : List PlacedLine). map placed was ++ lines) (sym (no_more n))
    ∙ ap (λ (lines : List PlacedLine). map placed was ++ take n lines) (sym none)
    ∙ before

-- as many are kept as may be
pub kept_most : (was : List SheetLine) (left all : List PlacedLine) (most count : ℕ) → most ≤ count
    → map placed was ++ take (most - count) left ≡ all → map placed was ≡ all
kept_most was left all most count over before =
    let none : most - count ≡ 0 = omega arith in
    sym (append-nil (map placed was))
    ∙ ap (λ (n : ℕ). map placed was ++ take n left) (sym none)
    ∙ before

-- the lines of one more seat are added to those of the first n
pub more_seats : (f : ℕ → List PlacedLine) (n : ℕ) (was now : List PlacedLine) → was ≡ flat_map f (range_with_len 0 n)
    → now ≡ was ++ f n → now ≡ flat_map f (range_with_len 0 (n + 1))
more_seats f n was now before after = grind (arith, common_steps, more_numbers f 0 n)
