-- A table of the links of all hexes, filled hex by hex.
use Rattle.std.proofs.Common.{◌≡◌, ℕ, ◌+◌, ◌<◌, List, [], ◌∷◌, ◌++◌, length, get_or, map, take, ap, sym, ◌∙◌, arith}
use Rattle.std.proofs.lemmas.List.{get_or-map, map-append, take_more}
use Rattle.map_tables.specs.Hex.{hexes, index_of}
use Rattle.map_tables.specs.declared.hex.Hex.{Hex}
use Rattle.map_tables.specs.declared.hex.Hex.TheVariants.{A9}
use Rattle.reach.proofs.Hexes.{index_low}
use Rattle.map_tables.proofs.HexTables.{hex_at_index}
use Rattle.map_tables.proofs.ListedOnce.{hexes_are_93}

-- one more entry is that of one more key
pub more_entries : {X Y Z : Type 0} (f : X → Z) (g : Y → Z) (xs : List X) (x : X) (ys : List Y) (n : ℕ) (d : Y)
    → n < length ys → map f xs ≡ map g (take n ys) → f x ≡ g (get_or ys n d)
    → map f (xs ++ x ∷ []) ≡ map g (take (n + 1) ys)
more_entries f g xs x ys n d below before is =
    map-append f xs (x ∷ [])
    ∙ (ap (λ l. l ++ f x ∷ []) before ∙ (ap (λ y. map g (take n ys) ++ y ∷ []) is
    ∙ (sym (map-append g (take n ys) (get_or ys n d ∷ [])) ∙ ap (map g) (sym (take_more ys n d below)))))

-- the entry of a hex has its links
pub entry_of : {X Y : Type 0} (f : X → List Y) (g : Hex → List Y) (table : List X) (hex : Hex) (d : X)
    → map f table ≡ map g hexes → length table ≡ 93 → f (get_or table (index_of hex) d) ≡ g hex
entry_of {X} {Y} f g table hex d are whole =
    let low : index_of hex < length table = omega (arith, index_low hex, whole) in
    let here : index_of hex < length hexes = omega (arith, index_low hex, hexes_are_93) in
    sym (get_or-map f table (index_of hex) d [] low)
    ∙ (ap (λ (l : List (List Y)). get_or l (index_of hex) []) are
    ∙ (get_or-map g hexes (index_of hex) A9 [] here ∙ ap g (hex_at_index hex)))
