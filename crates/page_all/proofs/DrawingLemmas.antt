-- The numbers of drawings.
use Rattle.std.proofs.Common.{◌≡◌, ℕ, ◌<◌, List, [], ◌∷◌, ◌++◌, length, map, get_or, refl, ap, ◌∙◌}
use Rattle.std.specs.Prelude.{Some, option_map, slice_get}
use Rattle.std.proofs.lemmas.Option.{slice_get-get_or, slice_get-map}
use Rattle.markup.specs.Part.{part_text}
use Rattle.markup.specs.declared.part.Part.{Part}
use Rattle.page_all.specs.Drawings.{IsNumberOf}

-- the last element of a list
last_of : {X : Type 0} (xs : List X) (x : X) → slice_get (xs ++ x ∷ []) (length xs) ≡ Some x
last_of [] x = refl
last_of (first ∷ xs) x = last_of xs x

-- a drawing that is added has the number of those before it
pub last_number : (old new : List Part) (part : Part) → new ≡ old ++ part ∷ [] → IsNumberOf new part (length old)
last_number old new part is =
    ap (λ (parts : List Part). slice_get (map part_text parts) (length old)) is
    ∙ (slice_get-map part_text (old ++ part ∷ []) (length old)
    ∙ ap (option_map part_text) (last_of old part))

-- a drawing with the text of a part has its number
pub found_number : (parts : List Part) (place : ℕ) (d part : Part) → place < length parts
    → part_text (get_or parts place d) ≡ part_text part → IsNumberOf parts part place
found_number parts place d part within same =
    slice_get-map part_text parts place
    ∙ (ap (option_map part_text) (slice_get-get_or parts place d within)
    ∙ ap (λ (text : List ℕ). Some text) same)
