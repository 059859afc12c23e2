-- The places of a run as the code reads them: those so far, and the words to come.
use Rattle.std.proofs.Common.{◌≡◌, ℕ, ◌+◌, ◌≤◌, List, ◌++◌, Option, Some, None}
use Rattle.std.proofs.Common.{length}
use Rattle.map_tables.specs.declared.place.Place.{Place}
use Rattle.order_grammar.specs.Form.{places_reading}

-- places so far before those to come
abbrev pub places_with : List Place → Option (List Place) → Option (List Place)
places_with so_far (Some places) = Some (so_far ++ places)
places_with so_far None = None

-- what is known of the places so far
pub record ArePlacesSoFar (so_far : List Place) (rest words : List (List ℕ)) : Type 0 where
  pub size : length words ≡ length so_far + length rest
  pub places : places_with so_far (places_reading rest) ≡ places_reading words
  pub few : length so_far ≤ 280
