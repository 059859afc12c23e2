-- The marks of used borders: one for each border of the map, at its number. The borders that were
-- used are marked; a run marks those that it crosses.
use Rattle.std.specs.Prelude.{◌≡◌, ◌↔◌, ℕ, ◌+◌, Bool, true, false, ◌⊎◌, List, [], ◌∷◌, if◌then◌else◌, length, get_or}
use Rattle.std.specs.Prelude.{set}
use Rattle.legal_runs.specs.Legal.{map_borders}
use Rattle.reach.specs.Position.{IsAmong}

-- a border is used, by the marks of those that are
abbrev pub IsUsed : List Bool → ℕ → Type 0
IsUsed marks border = get_or marks border false ≡ true

-- the borders that are marked, if the first mark is that of this number
abbrev pub borders_from : ℕ → List Bool → List ℕ
borders_from number [] = []
borders_from number (mark ∷ marks) =
    if mark then number ∷ borders_from (number + 1) marks else borders_from (number + 1) marks

-- the borders that are marked
unfoldable pub borders_used : List Bool → List ℕ
borders_used marks = borders_from 0 marks

-- the marks, with more borders marked
abbrev pub marked : List Bool → List ℕ → List Bool
marked marks [] = marks
marked marks (border ∷ borders) = set (marked marks borders) border true

-- one mark for each border, and those of these borders are set
pub record MarksAre (used : List ℕ) (marks : List Bool) : Type 0 where
  pub for_each : length marks ≡ map_borders
  pub exact : (border : ℕ) → IsUsed marks border ↔ IsAmong border used

-- to the used borders these were added, and no others
abbrev pub AreAdded : List ℕ → List ℕ → List ℕ → Type 0
AreAdded borders old new = (border : ℕ) → IsAmong border new ↔ (IsAmong border borders ⊎ IsAmong border old)
