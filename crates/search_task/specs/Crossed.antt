-- Borders that a segment of track crosses, by their numbers, and which numbers are marked in a set.
use Rattle.std.specs.Prelude.{ℕ, suc, Bool, true, false, Option, None, Some, List, [], ◌∷◌, not, get_or, set}
use Rattle.reach.specs.Position.{IsAmong}
use Rattle.std.specs.List.{list_any}

pub record Crossed : Type 0 where
  pub items : List ℕ

-- a number, if it is marked, before others
abbrev pub before_if : Bool → ℕ → List ℕ → List ℕ
before_if true number numbers = number ∷ numbers
before_if false number numbers = numbers

-- the numbers that are marked in a set, in order, if the first mark is that of a number
abbrev pub numbers_from : ℕ → List Bool → List ℕ
numbers_from first [] = []
numbers_from first (mark ∷ marks) = before_if mark first (numbers_from (suc first) marks)

unfoldable pub numbers_in : List Bool → List ℕ
numbers_in marks = numbers_from 0 marks

-- a border that is one of some and of others; none if there is no such border
abbrev pub IsShared : List ℕ → List ℕ → Option ℕ → Type 0
IsShared borders others (Some border) = IsAmong border borders × IsAmong border others
IsShared borders others None = (border : ℕ) → IsAmong border borders → IsAmong border others → ⊥

-- the marks of some borders are removed
abbrev pub cleared_all : List Bool → List ℕ → List Bool
cleared_all marks [] = marks
cleared_all marks (border ∷ borders) = cleared_all (set marks border false) borders

-- no border of some is used
abbrev pub misses : List Bool → List ℕ → Bool
misses used borders = not (list_any (λ border. get_or used border false) borders)

-- the used borders, with more
abbrev pub marked_all : List Bool → List ℕ → List Bool
marked_all used [] = used
marked_all used (border ∷ borders) = marked_all (set used border true) borders
