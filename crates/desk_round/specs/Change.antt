-- How a sum changed between two states of a game.
use Rattle.std.specs.Prelude.{ℤ, if◌then◌else◌, Option, Some, None}
use Rattle.std.specs.Ordering.{int_eq}
use Rattle.desk_round.specs.declared.changes.Change.{Change}

-- from one sum to another; none if they are equal
abbrev pub change_of : ℤ → ℤ → Option Change
change_of before after =
    if int_eq before after then None else Some (record { before = before; after = after })
