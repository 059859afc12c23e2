-- What the tables of what a train brings have in common with the rules: a kind rusts with another,
-- and a colour may be laid from a kind on, exactly if the rules say so.
use Rattle.std.specs.Prelude.{◌≡◌, true, false, Some}
use Rattle.board.specs.LayRules.{is_colour_closed}
use Rattle.desk_dues.specs.NextKind.{colour_opened_by, kind_after, rusted_with}
use Rattle.map_tables.specs.declared.tiles.Colour.{Colour}
use Rattle.tables.specs.Train.{rusting_of}
use Rattle.tables.specs.declared.rolling_stock.Kind.{Kind}

-- the trains that rust with the first train of a kind are those of which the rules say so
abbrev pub RustsAsRuled : Type 0
RustsAsRuled = (new kind : Kind) → rusted_with new ≡ Some kind → rusting_of kind ≡ Some new

-- and no other
abbrev pub RustsNoOther : Type 0
RustsNoOther = (new kind : Kind) → rusting_of kind ≡ Some new → rusted_with new ≡ Some kind

-- a colour that may be laid from the first train of the next kind on may not be laid before it
pub record TilesOpenAsRuled (phase new : Kind) (colour : Colour) : Type 0 where
  pub before : is_colour_closed phase colour ≡ true
  pub after : is_colour_closed new colour ≡ false

-- each colour that is said to open does
abbrev pub ColoursOpen : Type 0
ColoursOpen =
    (phase new : Kind) (colour : Colour) → kind_after phase ≡ Some new → colour_opened_by new ≡ Some colour
    → TilesOpenAsRuled phase new colour

-- and no other
abbrev pub NoOtherOpens : Type 0
NoOtherOpens =
    (phase new : Kind) (colour : Colour) → kind_after phase ≡ Some new → TilesOpenAsRuled phase new colour
    → colour_opened_by new ≡ Some colour
