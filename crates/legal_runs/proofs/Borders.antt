-- A number is one border's: it is that of the one of its two sides that looks to the west.
use Rattle.std.proofs.Common.{◌≡◌, ℕ, ◌+◌, ◌*◌, ◌<◌, inl, inr, Some, option_map, refl, ap, sym, ◌∙◌, arith}
use Rattle.map_tables.specs.Border.{neighbour_of}
use Rattle.map_tables.specs.Hex.{index_of}
use Rattle.map_tables.specs.Laws.{NeighboursPair}
use Rattle.map_tables.specs.Side.{facing_of, number_of}
use Rattle.map_tables.specs.declared.hex.Hex.{Hex}
use Rattle.map_tables.specs.declared.side.Side.{Side}
use Rattle.map_tables.specs.declared.side.Side.TheVariants.{SouthWest, West, NorthWest, NorthEast, East, SouthEast}
use Rattle.map_tables.specs.declared.track.TrackEnd.{TrackEnd}
use Rattle.map_tables.specs.declared.track.TrackEnd.TheVariants.{Side as AtSide, Stop as AtStop}
use Rattle.reach.specs.Walk.{across, spot_at}
use Rattle.reach.specs.declared.walk.Spot.{Spot}
use Rattle.reach.proofs.Hexes.{facing_twice, same_index, same_side}
use Rattle.legal_runs.specs.Law.{AreSidesOfOneBorder, BordersHaveOwnNumbers}
use Rattle.legal_runs.specs.Legal.{border_beyond, border_of}

-- a side at a border has a number by itself, or by the side that faces it
data Numbered (hex next : Hex) (side : Side) : Type 0 where
  near : number_of side < 3 → border_of hex side ≡ 3 * index_of hex + number_of side → Numbered hex next side
  far : number_of (facing_of side) < 3 → border_of hex side ≡ 3 * index_of next + number_of (facing_of side)
      → Numbered hex next side

numbered : (hex next : Hex) (side : Side) → neighbour_of hex side ≡ Some next → Numbered hex next side
unfolding border_of
numbered hex next NorthEast is = far (omega arith) (ap (border_beyond 0) is)
numbered hex next East is = far (omega arith) (ap (border_beyond 1) is)
numbered hex next SouthEast is = far (omega arith) (ap (border_beyond 2) is)
numbered hex next other is = near (omega arith) refl

-- a number has a hex and one of three sides
hex_half : (a b x y : ℕ) → 3 * a + x ≡ 3 * b + y → x < 3 → y < 3 → a ≡ b
hex_half a b x y same low below = omega arith

side_half : (a b x y : ℕ) → 3 * a + x ≡ 3 * b + y → a ≡ b → x ≡ y
side_half a b x y same is = omega arith

one_spot : (hex other : Hex) (side way : Side) → number_of side < 3 → number_of way < 3
    → 3 * index_of hex + number_of side ≡ 3 * index_of other + number_of way
    → spot_at hex (AtSide side) ≡ spot_at other (AtSide way)
one_spot hex other side way low below same =
    let half : index_of hex ≡ index_of other = hex_half (index_of hex) (index_of other) (number_of side)
    (number_of way) same low below in
    ap (λ (h : Hex). spot_at h (AtSide side)) (same_index hex other half)
    ∙ ap (λ (s : Side). spot_at other (AtSide s)) (same_side side way
    (side_half (index_of hex) (index_of other) (number_of side) (number_of way) same half))

-- the other side of a border
across_is : (hex next : Hex) (side : Side) → neighbour_of hex side ≡ Some next
    → across (spot_at hex (AtSide side)) ≡ Some (spot_at next (AtSide (facing_of side)))
across_is hex next side is = ap (option_map (λ other. spot_at other (AtSide (facing_of side)))) is

back_is : NeighboursPair → (hex next : Hex) (side : Side) → neighbour_of hex side ≡ Some next
    → across (spot_at next (AtSide (facing_of side))) ≡ Some (spot_at hex (AtSide side))
back_is pair hex next side is =
    across_is next hex (facing_of side) (pair hex side next is)
    ∙ ap (λ (s : Side). Some (spot_at hex (AtSide s))) (facing_twice side)

-- two sides with one number are sides of one border
one_border : NeighboursPair → (hex other next beyond : Hex) (side way : Side) → neighbour_of hex side ≡ Some next
    → neighbour_of other way ≡ Some beyond → Numbered hex next side → Numbered other beyond way
    → border_of hex side ≡ border_of other way → AreSidesOfOneBorder (spot_at hex (AtSide side))
    (spot_at other (AtSide way))
one_border pair hex other next beyond side way is also (near low number) (near below value) same =
    inl (one_spot hex other side way low below (sym number ∙ same ∙ value))
one_border pair hex other next beyond side way is also (near low number) (far below value) same =
    inr (ap across (one_spot hex beyond side (facing_of way) low below (sym number ∙ same ∙ value))
    ∙ back_is pair other beyond way also)
one_border pair hex other next beyond side way is also (far low number) (near below value) same =
    inr (across_is hex next side is ∙ ap Some (one_spot next other (facing_of side) way low below
    (sym number ∙ same ∙ value)))
one_border pair hex other next beyond side way is also (far low number) (far below value) same =
    let facing : spot_at next (AtSide (facing_of side)) ≡ spot_at beyond (AtSide (facing_of way)) =
    one_spot next beyond (facing_of side) (facing_of way) low below (sym number ∙ same ∙ value) in
    let both : Some (spot_at hex (AtSide side)) ≡ Some (spot_at other (AtSide way)) =
    sym (back_is pair hex next side is) ∙ ap across facing ∙ back_is pair other beyond way also in
    inl (let one : spot_at hex (AtSide side) ≡ spot_at other (AtSide way) = cc in one)

-- a side and the side that faces it have one number
pub faced : (hex next : Hex) (side : Side) → neighbour_of hex side ≡ Some next
    → neighbour_of next (facing_of side) ≡ Some hex → border_of hex side ≡ border_of next (facing_of side)
unfolding border_of
faced hex next SouthWest is back = sym (ap (border_beyond 0) back)
faced hex next West is back = sym (ap (border_beyond 1) back)
faced hex next NorthWest is back = sym (ap (border_beyond 2) back)
faced hex next NorthEast is back = ap (border_beyond 0) is
faced hex next East is back = ap (border_beyond 1) is
faced hex next SouthEast is back = ap (border_beyond 2) is

-- the number of the border at an end
abbrev number_at : Hex → TrackEnd → ℕ
number_at hex (AtSide side) = border_of hex side
number_at hex (AtStop number) = 0

one_number : (hex other : Hex) (side way : Side) → spot_at hex (AtSide side) ≡ spot_at other (AtSide way)
    → border_of hex side ≡ border_of other way
one_number hex other side way is = ap (λ (spot : Spot). number_at spot.hex spot.end) is

-- each border has a number of its own
pub own_numbers : NeighboursPair → BordersHaveOwnNumbers
own_numbers pair hex other next beyond side way is also = (
  one_border pair hex other next beyond side way is also (numbered hex next side is)
      (numbered other beyond way also),
  by_sides,
)
  where
    by_sides : AreSidesOfOneBorder (spot_at hex (AtSide side)) (spot_at other (AtSide way))
        → border_of hex side ≡ border_of other way
    by_sides (inl one) = grind arith
    by_sides (inr over) =
        let there : Some (spot_at next (AtSide (facing_of side))) ≡ Some (spot_at other (AtSide way)) =
        sym (across_is hex next side is) ∙ over in
        let same : spot_at next (AtSide (facing_of side)) ≡ spot_at other (AtSide way) = cc in
        faced hex next side is (pair hex side next is) ∙ one_number next other (facing_of side) way same
