-- Spots by their numbers, and what is across a border.
use Rattle.std.proofs.Common.{◌≡◌, ℕ, ◌+◌, ◌*◌, ◌<◌, Option, Some, None, refl, ap, ◌∙◌, subst, arith, option_map}
use Rattle.map_tables.specs.Border.{neighbour_of}
use Rattle.map_tables.specs.Hex.{index_of}
use Rattle.map_tables.specs.Place.{joined_stop_of, joined_hex, stop_at, stop_index_of}
use Rattle.map_tables.specs.Side.{number_of, facing_of}
use Rattle.map_tables.specs.declared.hex.Hex.{Hex}
use Rattle.map_tables.specs.declared.place.Stop.{Stop}
use Rattle.map_tables.specs.declared.side.Side.{Side}
use Rattle.map_tables.specs.declared.track.TrackEnd.{TrackEnd}
use Rattle.map_tables.specs.declared.track.TrackEnd.TheVariants.{Side as AtSide, Stop as AtStop}
use Rattle.reach.specs.Position.{Position}
use Rattle.reach.specs.Lawful.{IsLawful}
use Rattle.reach.specs.Reached.{stop_order}
use Rattle.reach.specs.Search.{spot_number, number_at}
use Rattle.reach.specs.Walk.{spot_at, stop_at_end, across_end, stop_of, across}
use Rattle.reach.specs.declared.walk.Spot.{Spot}
use Rattle.reach.proofs.Hexes.{same_index, index_low, joined_twice, same_side, side_low, facing_twice, same_stop_index}
use Rattle.reach.proofs.Hexes.{stop_index_low}

-- eights and what is left of them
pub eights : (i j m n : ℕ) → m < 8 → n < 8 → 8 * i + m ≡ 8 * j + n → (i ≡ j) × (m ≡ n)
eights i j m n m_low n_low same = (omega arith, omega arith)

-- twos and what is left of them
twos : (i j m n : ℕ) → m < 2 → n < 2 → 2 * i + m ≡ 2 * j + n → (i ≡ j) × (m ≡ n)
twos i j m n m_low n_low same = (omega arith, omega arith)

-- one stop and one side lie at spots with one number
record AreOne (spot other : Spot) : Type 0 where
  pub stop : stop_of spot ≡ stop_of other
  pub across : across spot ≡ across other

one_number : (hex : Hex) (end : TrackEnd) (other : Hex) (other_end : TrackEnd) → number_at hex end ≡ number_at other other_end
    → AreOne (spot_at hex end) (spot_at other other_end)
one_number hex (AtSide side) other (AtSide other_side) same =
    let both : (index_of hex ≡ index_of other) × (number_of side ≡ number_of other_side) =
    eights (index_of hex) (index_of other) (number_of side) (number_of other_side) (omega (arith, side_low side))
    (omega (arith, side_low other_side)) same
    in record {
      stop = refl;
      across = ap (λ h. across_end h (AtSide side)) (same_index hex other both.0)
          ∙ ap (λ s. across_end other (AtSide s)) (same_side side other_side both.1);
    }
one_number hex (AtStop number) other (AtStop other_number) same =
    let both : (index_of (joined_hex hex) ≡ index_of (joined_hex other))
    × (6 + stop_index_of number ≡ 6 + stop_index_of other_number) =
    eights (index_of (joined_hex hex)) (index_of (joined_hex other)) (6 + stop_index_of number)
    (6 + stop_index_of other_number) (omega (arith, stop_index_low number))
    (omega (arith, stop_index_low other_number)) same
    in let hexes : joined_hex hex ≡ joined_hex other = same_index (joined_hex hex) (joined_hex other) both.0
    in let numbers : number ≡ other_number = same_stop_index number other_number (omega (arith, both.1))
    in record {
      stop = ap (λ h. Some (stop_at h number)) hexes
          ∙ ap (λ n. Some (stop_at (joined_hex other) n)) numbers;
      across = refl;
    }
one_number hex (AtSide side) other (AtStop number) same =
    absurd (omega (
      arith,
      (eights (index_of hex) (index_of (joined_hex other)) (number_of side)
          (6 + stop_index_of number) (omega (arith, side_low side)) (omega (arith, stop_index_low number)) same).1,
      side_low side,
    ))
one_number hex (AtStop number) other (AtSide side) same =
    absurd (omega (
      arith,
      (eights (index_of (joined_hex hex)) (index_of other) (6 + stop_index_of number)
          (number_of side) (omega (arith, stop_index_low number)) (omega (arith, side_low side)) same).1,
      side_low side,
    ))

-- ends of one hex with one number are one
pub one_end : (hex : Hex) (end other : TrackEnd) → number_at hex end ≡ number_at hex other → end ≡ other
one_end hex (AtSide side) (AtSide other) same = ap AtSide (same_side side other (omega (arith, same)))
one_end hex (AtStop number) (AtStop other) same = ap AtStop (same_stop_index number other (omega (arith, same)))
one_end hex (AtSide side) (AtStop number) same =
    absurd (omega (
      arith,
      (eights (index_of hex) (index_of (joined_hex hex)) (number_of side)
          (6 + stop_index_of number) (omega (arith, side_low side)) (omega (arith, stop_index_low number)) same).1,
      side_low side,
    ))
one_end hex (AtStop number) (AtSide side) same =
    absurd (omega (
      arith,
      (eights (index_of (joined_hex hex)) (index_of hex) (6 + stop_index_of number)
          (number_of side) (omega (arith, stop_index_low number)) (omega (arith, side_low side)) same).1,
      side_low side,
    ))

-- spots with one number are one stop, or one side
pub are_one : (spot other : Spot) → spot_number spot ≡ spot_number other
    → (stop_of spot ≡ stop_of other) × (across spot ≡ across other)
are_one spot other same = let one = one_number spot.hex spot.end other.hex other.end same in (one.stop, one.across)

number_of_stop : (hex : Hex) (end : TrackEnd) (stop : Stop) → stop_at_end hex end ≡ Some stop
    → number_at hex end ≡ 8 * index_of stop.hex + (6 + stop_index_of stop.number)
number_of_stop hex (AtSide side) stop is = cc
number_of_stop hex (AtStop number) stop is =
    let same : joined_stop_of (stop_at hex number) ≡ stop = cc in
    ap (λ (s : Stop). 8 * index_of s.hex + (6 + stop_index_of s.number)) same

-- a stop has one number
pub stop_number : (spot : Spot) (stop : Stop) → stop_of spot ≡ Some stop
    → spot_number spot ≡ 8 * index_of stop.hex + (6 + stop_index_of stop.number)
stop_number spot stop is = number_of_stop spot.hex spot.end stop is

names_end : (hex : Hex) (end : TrackEnd) (stop : Stop) → stop_at_end hex end ≡ Some stop → joined_stop_of stop ≡ stop
names_end hex (AtSide side) stop is = cc
names_end hex (AtStop number) stop is =
    let same : joined_stop_of (stop_at hex number) ≡ stop = cc in
    subst (λ s. joined_stop_of s ≡ s) same (joined_twice (stop_at hex number))

-- the stop at a spot is the one that names it
pub names_itself : (spot : Spot) (stop : Stop) → stop_of spot ≡ Some stop → joined_stop_of stop ≡ stop
names_itself spot stop is = names_end spot.hex spot.end stop is

-- stops with one place in the order of the map are one
pub same_order : (a b : Stop) → stop_order a ≡ stop_order b → a ≡ b
same_order a b same =
    let both : (index_of a.hex ≡ index_of b.hex) × (stop_index_of a.number ≡ stop_index_of b.number) =
    twos (index_of a.hex) (index_of b.hex) (stop_index_of a.number) (stop_index_of b.number) (stop_index_low a.number)
    (stop_index_low b.number) same
    in ap (λ h. stop_at h a.number) (same_index a.hex b.hex both.0)
    ∙ ap (λ n. stop_at b.hex n) (same_stop_index a.number b.number both.1)

-- each place in the order of the map is less than 186
pub order_low : (stop : Stop) → stop_order stop < 186
order_low stop = omega (arith, index_low stop.hex, stop_index_low stop.number)

-- the other side of a border, which is a side, and what is across from there
crossed : (other : Hex) (side : Side) (hex : Hex) (back : Option Hex) → back ≡ Some hex
    → option_map (λ h. spot_at h (AtSide (facing_of (facing_of side)))) back ≡ Some (spot_at hex (AtSide side))
crossed other side hex back is =
    ap (option_map (λ h. spot_at h (AtSide (facing_of (facing_of side))))) is
    ∙ ap (λ s. Some (spot_at hex (AtSide s))) (facing_twice side)

back_from : (position : Position) → IsLawful position → (hex : Hex) (side : Side) (found : Option Hex)
    → neighbour_of hex side ≡ found → (from : Spot)
    → option_map (λ h. spot_at h (AtSide (facing_of side))) found ≡ Some from
    → (across from ≡ Some (spot_at hex (AtSide side))) × (stop_of from ≡ None)
back_from position lawful hex side None is from same = cc
back_from position lawful hex side (Some other) is from same =
    let there : spot_at other (AtSide (facing_of side)) ≡ from = cc in
    subst (λ s. (across s ≡ Some (spot_at hex (AtSide side))) × (stop_of s ≡ None)) there
    (crossed other side hex (neighbour_of other (facing_of side)) (lawful.borders_pair hex side other is), refl)

back_end : (position : Position) → IsLawful position → (hex : Hex) (end : TrackEnd) (from : Spot)
    → across_end hex end ≡ Some from → (across from ≡ Some (spot_at hex end)) × (stop_of from ≡ None)
back_end position lawful hex (AtSide side) from is =
    back_from position lawful hex side (neighbour_of hex side) refl from is
back_end position lawful hex (AtStop number) from is = cc

-- from the other side of a border one comes back, and there is no stop
pub back : (position : Position) → IsLawful position → (spot from : Spot) → across spot ≡ Some from
    → (across from ≡ Some spot) × (stop_of from ≡ None)
back position lawful spot from is = back_end position lawful spot.hex spot.end from is
