-- A piece of a hex is reached exactly if an end of the hex is marked.
use Rattle.std.proofs.Common.{◌≡◌, ap, sym, subst, refl, ℕ, zero, suc, ◌+◌, ◌*◌, ◌<◌, Bool, true, false, Some, None}
use Rattle.std.proofs.Common.{inl, inr, List, ◌∷◌, get_or, arith}
use Rattle.map_tables.specs.Hex.{index_of}
use Rattle.map_tables.specs.Place.{joined_hex, stop_at, stop_index_of}
use Rattle.map_tables.specs.Side.{number_of}
use Rattle.map_tables.specs.declared.hex.Hex.{Hex}
use Rattle.map_tables.specs.declared.place.StopNumber.TheVariants.{First, Second}
use Rattle.map_tables.specs.declared.side.Side.{Side}
use Rattle.map_tables.specs.declared.side.Side.TheVariants.{SouthWest, West, NorthWest, NorthEast, East, SouthEast}
use Rattle.map_tables.specs.declared.track.TrackEnd.{TrackEnd}
use Rattle.map_tables.specs.declared.track.TrackEnd.TheVariants.{Side as AtSide, Stop as AtStop}
use Rattle.map_tables.specs.declared.track.Link.{Link}
use Rattle.reach.specs.Lawful.{IsLawful}
use Rattle.reach.specs.Pieces.{HasEnd, ReachesIn}
use Rattle.reach.specs.Position.{IsAmong, Position, links_of}
use Rattle.reach.specs.Search.{AllArrive, Arrives, CanTake, HasAllTokens, IsClosed, IsMarked, number_at}
use Rattle.reach.specs.Walk.{IsTrack, left_at, spot_at}
use Rattle.reach.proofs.Collected.{lies_there}
use Rattle.reach.proofs.Hexes.{same_index, side_low, stop_index_low}
use Rattle.reach.proofs.Reaching.{link_marked, marked_stop, stop_marked, stop_reached}
use Rattle.reach.proofs.Spots.{eights}
use Rattle.tables.specs.declared.roster.Company.{Company}

-- an end of a hex by its number
end_at : ℕ → TrackEnd
end_at zero = AtSide SouthWest
end_at (suc zero) = AtSide West
end_at (suc (suc zero)) = AtSide NorthWest
end_at (suc (suc (suc zero))) = AtSide NorthEast
end_at (suc (suc (suc (suc zero)))) = AtSide East
end_at (suc (suc (suc (suc (suc zero))))) = AtSide SouthEast
end_at (suc (suc (suc (suc (suc (suc zero)))))) = AtStop First
end_at (suc (suc (suc (suc (suc (suc (suc n))))))) = AtStop Second

-- it has that number
end_number : (hex : Hex) (number : ℕ) → joined_hex hex ≡ hex → number < 8
    → number_at hex (end_at number) ≡ 8 * index_of hex + number
unfolding end_at
end_number hex zero own low = refl
end_number hex (suc zero) own low = refl
end_number hex (suc (suc zero)) own low = refl
end_number hex (suc (suc (suc zero))) own low = refl
end_number hex (suc (suc (suc (suc zero)))) own low = refl
end_number hex (suc (suc (suc (suc (suc zero))))) own low = refl
end_number hex (suc (suc (suc (suc (suc (suc zero)))))) own low = ap (λ h. 8 * index_of h + 6) own
end_number hex (suc (suc (suc (suc (suc (suc (suc zero))))))) own low = ap (λ h. 8 * index_of h + 7) own
end_number hex (suc (suc (suc (suc (suc (suc (suc (suc n)))))))) own low = absurd (omega arith)

-- a marked end of a hex has a number
has_number : (marks : List Bool) (hex : Hex) (end : TrackEnd) → joined_hex hex ≡ hex → IsMarked marks (spot_at hex end)
    → HasEnd marks hex
has_number marks hex (AtSide side) own marked = (number_of side, omega (arith, side_low side), marked)
has_number marks hex (AtStop number) own marked = (
  6 + stop_index_of number,
  omega (arith, stop_index_low number),
  subst (λ h. get_or marks (8 * index_of h + (6 + stop_index_of number)) false ≡ true) own marked,
)

-- a spot with the number of a side lies in its hex
side_there : (hex other : Hex) (side : Side) (end : TrackEnd) → number_at other end ≡ 8 * index_of hex + number_of side
    → other ≡ hex
side_there hex other side (AtSide from) same =
    same_index other hex (eights (index_of other) (index_of hex) (number_of from) (number_of side)
    (omega (arith, side_low from)) (omega (arith, side_low side)) same).0
side_there hex other side (AtStop number) same =
    absurd (omega (
      arith,
      (eights (index_of (joined_hex other)) (index_of hex) (6 + stop_index_of number) (number_of side)
          (omega (arith, stop_index_low number)) (omega (arith, side_low side)) same).1,
      side_low side,
    ))

module _ (position : Position) (company : Company) (lawful : IsLawful position) (marks : List Bool)
    (arrive : AllArrive position company marks) (tokens : HasAllTokens position company marks)
    (closed : IsClosed position company (IsTrack position) marks) (hex : Hex) (own : joined_hex hex ≡ hex) where
  -- a walk that arrives at a side of the hex took a link of it
  by_side : (side : Side) → Arrives position company (spot_at hex (AtSide side)) → ReachesIn position company hex
  by_side side (inl here) = absurd (let nowhere : None ≡ Some here.0 = here.1 in let no : ⊥ = cc in no)
  by_side side (inr came) =
      let there : came.0.link.hex ≡ hex = side_there hex came.0.link.hex side (left_at came.0).end came.3 in
      inl (
        came.0.link,
        subst (λ h. IsAmong came.0.link (links_of position h)) there came.2.walk.0,
        (came.0 ∷ came.1, came.2, inl refl),
      )

  -- a marked end of the hex is that of a piece that is reached
  by_end : (end : TrackEnd) → IsMarked marks (spot_at hex end) → ReachesIn position company hex
  by_end (AtSide side) marked = by_side side (arrive (spot_at hex (AtSide side)) marked)
  by_end (AtStop number) marked =
      inr (
        number,
        stop_reached position company lawful marks arrive tokens closed (stop_at hex number)
            (marked_stop marks (spot_at hex (AtStop number)) (stop_at hex number)
            (ap (λ h. Some (stop_at h number)) own) marked),
      )

  pub hex_reached : HasEnd marks hex → ReachesIn position company hex
  hex_reached (number, low, marked) =
      by_end (end_at number)
      (subst (λ n. get_or marks n false ≡ true) (sym (end_number hex number own low)) marked)

  -- a link of the hex that may be taken leads to a marked end
  by_link : (link : Link) → link.hex ≡ hex → CanTake position company marks link → HasEnd marks hex
  by_link link there can =
      elim can.1 [
        | inl first ↦ has_number marks hex link.b own (subst (λ h. IsMarked marks (spot_at h link.b)) there
            (closed (record { link = link; turned = false }) can.0 first))
        | inr second ↦ has_number marks hex link.a own (subst (λ h. IsMarked marks (spot_at h link.a)) there
            (closed (record { link = link; turned = true }) can.0 second))
      ]

  pub hex_marked : ReachesIn position company hex → HasEnd marks hex
  hex_marked (inl (link, among, reaches)) =
      by_link link (lies_there hex (links_of position hex) link (lawful.links hex).here among)
      (link_marked position company lawful marks arrive tokens closed link reaches)
  hex_marked (inr (number, reaches)) =
      has_number marks hex (AtStop number) own
      (stop_marked position company lawful marks arrive tokens closed (stop_at hex number) reaches).1
