-- A position as it is laid out: what leads from each spot are the steps of walks, and all numbers
-- are within bounds.
use Rattle.std.proofs.Common.{◌≡◌, ℕ, zero, suc, ◌%◌, ◌<◌, true, false, inl, inr, Option, Some, None, List, [], ◌∷◌}
use Rattle.std.proofs.Common.{length, slice_get, refl, sym, ap, subst, ◌∙◌, arith, option_map}
use Rattle.std.proofs.lemmas.Option.{slice_get_within}
use Rattle.map_tables.specs.Place.{joined_stop_of, stop_at}
use Rattle.map_tables.specs.declared.hex.Hex.{Hex}
use Rattle.map_tables.specs.declared.place.Stop.{Stop}
use Rattle.map_tables.specs.declared.place.StopNumber.{StopNumber}
use Rattle.map_tables.specs.declared.track.TrackEnd.{TrackEnd}
use Rattle.map_tables.specs.declared.track.TrackEnd.TheVariants.{Side as AtSide, Stop as AtStop}
use Rattle.reach.specs.Lawful.{IsLawful}
use Rattle.reach.specs.Position.{Position, IsAmong}
use Rattle.reach.specs.Search.{spot_number, number_at}
use Rattle.reach.specs.Walk.{AreJoined, IsTrack, across_end, entered_at, left_at, spot_at, stop_at_end, stop_of}
use Rattle.reach.specs.declared.walk.Spot.{Spot}
use Rattle.reach.specs.declared.walk.WalkStep.{WalkStep}
use Rattle.reach.proofs.Spots.{back, are_one, stop_number}
use Rattle.tables.specs.declared.rolling_stock.Kind.{Kind}
use Rattle.tables.specs.declared.roster.Company.{Company}
use Rattle.legal_runs.specs.Legal.{border_at}
use Rattle.legal_runs.proofs.Written.{ordered, stop_to_stop}
use Rattle.reach.proofs.Hexes.{index_low, side_low, stop_index_low}
use Rattle.legal_runs.proofs.TallyOfWalk.{border_low}
use Rattle.search_task.specs.declared.task.Node.{Node}
use Rattle.search_task.specs.declared.task.Segment.{Segment}
use Rattle.search_task.specs.declared.task.Task.{Task}
use Rattle.search_task.specs.Described.{AreNumbered, AreSegments, AreSteps, ComesFrom, Describes, GoesFrom}
use Rattle.search_task.specs.Described.{HasSegmentOf, IsNodeAt, IsNumbered, IsOfStep, IsSideNode, IsStepFrom}
use Rattle.search_task.specs.Described.{IsStopNode, most_of_all, number_before}
use Rattle.search_task.specs.Fit.{BordersFit, IsFit, IsSide, SegmentFits}
use Rattle.search_task.specs.Spots.{LeadsFrom, node_at, own_in, segments_at, stop_in}

-- the border of an end has a number below 279
pub border_fits : (hex : Hex) (end : TrackEnd) → BordersFit (border_at hex end)
border_fits hex (AtSide side) = (border_low hex side, tt)
border_fits hex (AtStop number) = tt

-- a spot has a number below 744
pub spot_low : (spot : Spot) → spot_number spot < 744
spot_low spot = end_low spot.hex spot.end
  where
    end_low : (hex : Hex) (end : TrackEnd) → number_at hex end < 744
    end_low hex (AtSide side) = omega (arith, index_low hex, side_low side)
    end_low hex (AtStop number) = omega (
      arith,
      index_low (joined_stop_of (stop_at hex number)).hex,
      stop_index_low
          number,
    )

-- two spots of stops with one number are one stop
pub same_spot : (spot other : Spot) (stop there : Stop) → stop_of spot ≡ Some stop → stop_of other ≡ Some there
    → spot_number spot ≡ spot_number other → stop ≡ there
same_spot spot other stop there is at same =
    let e : Some stop ≡ Some there = sym is ∙ ((are_one spot other same).0 ∙ at) in cc

pub one_number : (spot other : Spot) (stop : Stop) → stop_of spot ≡ Some stop → stop_of other ≡ Some stop
    → spot_number spot ≡ spot_number other
one_number spot other stop is at = stop_number spot stop is ∙ sym (stop_number other stop at)

-- what is at a place is among a list
pub among_place : {A : Type 0} (xs : List A) (i : ℕ) (x : A) → slice_get xs i ≡ Some x → IsAmong x xs
among_place [] i x is = absurd (omega (arith, slice_get_within [] i x is))
among_place (y ∷ ys) zero x is = inl (let same : y ≡ x = cc in same)
among_place (y ∷ ys) (suc i) x is = inr (among_place ys i x is)

-- what is among a list has a place
pub place_among : {A : Type 0} (xs : List A) (x : A) → IsAmong x xs → (i : ℕ) × (slice_get xs i ≡ Some x)
place_among [] x among = absurd among
place_among (y ∷ ys) x (inl is) = (0, ap (λ z. Some z) is)
place_among (y ∷ ys) x (inr later) = let rest = place_among ys x later in (suc rest.0, rest.1)

-- the spot from which a step is taken
from_end : (hex : Hex) (end : TrackEnd) (number : ℕ) → number_before hex end ≡ Some number → (position : Position)
    → IsLawful position → (spot : Spot) × (spot_number spot ≡ number) × AreJoined spot (spot_at hex end)
from_end hex (AtStop place) number is position lawful =
    let same : spot_number (spot_at hex (AtStop place)) ≡ number = cc in
    (spot_at hex (AtStop place), same, inl (joined_stop_of (stop_at hex place), refl, refl))
from_end hex (AtSide side) number is position lawful = by_across (across_end hex (AtSide side)) refl is
  where
    by_across : (found : Option Spot) → across_end hex (AtSide side) ≡ found
        → option_map spot_number found ≡ Some number → (spot : Spot) × (spot_number spot ≡ number)
        × AreJoined spot (spot_at hex (AtSide side))
    by_across None there same = absurd cc
    by_across (Some from) there same =
        let number_is : spot_number from ≡ number = cc in
        (from, number_is, inr (back position lawful (spot_at hex (AtSide side)) from there).0)

to_end : (position : Position) → IsLawful position → (hex : Hex) (end : TrackEnd) (spot : Spot)
    → AreJoined spot (spot_at hex end) → number_before hex end ≡ Some (spot_number spot)
to_end position lawful hex (AtStop place) spot joined =
    elim joined [
      | inl same ↦ ap (λ n. Some n) (one_number (spot_at hex (AtStop place)) spot same.0 same.2 same.1)
      | inr over ↦ absurd (let none : Some (joined_stop_of (stop_at hex place)) ≡ None =
          (back position lawful spot (spot_at hex (AtStop place)) over).1 in cc)
    ]
to_end position lawful hex (AtSide side) spot joined =
    elim joined [
      | inl same ↦ absurd (let wrong : None ≡ Some same.0 = same.2 in cc)
      | inr over ↦ ap (option_map spot_number) (back position lawful spot (spot_at hex (AtSide side)) over).0
    ]

module _ (position : Position) (company : Company) (lawful : IsLawful position) (kinds : List Kind)
    (steps : List WalkStep) (are_steps : AreSteps position steps) (task : Task)
    (numbered : AreNumbered position company task.spots.items) (segments : AreSegments steps task.segments) where
  -- the node at a number, and what it is
  node_there : (number : ℕ) → number < 744 → (node : Node) × (node_at task number ≡ Some node)
      × IsNumbered position company number node
  node_there number low = by_found (node_at task number) refl
    where
      none_there : (nodes : List Node) (i : ℕ) → i < length nodes → slice_get nodes i ≡ None → ⊥
      none_there [] i less is = absurd (omega arith)
      none_there (node ∷ nodes) zero less is = cc
      none_there (node ∷ nodes) (suc i) less is = none_there nodes i (omega arith) is

      by_found : (found : Option Node) → node_at task number ≡ found
          → (node : Node) × (node_at task number ≡ Some node) × IsNumbered position company number node
      by_found (Some node) is = (node, is, numbered.each number node is)
      by_found None is = absurd (none_there task.spots.items number (omega (arith, numbered.all)) is)

  -- each spot is at its number
  spot_there : (spot : Spot) → IsNodeAt position company (stop_of spot) (node_at task (spot_number spot))
  spot_there spot =
      let there = node_there (spot_number spot) (spot_low spot) in
      subst (IsNodeAt position company (stop_of spot)) (sym there.1) (there.2.spot spot refl)

  sound_there : (number index : ℕ) (segment : Segment) → LeadsFrom task number index segment
      → IsStepFrom position number segment
  sound_there number index segment leads =
      let of : IsOfStep number steps segment = (segments number).sound segment
      (among_place (segments_at task number) index segment leads) in
      let from = from_end (entered_at of.step).hex (entered_at of.step).end number of.comes position lawful in
      record {
        step = of.step;
        track = (are_steps of.step).0 of.among;
        goes = record { spot = from.0; number_is = from.1; joined = from.2 };
        segment_is = of.segment_is;
      }

  complete_there : (number : ℕ) (step : WalkStep) → IsTrack position step → GoesFrom number step
      → HasSegmentOf task number step
  complete_there number step track goes =
      let comes : ComesFrom number step = to_end position lawful (entered_at step).hex (entered_at step).end goes.spot
      goes.joined ∙ ap (λ n. Some n) goes.number_is in
      let has = (segments number).complete step ((are_steps step).1 track) comes in
      let place = place_among (segments_at task number) has.segment has.among in
      record {
        index = place.0;
        segment = has.segment;
        leads = place.1;
        segment_is = has.segment_is;
      }

  pub describes_it : task.trains.items ≡ most_of_all kinds → Describes position company kinds task
  describes_it trains = record { spots = spot_there; sound = sound_there; complete = complete_there; trains = trains }

  -- an end that is left is a side where a stop is entered
  side_left : (step : WalkStep) → IsTrack position step → (stop : Stop) → stop_of (entered_at step) ≡ Some stop
      → stop_of (left_at step) ≡ None
  side_left step track stop there = by_ends (entered_at step).end (left_at step).end
      (λ n m enters leaves. stop_to_stop step.link step.turned n m (ordered position lawful step track) enters leaves)
      there
    where
      by_ends : (enters leaves : TrackEnd) → ((n m : StopNumber) → enters ≡ AtStop n → leaves ≡ AtStop m → ⊥)
          → stop_at_end step.link.hex enters ≡ Some stop → stop_at_end step.link.hex leaves ≡ None
      by_ends (AtSide side) leaves apart is = absurd cc
      by_ends (AtStop n) (AtSide side) apart is = refl
      by_ends (AtStop n) (AtStop m) apart is = absurd (apart n m refl refl)

  -- a step that is entered at a side crosses a border
  over_border : (hex : Hex) (end : TrackEnd) → stop_at_end hex end ≡ None → 0 < length (border_at hex end)
  over_border hex (AtSide side) none = omega arith
  over_border hex (AtStop place) none = absurd cc

  -- where a spot is a stop, it is one to the search too
  stop_found : (spot : Spot) (found : Option Stop) → stop_of spot ≡ found
      → stop_in (node_at task (spot_number spot)) ≡ true → (stop : Stop) × (stop_of spot ≡ Some stop)
  stop_found spot (Some stop) is stops = (stop, is)
  stop_found spot None is stops =
      let node : IsSideNode (node_at task (spot_number spot)) =
      subst (λ o. IsNodeAt position company o (node_at task (spot_number spot))) is (spot_there spot) in
      absurd (let wrong : false ≡ true = sym node.stops ∙ stops in cc)

  side_found : (spot : Spot) (found : Option Stop) → stop_of spot ≡ found
      → stop_in (node_at task (spot_number spot)) ≡ false → stop_of spot ≡ None
  side_found spot None is side = is
  side_found spot (Some stop) is side =
      let node : IsStopNode position company stop (node_at task (spot_number spot)) =
      subst (λ o. IsNodeAt position company o (node_at task (spot_number spot))) is (spot_there spot) in
      absurd (let wrong : true ≡ false = sym node.stops ∙ side in cc)

  to_side_there : (spot : Spot) → stop_of spot ≡ None → stop_in (node_at task (spot_number spot)) ≡ false
  to_side_there spot is =
      let node : IsSideNode (node_at task (spot_number spot)) =
      subst (λ o. IsNodeAt position company o (node_at task (spot_number spot))) is (spot_there spot) in node.stops

  -- a spot from which a step is entered at a stop is that stop, and otherwise a side
  enters : (spot next : Spot) → AreJoined spot next → stop_of spot ≡ stop_of next
  enters spot next joined =
      elim joined [
        | inl same ↦ same.1 ∙ sym same.2
        | inr over ↦ across_none spot.hex spot.end next over ∙ sym (back position lawful spot next over).1
      ]
    where
      across_none : (hex : Hex) (end : TrackEnd) (to : Spot) → across_end hex end ≡ Some to → stop_at_end hex end ≡ None
      across_none hex (AtSide side) to is = refl
      across_none hex (AtStop place) to is = absurd cc

  segment_fits_there : (number index : ℕ) (segment : Segment) → LeadsFrom task number index segment
      → SegmentFits task (stop_in (node_at task number)) segment
  segment_fits_there number index segment leads =
      let from : IsStepFrom position number segment = sound_there number index segment leads in
      let step = from.step in
      let node_stop : stop_in (node_at task (spot_number from.goes.spot)) ≡ stop_in (node_at task number) =
      ap (λ (n : ℕ). stop_in (node_at task n)) from.goes.number_is in
      let same : stop_of from.goes.spot ≡ stop_of (entered_at step) =
      enters from.goes.spot (entered_at step) from.goes.joined in
      record {
        to = subst (λ n. n < 744) (sym from.segment_is.to) (spot_low (left_at step));
        borders = subst BordersFit (sym from.segment_is.borders)
            (border_fits (entered_at step).hex (entered_at step).end);
        to_side = λ stops.
            let stop = stop_found from.goes.spot (stop_of from.goes.spot) refl (node_stop ∙ stops) in
            ap (λ (n : ℕ). stop_in (node_at task n)) from.segment_is.to
            ∙ to_side_there (left_at step) (side_left step from.track stop.0 (sym same ∙ stop.1));
        over = λ side.
            let none : stop_of (entered_at step) ≡ None = sym same
            ∙ side_found from.goes.spot (stop_of from.goes.spot) refl (node_stop ∙ side) in
            subst (λ bs. 0 < length bs) (sym from.segment_is.borders)
            (over_border (entered_at step).hex (entered_at step).end none);
      }

  -- the sides by their numbers
  sides_there : (number : ℕ) → number % 8 < 6 → IsSide task number
  sides_there number first = by_found (node_at task number) refl
    where
      by_found : (found : Option Node) → node_at task number ≡ found → (stop_in found ≡ false) × (own_in found ≡ false)
      by_found None is = (refl, refl)
      by_found (Some node) is =
          let side : IsSideNode (Some node) = (numbered.each number node is).first first in
          (side.stops, side.own)

  pub fits_it : IsFit task
  fits_it =
      record {
        all = numbered.all;
        nodes = λ number node there. record {
          value = (numbered.each number node there).value;
          side = (numbered.each number node there).side;
        };
        segments = segment_fits_there;
        sides = sides_there;
      }
