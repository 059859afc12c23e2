-- What is marked once nothing is added is what the company reaches: its stops, and its links.
use Rattle.std.proofs.Common.{◌≡◌, Bool, true, false, Some, None, inl, inr, List, [], ◌∷◌, get_or, refl, ap, sym, ◌∙◌}
use Rattle.std.proofs.Common.{subst}
use Rattle.map_tables.specs.Place.{joined_stop_of}
use Rattle.map_tables.specs.declared.hex.Hex.{Hex}
use Rattle.map_tables.specs.declared.place.Stop.{Stop}
use Rattle.map_tables.specs.declared.track.TrackEnd.{TrackEnd}
use Rattle.map_tables.specs.declared.track.TrackEnd.TheVariants.{Side as AtSide, Stop as AtStop}
use Rattle.map_tables.specs.declared.track.Link.{Link}
use Rattle.reach.specs.Lawful.{IsLawful}
use Rattle.reach.specs.Position.{Position, HasToken, IsAmong, links_of}
use Rattle.reach.specs.Reached.{IsReach, IsWalkOf, ReachesLink, ReachesStop, AreSortedBy, stop_order}
use Rattle.reach.specs.Search.{IsMarked, IsMarkedStop, AreMarkedStops, CanEnterAt, CanEnter, CanEnterEither, CanTake}
use Rattle.reach.specs.Search.{AllArrive, AreTaken, IsClosed, HasAllTokens}
use Rattle.reach.specs.Walk.{spot_at, entered_at, left_at, stop_at_end, stop_of, IsTrack, TouchesLink, TouchesStop}
use Rattle.reach.specs.declared.walk.Spot.{Spot}
use Rattle.reach.specs.declared.walk.WalkStep.{WalkStep}
use Rattle.reach.proofs.Following.{walk_by, may_enter}
use Rattle.reach.proofs.Spots.{are_one, stop_number, names_itself}
use Rattle.tables.specs.declared.roster.Company.{Company}

-- a spot that is marked and is a stop
pub marked_stop : (marks : List Bool) (spot : Spot) (stop : Stop) → stop_of spot ≡ Some stop → IsMarked marks spot
    → IsMarkedStop marks stop
marked_stop marks spot stop is is_marked =
    let named : joined_stop_of stop ≡ stop = names_itself spot stop is in (
      named,
      subst (λ n. get_or marks n false ≡ true)
          (stop_number spot stop is ∙ sym (stop_number (spot_at stop.hex (AtStop stop.number)) stop
          (ap (λ (s : Stop). Some s) named))) is_marked,
    )

-- a stop where a link may be entered is marked
entered_stop : (position : Position) (company : Company) (marks : List Bool) (hex : Hex) (end : TrackEnd) (stop : Stop)
    → stop_at_end hex end ≡ Some stop → CanEnterAt position company marks hex end → IsMarked marks (spot_at hex end)
entered_stop position company marks hex (AtStop number) stop is can = can.0
entered_stop position company marks hex (AtSide side) stop is can = absurd (let nowhere : None ≡ Some stop = is in cc)

-- a link that a step takes may be entered at one of its ends
pub entered_either : (position : Position) (company : Company) (marks : List Bool) (link : Link) (turned : Bool)
    → CanEnter position company marks (entered_at (record { link = link; turned = turned }))
    → CanEnterEither position company marks link
entered_either position company marks link true can = inr can
entered_either position company marks link false can = inl can

module _ (position : Position) (company : Company) (lawful : IsLawful position) (marks : List Bool)
    (arrive : AllArrive position company marks) (tokens : HasAllTokens position company marks)
    (closed : IsClosed position company (IsTrack position) marks) where
  -- a walk without its latest step
  earlier_walk : (step earlier : WalkStep) (before : List WalkStep) → IsWalkOf position company (step ∷ (earlier ∷ before))
      → IsWalkOf position company (earlier ∷ before)
  earlier_walk step earlier before walk =
      record { walk = walk.walk.2; from_token = walk.from_token; passes = walk.passes.1 }

  link_touched : (link : Link) (steps : List WalkStep) → IsWalkOf position company steps → TouchesLink link steps
      → CanTake position company marks link
  link_touched link [] walk touched = absurd touched
  link_touched link (step ∷ before) walk (inl is) =
      subst (λ l. CanTake position company marks l) is (
        walk.walk.0,
        entered_either position company marks step.link step.turned
            (may_enter position company lawful marks tokens closed step before walk),
      )
  link_touched link (step ∷ []) walk (inr touched) = absurd touched
  link_touched link (step ∷ (earlier ∷ before)) walk (inr touched) =
      link_touched link (earlier ∷ before) (earlier_walk step earlier before walk) touched

  -- a link that a walk touches may be taken
  pub link_marked : (link : Link) → ReachesLink position company link → CanTake position company marks link
  link_marked link reaches = link_touched link reaches.0 reaches.1 reaches.2

  link_taken : (link : Link) (turned : Bool) → IsAmong link (links_of position link.hex)
      → CanEnter position company marks (entered_at (record { link = link; turned = turned }))
      → ReachesLink position company link
  link_taken link turned track can =
      let step : WalkStep = record { link = link; turned = turned } in
      let by : (before : List WalkStep) × IsWalkOf position company (step ∷ before) =
      walk_by position company lawful marks arrive step track can in
      (step ∷ by.0, by.1, inl refl)

  -- a walk touches a link that may be taken
  pub link_reached : (link : Link) → CanTake position company marks link → ReachesLink position company link
  link_reached link can =
      elim can.1 [ inl first ↦ link_taken link false can.0 first | inr second ↦ link_taken link true can.0 second ]

  stop_touched : (stop : Stop) (steps : List WalkStep) → IsWalkOf position company steps → TouchesStop stop steps
      → IsMarkedStop marks stop
  stop_touched stop [] walk touched = absurd touched
  stop_touched stop (step ∷ before) walk (inl (inl entered)) =
      marked_stop marks (entered_at step) stop entered
      (entered_stop position company marks (entered_at step).hex (entered_at step).end stop entered
      (may_enter position company lawful marks tokens closed step before walk))
  stop_touched stop (step ∷ before) walk (inl (inr left)) =
      marked_stop marks (left_at step) stop left
      (closed step walk.walk.0 (may_enter position company lawful marks tokens closed step before walk))
  stop_touched stop (step ∷ []) walk (inr touched) = absurd touched
  stop_touched stop (step ∷ (earlier ∷ before)) walk (inr touched) =
      stop_touched stop (earlier ∷ before) (earlier_walk step earlier before walk) touched

  -- a stop that is reached is marked
  pub stop_marked : (stop : Stop) → ReachesStop position company stop → IsMarkedStop marks stop
  stop_marked stop (inl here) =
      (here.0, tokens (spot_at stop.hex (AtStop stop.number)) stop (ap (λ (s : Stop). Some s) here.0) here.1)
  stop_marked stop (inr walked) = stop_touched stop walked.0 walked.1 walked.2

  -- a stop that is marked is reached
  pub stop_reached : (stop : Stop) → IsMarkedStop marks stop → ReachesStop position company stop
  stop_reached stop is =
      let spot : Spot = spot_at stop.hex (AtStop stop.number) in
      let named : stop_of spot ≡ Some stop = ap (λ (s : Stop). Some s) is.0 in
      elim (arrive spot is.1) [
        | inl here ↦ inl (
          is.0,
          (let same : here.0 ≡ stop =
              (let both : Some here.0 ≡ Some stop = sym here.1 ∙ named in cc) in subst
              (λ s. HasToken position s company) same here.2),
        )
        | inr came ↦ inr (came.0 ∷ came.1, came.2, inl (inr ((are_one (left_at came.0) spot came.3).0 ∙ named)))
      ]

  -- so the stops that are marked, and the links that may be taken, are what is reached
  pub marked_reach : (stops : List Stop) (links : List Link) → AreMarkedStops marks stops
      → AreSortedBy stop_order stops → AreTaken position company marks (λ link. IsAmong link links)
      → IsReach position company (record { stops = stops; links = links })
  marked_reach stops links are in_order taken =
      record {
        stops = λ stop. (
          λ among. stop_reached stop ((are stop).0 among),
          λ reaches. (are stop).1
              (stop_marked stop reaches),
        );
        in_order = in_order;
        links = λ link. (
          λ among. link_reached link ((taken link).0 among),
          λ reaches. (taken link).1
              (link_marked link reaches),
        );
      }
