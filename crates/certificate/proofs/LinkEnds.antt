-- Where a link leads from an end, by the places of its ends.
use Rattle.std.proofs.Common.{◌≡◌, ℕ, ◌<◌, ◌≤◌, ◌==◌, Bool, true, false, if◌then◌else◌, Option, Some, None, unwrap_or, option_map, List}
use Rattle.std.proofs.Common.{[], ◌∷◌, length, get_or, map, refl, ap, sym, ◌∙◌, subst}
use Rattle.std.proofs.lemmas.List.{get_or-map, length-map}
use Rattle.map_tables.specs.Track.{end_order}
use Rattle.map_tables.specs.declared.hex.Hex.{Hex}
use Rattle.map_tables.specs.declared.place.StopNumber.TheVariants.{First, Second}
use Rattle.map_tables.specs.declared.side.Side.TheVariants.{East, NorthEast, NorthWest, SouthEast, SouthWest, West}
use Rattle.map_tables.specs.declared.track.Link.{Link}
use Rattle.map_tables.specs.declared.track.TrackEnd.{TrackEnd}
use Rattle.map_tables.specs.declared.track.TrackEnd.TheVariants.{Side as AtSide, Stop as AtStop}
use Rattle.reach.specs.HeldSpots.{end_at}
use Rattle.reach.specs.Walk.{entered_at, left_at, spot_at}
use Rattle.reach.specs.declared.walk.Spot.{Spot}
use Rattle.reach.specs.declared.walk.WalkStep.{WalkStep}
use Rattle.legal_runs.specs.Legal.{listed}
use Rattle.certificate.specs.LinkEnds.{ends_of, place_left, way_into}
use Rattle.certificate.specs.Tree.{steps_by}
use Rattle.certificate.specs.declared.link_ends.LinkEnds.{LinkEnds}
use Rattle.certificate.proofs.Going.{default_link}

-- what is read past the end of a list of ends, or of steps
abbrev pub default_ends : LinkEnds
default_ends = record { a = 0; b = 0 }

abbrev pub default_step : WalkStep
default_step = record { link = default_link; turned = false }

-- an end is the one at its place
pub end_at_order : (end : TrackEnd) → end_at (end_order end) ≡ end
end_at_order (AtSide SouthWest) = refl
end_at_order (AtSide West) = refl
end_at_order (AtSide NorthWest) = refl
end_at_order (AtSide NorthEast) = refl
end_at_order (AtSide East) = refl
end_at_order (AtSide SouthEast) = refl
end_at_order (AtStop First) = refl
end_at_order (AtStop Second) = refl

-- the step into a link at an end is the only one
pub ways : (end : TrackEnd) (link : Link) → listed (way_into end link) ≡ steps_by end link
ways end link =
    by_tests (end_order link.a == end_order end) (end_order link.b == end_order end)
    (record { link = link; turned = false }) (record { link = link; turned = true })
  where
    by_tests : (first second : Bool) (forward back : WalkStep)
        → listed (if first then Some forward else (if second then Some back else None))
        ≡ (if first then forward ∷ [] else (if second then back ∷ [] else []))
    by_tests true second forward back = refl
    by_tests false true forward back = refl
    by_tests false false forward back = refl

-- a place that is found is that of a step
pub step_there : (found : Option WalkStep) (place : ℕ) → option_map place_left found ≡ Some place
    → found ≡ Some (unwrap_or found default_step)
step_there None place is = absurd cc
step_there (Some step) place is = refl

pub place_there : (found : Option WalkStep) (place : ℕ) → option_map place_left found ≡ Some place
    → place_left (unwrap_or found default_step) ≡ place
place_there None place is = absurd cc
place_there (Some step) place is = cc

pub no_step_there : (found : Option WalkStep) → option_map place_left found ≡ None → found ≡ None
no_step_there None is = refl
no_step_there (Some step) is = absurd cc

-- where a step leaves that is entered at a spot
pub left_is : (step : WalkStep) (at : Spot) (place : ℕ) (end : TrackEnd) → entered_at step ≡ at → place_left step ≡ place
    → end ≡ end_at place → left_at step ≡ spot_at at.hex end
left_is step at place end enters is made =
    let here : step.link.hex ≡ at.hex = ap (λ (s : Spot). s.hex) enters in
    let there : (left_at step).end ≡ end = sym (end_at_order (left_at step).end) ∙ (ap end_at is ∙ sym made) in
    ap (λ (h : Hex). spot_at h (left_at step).end) here ∙ ap (λ (e : TrackEnd). spot_at at.hex e) there

-- the link whose ends are at a place among those of a hex
pub link_low : (links : List Link) (held : List LinkEnds) (index : ℕ) → held ≡ map ends_of links → index < length held
    → index < length links
link_low links held index are low = subst (λ (n : ℕ). index < n) (ap length are ∙ length-map links ends_of) low

pub ends_there : (links : List Link) (held : List LinkEnds) (index : ℕ) → held ≡ map ends_of links → index < length links
    → ends_of (get_or links index default_link) ≡ get_or held index default_ends
ends_there links held index are low =
    sym (get_or-map ends_of links index default_link default_ends low)
    ∙ ap (λ (l : List LinkEnds). get_or l index default_ends) (sym are)

pub link_high : (links : List Link) (held : List LinkEnds) (index : ℕ) → held ≡ map ends_of links → length held ≤ index
    → length links ≤ index
link_high links held index are high = subst (λ (n : ℕ). n ≤ index) (ap length are ∙ length-map links ends_of) high
