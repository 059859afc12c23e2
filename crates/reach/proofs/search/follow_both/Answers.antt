-- The two directions of a link, one after the other.
use Rattle.std.proofs.Common.{◌≡◌, Bool, true, false, ◌⊎◌, inl, inr, ap}
use Rattle.map_tables.specs.declared.track.Link.{Link}
use Rattle.reach.specs.Search.{IsEnteredAt}
use Rattle.reach.specs.declared.walk.Spot.{Spot}
use Rattle.reach.specs.declared.walk.WalkStep.{WalkStep}
use Rattle.reach.proofs.Marking.{can_still, spreads_followed, spreads_on}
use Rattle.reach.proofs.search.follow_both.Goals as goal

-- a link taken in a direction
abbrev taking : Link → Bool → WalkStep
taking link turned = record { link = link; turned = turned }

-- a step takes its link in one of the two directions
directions : (link : Link) (at : Spot) (step : WalkStep) → (step.link ≡ link) × IsEnteredAt at step
    → ((step ≡ taking link false) × IsEnteredAt at step) ⊎ ((step ≡ taking link true) × IsEnteredAt at step)
directions link at step is = by_direction step.turned is
  where
    by_direction : (turned : Bool) → (step.link ≡ link) × IsEnteredAt at (taking step.link turned)
        → ((taking step.link turned ≡ taking link false) × IsEnteredAt at (taking step.link turned))
        ⊎ ((taking step.link turned ≡ taking link true) × IsEnteredAt at (taking step.link turned))
    by_direction false both = inl (ap (λ l. taking l false) both.0, both.1)
    by_direction true both = inr (ap (λ l. taking l true) both.0, both.1)

pub returns : goal.returns
returns g c =
    let position = g.N.Network.position c.args.network.now in
    let company = c.args.company in
    let forward = spreads_followed position company c.requires.lawful (taking c.args.link false) c.requires.track
    c.args.at _ _ _ _ _ _ c.requires.may c.in_ok-follow_at.ensures in
    let may = can_still position company _ _ forward.kept c.args.at c.requires.may in
    spreads_on position company _ _ _ _ _ _ _ _ _ _ _ _ forward
    (spreads_followed position company c.requires.lawful (taking c.args.link true) c.requires.track c.args.at _ _ _ _
    _ _ may c.in_ok-follow_at-2.ensures)
    (directions c.args.link c.args.at)
