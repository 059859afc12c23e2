-- The step that a walk takes by a link of a hex, from the spot where it enters the hex.
use Rattle.std.proofs.Common.{◌≡◌, ℕ, Bool, Option, Some, option_map, unwrap_or}
use Rattle.map_tables.specs.declared.track.Link.{Link}
use Rattle.map_tables.specs.declared.track.TrackEnd.{TrackEnd}
use Rattle.reach.specs.HeldSpots.{end_at}
use Rattle.reach.specs.Lawful.{IsLawful}
use Rattle.reach.specs.Position.{Position, IsAmong, links_of}
use Rattle.reach.specs.Walk.{entered_at, left_at, spot_at}
use Rattle.reach.specs.declared.walk.Spot.{Spot}
use Rattle.reach.specs.declared.walk.WalkStep.{WalkStep}
use Rattle.certificate.specs.LinkEnds.{place_left, way_into}
use Rattle.certificate.specs.Tree.{Node, node_if, steps_by, with_step, with_steps}
use Rattle.certificate.proofs.Going.{step_enters, step_found}
use Rattle.certificate.proofs.LinkEnds.{default_step, left_is, place_there, step_there, ways}

-- the step by a link from a spot, if the link leads on from there
abbrev pub step_by : Spot → Link → WalkStep
step_by at link = unwrap_or (way_into at.end link) default_step

-- a step is the one by a link from a spot, and leaves the hex at an end
pub record IsStepBy (at : Spot) (link : Link) (end : TrackEnd) (step : WalkStep) : Type 0 where
  pub enters : entered_at step ≡ at
  pub leaves : left_at step ≡ spot_at at.hex end
  pub one : (test : WalkStep → Bool) (node : Node) → node_if (test step) (with_step node step)
      ≡ with_steps test node (steps_by at.end link)

-- a link of the hex that leads on to the place of an end has such a step
pub step_taken : (position : Position) → IsLawful position → (at : Spot) (link : Link) (place : ℕ) (end : TrackEnd)
    → IsAmong link (links_of position at.hex) → option_map place_left (way_into at.end link) ≡ Some place
    → end ≡ end_at place → IsStepBy at link end (step_by at link)
step_taken position lawful at link place end among there is =
    let found : Option WalkStep = way_into at.end link in
    let step : WalkStep = step_by at link in
    let some : found ≡ Some step = step_there found place there in
    let enters : entered_at step ≡ at = step_enters position lawful at link found step among some (ways at.end link) in
    record {
      enters = enters;
      leaves = left_is step at place end enters (place_there found place there) is;
      one = λ test node. step_found test node at.end link found step some (ways at.end link);
    }
