-- Following links from what is marked: walks go on, and marks that nothing is added to hold all
-- walks.
use Rattle.std.proofs.Common.{◌≡◌, Bool, true, false, Some, None, IfSome, ◌⊎◌, inl, inr, List, [], ◌∷◌, get_or, refl}
use Rattle.std.proofs.Common.{sym, ◌∙◌, subst}
use Rattle.map_tables.specs.Place.{joined_stop_of, stop_at}
use Rattle.map_tables.specs.declared.hex.Hex.{Hex}
use Rattle.map_tables.specs.declared.place.Stop.{Stop}
use Rattle.map_tables.specs.declared.track.TrackEnd.{TrackEnd}
use Rattle.map_tables.specs.declared.track.TrackEnd.TheVariants.{Side as AtSide, Stop as AtStop}
use Rattle.reach.specs.Lawful.{IsLawful}
use Rattle.reach.specs.Position.{Position, HasToken, IsFull}
use Rattle.reach.specs.Reached.{IsWalkOf}
use Rattle.reach.specs.Search.{spot_number, IsMarked, CanEnterAt, CanEnter, Arrives, AllArrive, IsClosed, HasAllTokens}
use Rattle.reach.specs.Walk.{spot_at, entered_at, left_at, stop_at_end, stop_of, across, AreJoined, IsTrack}
use Rattle.reach.specs.declared.walk.Spot.{Spot}
use Rattle.reach.specs.declared.walk.WalkStep.{WalkStep}
use Rattle.reach.proofs.Spots.{are_one, stop_number, back}
use Rattle.tables.specs.declared.roster.Company.{Company}

-- the company has a token at a spot
record HasTokenAt (position : Position) (company : Company) (spot : Spot) : Type 0 where
  pub stop : Stop
  pub is : stop_of spot ≡ Some stop
  pub token : HasToken position stop company

-- a walk of the company reaches a spot, and may go on there
record Comes (position : Position) (company : Company) (spot : Spot) : Type 0 where
  pub step : WalkStep
  pub before : List WalkStep
  pub walk : IsWalkOf position company (step ∷ before)
  pub joined : AreJoined (left_at step) spot
  pub may_pass : IfSome (stop_of spot) (λ stop. ¬ IsFull position stop company)

module _ (position : Position) (company : Company) (lawful : IsLawful position) where
  -- where marks say that a link may be entered, a walk begins or comes
  enter_at : (marks : List Bool) → AllArrive position company marks → (hex : Hex) (end : TrackEnd)
      → CanEnterAt position company marks hex end → HasTokenAt position company (spot_at hex end)
      ⊎ Comes position company (spot_at hex end)
  enter_at marks arrive hex (AtStop number) can =
      elim (arrive (spot_at hex (AtStop number)) can.0) [
        | inl here ↦ inl (record { stop = here.0; is = here.1; token = here.2 })
        | inr came ↦ inr (record {
          step = came.0;
          before = came.1;
          walk = came.2;
          joined = inl (
            joined_stop_of (stop_at hex number),
            (are_one (left_at came.0) (spot_at hex (AtStop number)) came.3).0,
            refl,
          );
          may_pass = can.1;
        })
      ]
  enter_at marks arrive hex (AtSide side) can =
      let returns : (across can.0 ≡ Some (spot_at hex (AtSide side))) × (stop_of can.0 ≡ None) =
      back position lawful (spot_at hex (AtSide side)) can.0 can.1 in
      elim (arrive can.0 can.2) [
        | inl here ↦ absurd (let nowhere : None ≡ Some here.0 = sym returns.1 ∙ here.1 in cc)
        | inr came ↦ inr (record {
          step = came.0;
          before = came.1;
          walk = came.2;
          joined = inr ((are_one (left_at came.0) can.0 came.3).1 ∙ returns.0);
          may_pass = tt;
        })
      ]

  -- a step from there is the latest of a walk
  go_on : (step : WalkStep) → IsTrack position step → HasTokenAt position company (entered_at step)
      ⊎ Comes position company (entered_at step) → (before : List WalkStep) × IsWalkOf position company (step ∷ before)
  go_on step track (inl here) =
      ([], record { walk = (track, tt, tt); from_token = (here.stop, here.is, here.token); passes = (tt, tt) })
  go_on step track (inr came) = (
    came.step ∷ came.before,
    record {
      walk = (track, came.joined, came.walk.walk);
      from_token = came.walk.from_token;
      passes = (came.may_pass, came.walk.passes);
    },
  )

  -- a walk takes a step that marks say it may take
  pub walk_by : (marks : List Bool) → AllArrive position company marks → (step : WalkStep) → IsTrack position step
      → CanEnter position company marks (entered_at step)
      → (before : List WalkStep) × IsWalkOf position company (step ∷ before)
  walk_by marks arrive step track can =
      go_on step track (enter_at marks arrive (entered_at step).hex (entered_at step).end can)

  -- a walk that arrives at a spot arrives at each with its number
  pub arrives_same : (spot other : Spot) → spot_number spot ≡ spot_number other → Arrives position company spot
      → Arrives position company other
  arrives_same spot other same (inl here) = inl (here.0, sym (are_one spot other same).0 ∙ here.1, here.2)
  arrives_same spot other same (inr came) = inr (came.0, came.1, came.2, came.3 ∙ same)

  -- marks where a link may be entered from
  pub enter_joined : (marks : List Bool) (from : Spot) → IsMarked marks from → (hex : Hex) (end : TrackEnd)
      → AreJoined from (spot_at hex end) → IfSome (stop_at_end hex end) (λ stop. ¬ IsFull position stop company)
      → CanEnterAt position company marks hex end
  enter_joined marks from is_marked hex (AtStop number) (inl both) may_pass = (
    subst (λ n. get_or marks n false ≡ true) (stop_number from both.0 both.1
        ∙ sym (stop_number (spot_at hex (AtStop number)) both.0 both.2)) is_marked,
    may_pass,
  )
  enter_joined marks from is_marked hex (AtSide side) (inl both) may_pass =
      absurd (let nowhere : None ≡ Some both.0 = both.2 in cc)
  enter_joined marks from is_marked hex (AtSide side) (inr crosses) may_pass =
      (from, (back position lawful from (spot_at hex (AtSide side)) crosses).0, is_marked)
  enter_joined marks from is_marked hex (AtStop number) (inr crosses) may_pass =
      absurd (let nowhere : Some (joined_stop_of (stop_at hex number)) ≡ None =
      (back position lawful from (spot_at hex (AtStop number)) crosses).1 in cc)

  -- where there is a token a walk may begin
  enter_token : (marks : List Bool) → HasAllTokens position company marks → (hex : Hex) (end : TrackEnd) (stop : Stop)
      → stop_at_end hex end ≡ Some stop → HasToken position stop company → CanEnterAt position company marks hex end
  enter_token marks tokens hex (AtSide side) stop is token = absurd (let nowhere : None ≡ Some stop = is in cc)
  enter_token marks tokens hex (AtStop number) stop is token =
      let same : joined_stop_of (stop_at hex number) ≡ stop = cc in (
        tokens (spot_at hex (AtStop number)) stop is token,
        λ full. full.by_others
            (subst (λ s. HasToken position s company) (sym same) token),
      )

  -- the latest link of each walk may be entered, where what is marked has all tokens and is closed
  pub may_enter : (marks : List Bool) → HasAllTokens position company marks
      → IsClosed position company (IsTrack position) marks → (step : WalkStep) (before : List WalkStep)
      → IsWalkOf position company (step ∷ before) → CanEnter position company marks (entered_at step)
  may_enter marks tokens closed step [] walk =
      enter_token marks tokens (entered_at step).hex (entered_at step).end walk.from_token.0 walk.from_token.1
      walk.from_token.2
  may_enter marks tokens closed step (earlier ∷ before) walk =
      let so_far : IsWalkOf position company (earlier ∷ before) =
      record { walk = walk.walk.2; from_token = walk.from_token; passes = walk.passes.1 } in
      enter_joined marks (left_at earlier)
      (closed earlier so_far.walk.0 (may_enter marks tokens closed earlier before so_far))
      (entered_at step).hex (entered_at step).end walk.walk.1 walk.passes.0
