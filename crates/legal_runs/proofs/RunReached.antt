-- All stops of a legal run are reached: from its own token the run is walked on to its end, and
-- back to its beginning.
use Rattle.std.proofs.Common.{◌≡◌, Bool, true, false, not, ◌⊎◌, inl, inr, Option, Some, None, IfSome, List, [], ◌∷◌}
use Rattle.std.proofs.Common.{◌++◌, refl, ap, sym, ◌∙◌, subst}
use Rattle.map_tables.specs.declared.place.Stop.{Stop}
use Rattle.map_tables.specs.declared.track.TrackEnd.{TrackEnd}
use Rattle.map_tables.specs.declared.track.TrackEnd.TheVariants.{Side as AtSide, Stop as AtStop}
use Rattle.map_tables.specs.declared.track.Link.{Link}
use Rattle.reach.specs.Lawful.{IsLawful}
use Rattle.reach.specs.Position.{Position, HasToken, IsAmong, IsFull}
use Rattle.reach.specs.Reached.{IsWalkOf, ReachesStop}
use Rattle.reach.specs.Walk.{AreJoined, IsTrack, IsWalk, PassesOnly, across, across_end, entered_at, left_at}
use Rattle.reach.specs.Walk.{stop_at_end, stop_of}
use Rattle.reach.specs.declared.walk.Spot.{Spot}
use Rattle.reach.specs.declared.walk.WalkStep.{WalkStep}
use Rattle.reach.proofs.Spots.{back, names_itself}
use Rattle.tables.specs.declared.roster.Company.{Company}
use Rattle.legal_runs.specs.Legal.{HasSuch, first_stop, listed, visited}
use Rattle.legal_runs.proofs.Marks.{among_both}

-- a step the other way over its link
abbrev pub flipped : WalkStep → WalkStep
flipped step = record { link = step.link; turned = not step.turned }

pub flip_enters : (step : WalkStep) → entered_at (flipped step) ≡ left_at step
flip_enters step = by_turn step.link step.turned
  where
    by_turn :
        (link : Link) (turned : Bool) →
        entered_at (let step : WalkStep = record { link = link; turned = not turned } in step)
        ≡ left_at (let step : WalkStep = record { link = link; turned = turned } in step)
    by_turn link true = refl
    by_turn link false = refl

pub flip_leaves : (step : WalkStep) → left_at (flipped step) ≡ entered_at step
flip_leaves step = by_turn step.link step.turned
  where
    by_turn :
        (link : Link) (turned : Bool) →
        left_at (let step : WalkStep = record { link = link; turned = not turned } in step)
        ≡ entered_at (let step : WalkStep = record { link = link; turned = turned } in step)
    by_turn link true = refl
    by_turn link false = refl

-- a stop lies at no border
pub no_stop_across : (spot other : Spot) (stop : Stop) → stop_of spot ≡ Some stop → across spot ≡ Some other → ⊥
no_stop_across spot other stop is over = by_end spot.end is over
  where
    by_end : (end : TrackEnd) → stop_at_end spot.hex end ≡ Some stop → across_end spot.hex end ≡ Some other → ⊥
    by_end (AtSide side) is over = cc
    by_end (AtStop number) is over = cc

-- one of two lists has such a thing
has_both : (P : Stop → Type 0) (first second : List Stop) → HasSuch P (first ++ second)
    → HasSuch P first ⊎ HasSuch P second
has_both P [] second has = inr has
has_both P (stop ∷ first) second (inl here) = inl (inl here)
has_both P (stop ∷ first) second (inr later) =
    elim (has_both P first second later) [ inl one ↦ inl (inr one) | inr other ↦ inr other ]

has_listed : (P : Stop → Type 0) (found : Option Stop) → HasSuch P (listed found)
    → (stop : Stop) × (found ≡ Some stop) × P stop
has_listed P None has = absurd has
has_listed P (Some stop) (inl here) = (stop, refl, here)
has_listed P (Some stop) (inr none) = absurd none

pub among_listed : (found : Option Stop) (stop : Stop) → IsAmong stop (listed found) → found ≡ Some stop
among_listed None stop among = absurd among
among_listed (Some other) stop (inl is) = ap Some is
among_listed (Some other) stop (inr none) = absurd none

module _ (position : Position) (lawful : IsLawful position) (company : Company) where
  abbrev IsOpen : Spot → Type 0
  IsOpen spot = IfSome (stop_of spot) (λ stop. ¬ IsFull position stop company)

  -- a walk of the company reaches where a step may be entered
  abbrev ComesTo : Spot → Type 0
  ComesTo spot =
      ((stop : Stop) × (stop_of spot ≡ Some stop) × HasToken position stop company)
      ⊎ ((step : WalkStep) × (before : List WalkStep) × IsWalkOf position company (step ∷ before)
      × AreJoined (left_at step) spot)

  -- and goes on by that step
  comes_on :
      (step : WalkStep) → IsTrack position step → ComesTo (entered_at step) → IsOpen (entered_at step) →
      (before : List WalkStep) × IsWalkOf position company (step ∷ before)
  comes_on step track (inl own) open_there =
      ([], record { walk = (track, tt, tt); from_token = own; passes = (tt, tt) })
  comes_on step track (inr walk) open_there = (
    walk.0 ∷ walk.1,
    record {
      walk = (track, walk.3, walk.2.walk);
      from_token = walk.2.from_token;
      passes =
          (open_there, walk.2.passes);
    },
  )

  joined_back : (spot other : Spot) → AreJoined spot other → AreJoined other spot
  joined_back spot other (inl at) = inl (at.0, at.2, at.1)
  joined_back spot other (inr over) = inr (back position lawful spot other over).0

  -- spots that are joined are open or not together
  open_both : (spot other : Spot) → AreJoined spot other → IsOpen other → IsOpen spot
  open_both spot other (inl at) open_there =
      subst (λ (s : Option Stop). IfSome s (λ stop. ¬ IsFull position stop company)) (at.2 ∙ sym at.1) open_there
  open_both spot other (inr over) open_there =
      let there : (across other ≡ Some spot) × (stop_of other ≡ None) = back position lawful spot other over in
      let here : (across spot ≡ Some other) × (stop_of spot ≡ None) = back position lawful other spot there.0 in
      subst (λ (s : Option Stop). IfSome s (λ stop. ¬ IsFull position stop company)) (sym here.1) tt

  own_open : (spot : Spot) (stop : Stop) → stop_of spot ≡ Some stop → HasToken position stop company → IsOpen spot
  own_open spot stop is own =
      subst (λ (s : Option Stop). IfSome s (λ stop. ¬ IsFull position stop company)) (sym is)
      (λ full. full.by_others own)

  -- the stop where a walk ends is reached
  left_reached :
      (step : WalkStep) (before : List WalkStep) (stop : Stop) → IsWalkOf position company (step ∷ before)
      → stop_of (left_at step) ≡ Some stop →
      ReachesStop position company stop
  left_reached step before stop walk is = inr (step ∷ before, walk, inl (inr is))

  -- back from the end of a run all stops before it are reached
  all_back :
      (step : WalkStep) (before : List WalkStep) → IsWalk position (step ∷ before)
      → PassesOnly (λ stop. ¬ IsFull position stop company) (step ∷ before) →
      ComesTo (left_at step) → IsOpen (left_at step) → (stop : Stop)
      → IsAmong stop (first_stop before step ++ visited before) →
      ReachesStop position company stop
  all_back step [] walk passes comes open_there stop among =
      let turned = comes_on (flipped step) walk.0 (subst ComesTo (sym (flip_enters step)) comes)
      (subst IsOpen (sym (flip_enters step)) open_there) in
      elim ((among_both stop (listed (stop_of (entered_at step))) []).0 among) [
        | inl here ↦ left_reached (flipped step) turned.0 stop turned.1
            (ap stop_of (flip_leaves step) ∙ among_listed (stop_of (entered_at step)) stop here)
        | inr none ↦ absurd none
      ]
  all_back step (earlier ∷ more) walk passes comes open_there stop among =
      let turned = comes_on (flipped step) walk.0 (subst ComesTo (sym (flip_enters step)) comes)
      (subst IsOpen (sym (flip_enters step)) open_there) in
      let joined : AreJoined (left_at earlier) (entered_at step) = walk.1 in
      elim ((among_both stop (listed (stop_of (left_at earlier))) (first_stop more earlier ++ visited more)).0 among) [
        | inl here ↦ at_joint joined turned.0 turned.1 (among_listed (stop_of (left_at earlier)) stop here)
        | inr later ↦
            all_back earlier more walk.2 passes.1
            (inr (
              flipped step,
              turned.0,
              turned.1,
              subst (λ (s : Spot). AreJoined s (left_at earlier))
                  (sym (flip_leaves step)) (joined_back (left_at earlier) (entered_at step) joined),
            ))
            (open_both (left_at earlier) (entered_at step) joined passes.0) stop later
      ]
    where
      at_joint :
          AreJoined (left_at earlier) (entered_at step) → (walked : List WalkStep)
          → IsWalkOf position company (flipped step ∷ walked) →
          stop_of (left_at earlier) ≡ Some stop → ReachesStop position company stop
      at_joint (inl at) walked of_company is =
          left_reached (flipped step) walked stop of_company (ap stop_of (flip_leaves step) ∙ at.2 ∙ sym at.1 ∙ is)
      at_joint (inr over) walked of_company is = absurd
          (no_stop_across (left_at earlier) (entered_at step) stop is over)

  -- a run with an own token: all its stops are reached, and the company reaches where it goes on
  pub record IsReached (step : WalkStep) (before : List WalkStep) : Type 0 where
    pub stops : (stop : Stop) → IsAmong stop (visited (step ∷ before)) → ReachesStop position company stop
    pub onward : (spot : Spot) → AreJoined (left_at step) spot → ComesTo spot

  abbrev IsOwn : Stop → Type 0
  IsOwn stop = HasToken position stop company

  -- by a walk that ends with its latest step
  by_walk :
      (step : WalkStep) (before walked : List WalkStep) → IsWalkOf position company (step ∷ walked) →
      ((stop : Stop) → IsAmong stop (first_stop before step ++ visited before) → ReachesStop position company stop)
      → IsReached step before
  by_walk step before walked walk earlier =
      record {
        stops = λ stop among. elim ((among_both stop (listed (stop_of (left_at step)))
            (first_stop before step ++ visited before)).0 among) [
              | inl here ↦ left_reached step walked stop walk (among_listed (stop_of (left_at step)) stop here)
              | inr later ↦ earlier stop later
            ];
        onward = λ spot joined. inr (step, walked, walk, joined);
      }

  -- by a token at its end
  by_token :
      (step : WalkStep) (before : List WalkStep) → IsWalk position (step ∷ before)
      → PassesOnly (λ stop. ¬ IsFull position stop company) (step ∷ before) →
      (own : Stop) → stop_of (left_at step) ≡ Some own → IsOwn own → IsReached step before
  by_token step before walk passes own is has =
      record {
        stops = λ stop among. elim ((among_both stop (listed (stop_of (left_at step)))
            (first_stop before step ++ visited before)).0 among) [
              | inl here ↦
                  let same : Some own ≡ Some stop = sym is ∙ among_listed (stop_of (left_at step)) stop here in
                  let one : own ≡ stop = cc in
                  subst (ReachesStop position company) one (inl (names_itself (left_at step) own is, has))
              | inr later ↦ all_back step before walk passes (inl (own, is, has)) (own_open (left_at step) own is has)
                  stop later
            ];
        onward = λ spot joined. on spot joined;
      }
    where
      on : (spot : Spot) → AreJoined (left_at step) spot → ComesTo spot
      on spot (inl at) = inl (own, at.2 ∙ sym at.1 ∙ is, has)
      on spot (inr over) = absurd (no_stop_across (left_at step) spot own is over)

  pub run_reached :
      (step : WalkStep) (before : List WalkStep) → IsWalk position (step ∷ before)
      → PassesOnly (λ stop. ¬ IsFull position stop company) (step ∷ before) →
      HasSuch IsOwn (visited (step ∷ before)) → IsReached step before
  run_reached step [] walk passes own =
      elim (has_both IsOwn (listed (stop_of (left_at step))) (listed (stop_of (entered_at step)) ++ []) own) [
        | inl here ↦ let at = has_listed IsOwn (stop_of (left_at step)) here in by_token step [] walk passes at.0 at.1
            at.2
        | inr later ↦ at_first (has_both IsOwn (listed (stop_of (entered_at step))) [] later)
      ]
    where
      at_first : HasSuch IsOwn (listed (stop_of (entered_at step))) ⊎ HasSuch IsOwn [] → IsReached step []
      at_first (inr none) = absurd none
      at_first (inl there) =
          let at = has_listed IsOwn (stop_of (entered_at step)) there in
          let on = comes_on step walk.0 (inl at) (own_open (entered_at step) at.0 at.1 at.2) in
          by_walk step [] on.0 on.1 (λ stop among. elim ((among_both stop (listed (stop_of (entered_at step))) []).0
          among) [
            | inl here ↦ inr (step ∷ on.0, on.1, inl (inl (among_listed (stop_of (entered_at step)) stop here)))
            | inr none ↦ absurd none
          ])
  run_reached step (earlier ∷ more) walk passes own =
      by_place (has_both IsOwn (listed (stop_of (left_at step))) (visited (earlier ∷ more)) own)
      (λ later. run_reached earlier more walk.2 passes.1 later)
    where
      by_place :
          HasSuch IsOwn (listed (stop_of (left_at step))) ⊎ HasSuch IsOwn (visited (earlier ∷ more)) →
          (HasSuch IsOwn (visited (earlier ∷ more)) → IsReached earlier more) → IsReached step (earlier ∷ more)
      by_place (inl here) so_far = let at = has_listed IsOwn (stop_of (left_at step)) here in by_token step
          (earlier ∷ more) walk passes at.0 at.1 at.2
      by_place (inr later) so_far =
          let rest : IsReached earlier more = so_far later in
          let on = comes_on step walk.0 (rest.onward (entered_at step) walk.1) passes.0 in
          by_walk step (earlier ∷ more) on.0 on.1 rest.stops

-- all stops of a run with an own token are reached
pub all_reached :
    (position : Position) (lawful : IsLawful position) (company : Company) (steps : List WalkStep) → IsWalk position steps →
    PassesOnly (λ stop. ¬ IsFull position stop company) steps
    → HasSuch (λ stop. HasToken position stop company) (visited steps) → (stop : Stop) →
    IsAmong stop (visited steps) → ReachesStop position company stop
all_reached position lawful company [] walk passes own = λ stop among. absurd among
all_reached position lawful company (step ∷ before) walk passes own =
    let reached : IsReached position lawful company step before =
    run_reached position lawful company step before walk passes own in reached.stops
