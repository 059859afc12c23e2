-- Ways to the end from a state are ways to the end from one that is alike. Neither the run begun
-- nor one to come crosses a border in which they differ.
use Rattle.std.proofs.Common.{◌≡◌, ℕ, zero, suc, ◌+◌, ◌<◌, ◌≤◌, Bool, true, false, not, ◌&&◌, ◌||◌, nat_lt, ◌⊎◌, inl}
use Rattle.std.proofs.Common.{inr, Option, Some, None, List, [], ◌∷◌, length, get_or, set, slice_get, replicate, refl}
use Rattle.std.proofs.Common.{sym, ap, subst, ◌∙◌, arith, get_or-set_same, length-set}
use Rattle.std.proofs.lemmas.Option.{slice_get_within}
use Rattle.std.proofs.lemmas.Bool.{and_from}
use Rattle.reach.proofs.Collected.{none_marked}
use Rattle.reach.proofs.Marking.{set_cases, set_keeps}
use Rattle.reach.specs.Position.{IsAmong}
use Rattle.best_run.specs.declared.search_state.SearchState.{SearchState}
use Rattle.best_run.specs.declared.state.Assigned.{Assigned}
use Rattle.best_run.specs.declared.state.PartialRun.{PartialRun}
use Rattle.search_task.specs.declared.task.Segment.{Segment}
use Rattle.search_task.specs.declared.task.Task.{Task}
use Rattle.search_task.specs.declared.task.Leg.{Leg}
use Rattle.best_run.specs.Ahead.{LiesAhead, WidensBelow}
use Rattle.best_run.specs.Canonical.{AllLead, AreOpen, AreOpenBelow, Holds, IsCanonical, IsInReach}
use Rattle.best_run.specs.Canonical.{IsRunCanonical, IsShut, IsShutBelow, Opens}
use Rattle.best_run.specs.Canonical.{SetsOut, WidensTo, anywhere, sets_out}
use Rattle.search_task.specs.Crossed.{cleared_all, marked_all, misses}
use Rattle.search_task.specs.Fit.{BordersFit, IsFit, SegmentFits}
use Rattle.search_task.specs.Marks.{Freer, IsMarked}
use Rattle.best_run.specs.Moves.{Completes, LeadsToAtMost, Move, State, along, begin, begun, between, can_take, go}
use Rattle.best_run.specs.Moves.{marked_if, may_come, own_before, partial, pass, passed, finish, state_at, state_by}
use Rattle.best_run.specs.Moves.{total_after, turn, turned_back, using, with_run_finished}
use Rattle.search_task.specs.Spots.{LeadsFrom, ends_in, node_at, own_in, stop_in}
use Rattle.search_task.specs.Legs.{AreReady, IsListed, IsStop, legs_at}
use Rattle.search_task.proofs.Marked.{cleared_fewer, cleared_here, free_misses, marks_more, misses_free}
use Rattle.best_run.proofs.Along.{ByLeg, BySegments, by_leg, by_segments, leg_fits}
use Rattle.search_task.proofs.Departing.{is_stop, legs_of}
use Rattle.search_task.proofs.Described.{among_place}
use Rattle.best_run.proofs.Eased.{Eased, ease, freer_length}
use Rattle.best_run.proofs.Freed.{Freed, Frees, free}
use Rattle.best_run.proofs.Hopeless.{mark_length}
use Rattle.best_run.proofs.Split.{own_length}
use Rattle.search_task.proofs.Words.{freer_from}
use Rattle.search_task.proofs.Marks.{length_marked}
use Rattle.search_task.proofs.Places.{below_next, one_leg}
use Rattle.search_task.proofs.Booleans.{both_first, both_second, not_both}

-- a run that has visited nothing takes each segment whose borders are not used
pub takes_free : (task : Task) (used : List Bool) (segment : Segment)
    → can_take task anywhere used segment ≡ misses used segment.borders.items
takes_free task used segment = ap (λ b. b && misses used segment.borders.items)
    (by_stop (stop_in (node_at task segment.to)))
  where
    by_stop : (stop : Bool) → may_come stop anywhere segment.to ≡ true
    by_stop true = ap not (none_marked 744 segment.to)
    by_stop false = refl

-- among no legs there is none
no_leg : (leg : Leg) (place : ℕ) → slice_get [] place ≡ Some leg → ⊥
no_leg leg zero at = cc
no_leg leg (suc place) at = cc

-- no leg leads from a stop that has none
pub none_lead : (task : Task) (used reach : List Bool) (spot : ℕ) → legs_at task spot ≡ [] → AllLead task used reach spot
none_lead task used reach spot none place leg at free =
    absurd (no_leg leg place (ap (λ (legs : List Leg). slice_get legs place) (sym none) ∙ at))

none_open : (task : Task) (used : List Bool) (spot : ℕ) (shut : List Bool) → legs_at task spot ≡ []
    → AreOpen task used spot shut
none_open task used spot shut none place leg at missed =
    absurd (no_leg leg place (ap (λ (legs : List Leg). slice_get legs place) (sym none) ∙ at))

-- a listed stop is the next one, or one before it
same_stop : (stops : List ℕ) (place other : ℕ) (stop found : ℕ) → slice_get stops place ≡ Some stop
    → slice_get stops other ≡ Some found → other ≡ place → stop ≡ found
same_stop stops place other stop found at finds same =
    let e : Some stop ≡ Some found = sym at ∙ (ap (λ i. slice_get stops i) (sym same) ∙ finds) in cc

pub next_listed : (stops : List ℕ) (place stop spot : ℕ) → slice_get stops place ≡ Some stop
    → IsListed stops (place + 1) spot → IsListed stops place spot ⊎ (stop ≡ spot)
next_listed stops place stop spot at listed =
    elim (below_next listed.0 place listed.1) [
      | inl less ↦ inl (listed.0, less, listed.2)
      | inr same ↦ inr (same_stop stops place listed.0 stop spot at listed.2 same)
    ]

pub widens_all : (task : Task) (assigned : Assigned) (spot : ℕ) (legs : List Leg) (count : ℕ) (old new : List Bool)
    → legs_at task spot ≡ legs → length legs ≤ count → WidensBelow task assigned anywhere spot count old new
    → WidensTo task assigned spot old new
widens_all task assigned spot legs count old new there all below =
    record {
      widens = below.widens;
      here = λ place leg at free.
          let low : place < length legs = slice_get_within legs place leg
          (ap (λ ws. slice_get ws place) (sym there) ∙ at) in
          below.leads place leg (omega (arith, low, all)) at (takes_free task assigned.used leg.segment ∙ free);
    }

-- a stop lay in reach before, or does so now
pub holds_known : (stop : ℕ) (reach : List Bool) → LiesAhead reach stop → Holds stop reach reach
holds_known stop reach lies = record { kept = λ spot is. is; over = λ spot is. inl is; lies = lies }

pub holds_more : (stop : ℕ) (reach : List Bool) → stop < length reach → Holds stop reach (set reach stop true)
holds_more stop reach low =
    record {
      kept = λ spot lies. set_keeps reach stop spot low lies;
      over = λ spot lies. elim (set_cases reach stop spot lies) [ inl same ↦ inr same | inr before ↦ inl before ];
      lies = get_or-set_same reach stop true false low;
    }

freer_unset : (marks used : List Bool) (n : ℕ) → Freer marks used → (IsMarked used n → ⊥)
    → Freer (set marks n false) used
freer_unset [] [] n freer none = tt
freer_unset [] (other ∷ used) n freer none = absurd freer
freer_unset (mark ∷ marks) [] n freer none = absurd freer
freer_unset (mark ∷ marks) (other ∷ used) zero freer none = ((λ is. absurd (none is)), freer.1)
freer_unset (mark ∷ marks) (other ∷ used) (suc n) freer none = (freer.0, freer_unset marks used n freer.1 none)

freer_cleared : (borders : List ℕ) (marks used : List Bool) → Freer marks used
    → ((border : ℕ) → IsAmong border borders → IsMarked used border → ⊥) → Freer (cleared_all marks borders) used
freer_cleared [] marks used freer none = freer
freer_cleared (border ∷ borders) marks used freer none =
    freer_cleared borders (set marks border false) used (freer_unset marks used border freer (none border (inl refl)))
    (λ other among. none other (inr among))

pub freer_full : (used : List Bool) → Freer (replicate (length used) true) used
freer_full [] = tt
freer_full (mark ∷ used) = ((λ is. refl), freer_full used)

cleared_open : (marks : List Bool) (borders others : List ℕ) → misses marks others ≡ true
    → misses (cleared_all marks borders) others ≡ true
cleared_open marks borders others free =
    free_misses (cleared_all marks borders) others
    (λ border among is. misses_free marks others free border among (cleared_fewer borders marks border is))

pub open_more : (task : Task) (used : List Bool) (spot place : ℕ) (leg : Leg) (first shut : List Bool)
    → slice_get (legs_at task spot) place ≡ Some leg → misses used leg.segment.borders.items ≡ true
    → Opens used first shut × AreOpenBelow task used spot place shut
    → Opens used first (cleared_all shut leg.segment.borders.items)
    × AreOpenBelow task used spot (place + 1) (cleared_all shut leg.segment.borders.items)
open_more task used spot place leg first shut here free before = (
  record {
    fewer = λ borders missed. cleared_open shut leg.segment.borders.items borders (before.0.fewer borders missed);
    kept = λ freer. freer_cleared leg.segment.borders.items shut used (before.0.kept freer)
        (misses_free used leg.segment.borders.items free);
  },
  λ other found low at missed. elim (below_next other place low) [
    | inl less ↦ cleared_open shut leg.segment.borders.items found.segment.borders.items
        (before.1 other found less at missed)
    | inr same ↦
        let is : leg ≡ found = one_leg (legs_at task spot) place other leg found here at same in
        subst (λ (w : Leg). misses (cleared_all shut leg.segment.borders.items) w.segment.borders.items ≡ true) is
        (free_misses (cleared_all shut leg.segment.borders.items) leg.segment.borders.items
        (λ border among marked. cleared_here leg.segment.borders.items shut border among marked))
  ],
)

pub open_same : (task : Task) (used : List Bool) (spot place : ℕ) (leg : Leg) (shut : List Bool)
    → slice_get (legs_at task spot) place ≡ Some leg → misses used leg.segment.borders.items ≡ false
    → AreOpenBelow task used spot place shut → AreOpenBelow task used spot (place + 1) shut
open_same task used spot place leg shut here met before other found low at missed =
    elim (below_next other place low) [
      | inl less ↦ before other found less at missed
      | inr same ↦
          let is : leg ≡ found = one_leg (legs_at task spot) place other leg found here at same in
          absurd (not_both (misses used found.segment.borders.items) missed
          (ap (λ (w : Leg). misses used w.segment.borders.items) (sym is) ∙ met))
    ]

pub open_all : (task : Task) (used : List Bool) (spot : ℕ) (legs : List Leg) (count : ℕ) (shut : List Bool)
    → legs_at task spot ≡ legs → length legs ≤ count → AreOpenBelow task used spot count shut
    → AreOpen task used spot shut
open_all task used spot legs count shut there all below place leg at missed =
    let low : place < length legs = slice_get_within legs place leg (ap (λ ws. slice_get ws place) (sym there) ∙ at) in
    below place leg (omega (arith, low, all)) at missed

-- the legs from no stop are open, those from one more are, those from one need not be, and all are
pub shut_none : (task : Task) (used reach : List Bool) → length used ≡ 279
    → IsShutBelow task used reach 0 (replicate 279 true)
shut_none task used reach whole =
    record {
      kept = subst (λ (n : ℕ). Freer (replicate n true) used) whole (freer_full used);
      open_legs = λ spot listed. absurd (let low = listed.1 in omega arith);
    }

pub shut_more : (task : Task) (used reach : List Bool) (place stop : ℕ) (old new : List Bool)
    → slice_get task.stops.items place ≡ Some stop → IsShutBelow task used reach place old → Opens used old new
    → AreOpen task used stop new → IsShutBelow task used reach (place + 1) new
shut_more task used reach place stop old new at before opens here =
    record {
      kept = opens.kept before.kept;
      open_legs = λ spot listed out. elim (next_listed task.stops.items place stop spot at listed) [
        | inl less ↦ λ index leg is_found free. opens.fewer leg.segment.borders.items
            (before.open_legs spot less out index leg is_found free)
        | inr same ↦ subst (λ (n : ℕ). AreOpen task used n new) same here
      ];
    }

pub shut_all : (task : Task) → AreReady task → (used reach : List Bool) (most : ℕ) (shut : List Bool)
    → length task.stops.items ≤ most → IsShutBelow task used reach most shut → IsShut task used reach shut
shut_all task ready used reach most shut all below =
    record {
      kept = below.kept;
      open_legs = λ spot is out. elim (ready.stops.each spot is.0 is.1) [
        | inl none ↦ none_open task used spot shut none
        | inr listed ↦ below.open_legs spot (listed.0, (let low = listed.1 in omega arith), listed.2) out
      ];
    }

does_set_out : (task : Task) (reach : List Bool) (spot : ℕ) → stop_in (node_at task spot) ≡ true
    → SetsOut task reach spot → sets_out task reach spot ≡ true
does_set_out task reach spot stops out =
    and_from (stop_in (node_at task spot)) (own_in (node_at task spot)
    || (get_or reach spot false && not (ends_in (node_at task spot)))) stops
    (by_out (own_in (node_at task spot)) (get_or reach spot false) (ends_in (node_at task spot)) out)
  where
    by_out : (own lies ends : Bool) → (own ≡ true) ⊎ ((lies ≡ true) × (ends ≡ false))
        → (own || (lies && not ends)) ≡ true
    by_out true lies ends out = refl
    by_out false lies ends (inl own) = let wrong : false ≡ true = own in absurd cc
    by_out false lies ends (inr on) = and_from lies (not ends) on.0 (ap not on.1)

pub shut_same : (task : Task) (used reach : List Bool) (place stop : ℕ) (shut : List Bool) → IsStop task stop
    → slice_get task.stops.items place ≡ Some stop → sets_out task reach stop ≡ false
    → IsShutBelow task used reach place shut → IsShutBelow task used reach (place + 1) shut
shut_same task used reach place stop shut is at none before =
    record {
      kept = before.kept;
      open_legs = λ spot listed out. elim (next_listed task.stops.items place stop spot at listed) [
        | inl less ↦ before.open_legs spot less out
        | inr same ↦ absurd (not_both (sets_out task reach stop)
            (does_set_out task reach stop is.1 (subst (SetsOut task reach) (sym same) out)) none)
      ];
    }

-- the same state with other borders used
abbrev with_used : Assigned → List Bool → Assigned
with_used assigned used = record assigned { used = used }

abbrev with_marks : PartialRun → List Bool → PartialRun
with_marks run marks = record run { visited = marks }

abbrev state_with : State → List Bool → List Bool → State
state_with (between assigned) used marks = between (with_used assigned used)
state_with (partial assigned run) used marks = partial (with_used assigned used) (with_marks run marks)

module _ (task : Task) (fit : IsFit task) (ready : AreReady task) (first reach shut : List Bool)
    (reaches : IsInReach task first reach) (shuts : IsShut task first reach shut) where
  -- borders that are used since then are used in both
  record Shares (used others : List Bool) : Type 0 where
    pub still : (border : ℕ) → IsMarked first border → IsMarked used border
    pub either : (border : ℕ) → IsMarked others border → IsMarked used border ⊎ IsMarked shut border
    pub whole : length used ≡ 279
    pub other_whole : length others ≡ 279

  shares_more : (used others : List Bool) (borders : List ℕ) → BordersFit borders → Shares used others
      → Shares (marked_all used borders) (marked_all others borders)
  shares_more used others borders fits shares =
      record {
        still = λ border is. (marks_more used borders fits shares.whole border).1 (inr (shares.still border is));
        either = λ border is. elim ((marks_more others borders fits shares.other_whole border).0 is) [
          | inl among ↦ inl ((marks_more used borders fits shares.whole border).1 (inl among))
          | inr before ↦ elim (shares.either border before) [
            | inl marked ↦ inl ((marks_more used borders fits shares.whole border).1 (inr marked))
            | inr known ↦ inr known
          ]
        ];
        whole = length_marked used borders ∙ shares.whole;
        other_whole = length_marked others borders ∙ shares.other_whole;
      }

  -- what is marked of the stops in reach is visited
  abbrev Sees : PartialRun → List Bool → Type 0
  Sees run marks = (spot : ℕ) → LiesAhead reach spot → IsMarked marks spot → IsMarked run.visited spot

  -- a run that goes on
  record Goes (assigned : Assigned) (run : PartialRun) (others marks : List Bool) : Type 0 where
    pub shares : Shares assigned.used others
    pub sees : Sees run marks
    pub spots : length run.visited ≡ 744
    pub head_is_stop : IsStop task run.head
    pub begins : IsStop task run.home
    pub head : ends_in (node_at task run.head) ≡ false → SetsOut task reach run.head
    pub home : ends_in (node_at task run.home) ≡ false → SetsOut task reach run.home

  abbrev GoesOn : State → List Bool → List Bool → Type 0
  GoesOn (between assigned) others marks = Shares assigned.used others
  GoesOn (partial assigned run) others marks = Goes assigned run others marks

  -- the next leg
  record Takes_it (others marks : List Bool) (run : PartialRun) (leg : Leg) : Type 0 where
    pub can : can_take task (with_marks run marks) others leg.segment ≡ true
    pub lies : LiesAhead reach leg.segment.to
    pub fits : SegmentFits task false leg.segment
    pub stop : IsStop task leg.segment.to

  comes : (run : PartialRun) (marks : List Bool) (spot : ℕ) → LiesAhead reach spot → Sees run marks → (stop : Bool)
      → may_come stop run spot ≡ true → may_come stop (with_marks run marks) spot ≡ true
  comes run marks spot lies sees false came = refl
  comes run marks spot lies sees true came =
      and_from (nat_lt 0 run.left) (not (get_or marks spot false))
      (both_first (nat_lt 0 run.left) (not (get_or run.visited spot false)) came)
      (unmarked (get_or marks spot false) refl)
    where
      not_both : (b : Bool) → b ≡ true → not b ≡ true → ⊥
      not_both true is none = let wrong : false ≡ true = none in cc
      not_both false is none = let wrong : false ≡ true = is in cc

      unmarked : (b : Bool) → get_or marks spot false ≡ b → not b ≡ true
      unmarked true is = absurd (not_both (get_or run.visited spot false) (sees spot lies is)
          (both_second (nat_lt 0 run.left) (not (get_or run.visited spot false)) came))
      unmarked false is = refl

  takes_it : (used others : List Bool) → Shares used others → (spot : ℕ) → IsStop task spot → SetsOut task reach spot
      → (place : ℕ) (leg : Leg) → slice_get (legs_at task spot) place ≡ Some leg
      → (run : PartialRun) (marks : List Bool) → Sees run marks → can_take task run used leg.segment ≡ true
      → Takes_it others marks run leg
  takes_it used others shares spot is out place leg at run marks sees can =
      let borders = leg.segment.borders.items in
      let come = both_first (may_come (stop_in (node_at task leg.segment.to)) run leg.segment.to)
      (misses used borders) can in
      let free : misses used borders ≡ true = both_second
      (may_come (stop_in (node_at task leg.segment.to)) run leg.segment.to) (misses used borders) can in
      let before : misses first borders ≡ true = free_misses first borders
      (λ border among marked. misses_free used borders free border among (shares.still border marked)) in
      let open_leg : misses shut borders ≡ true = shuts.open_legs spot is out place leg at before in
      let fits = leg_fits task fit spot (legs_at task spot) (legs_of task ready spot is) is.1 leg
      (among_place (legs_at task spot) place leg at) in
      record {
        can = and_from (may_come (stop_in (node_at task leg.segment.to)) (with_marks run marks) leg.segment.to)
            (misses others borders) (comes run marks leg.segment.to (reaches spot is out place leg at before) sees
            (stop_in (node_at task leg.segment.to)) come)
            (free_misses others borders (λ border among marked. elim (shares.either border marked) [
              | inl used_it ↦ misses_free used borders free border among used_it
              | inr shut_it ↦ misses_free shut borders open_leg border among shut_it
            ]));
        lies = reaches spot is out place leg at before;
        fits = fits.0;
        stop = (fits.0.to, fits.1);
      }

  sees_next : (stop : Bool) (visited marks : List Bool) (to : ℕ) → to < length visited
      → ((spot : ℕ) → LiesAhead reach spot → IsMarked marks spot → IsMarked visited spot) → (spot : ℕ)
      → LiesAhead reach spot → IsMarked (marked_if stop marks to) spot → IsMarked (marked_if stop visited to) spot
  sees_next true visited marks to low sees spot lies is =
      elim (set_cases marks to spot is) [
        | inl same ↦ subst (IsMarked (set visited to true)) same (get_or-set_same visited to true false low)
        | inr was ↦ set_keeps visited to spot low (sees spot lies was)
      ]
  sees_next false visited marks to low sees spot lies is = sees spot lies is

  goes_next : (assigned : Assigned) (run : PartialRun) (others marks : List Bool) → Shares assigned.used others
      → Sees run marks → length run.visited ≡ 744 → IsStop task run.home
      → (ends_in (node_at task run.home) ≡ false → SetsOut task reach run.home) → (leg : Leg)
      → Takes_it others marks run leg → Goes (using assigned leg.segment) (along task run leg.segment)
      (marked_all others leg.segment.borders.items) (marked_if (stop_in (node_at task leg.segment.to)) marks
      leg.segment.to)
  goes_next assigned run others marks shares sees spots begins home leg takes =
      record {
        shares = shares_more assigned.used others leg.segment.borders.items takes.fits.borders shares;
        sees = sees_next (stop_in (node_at task leg.segment.to)) run.visited marks leg.segment.to
            (omega (arith, spots, takes.fits.to)) sees;
        spots = mark_length (stop_in (node_at task leg.segment.to)) run.visited leg.segment.to ∙ spots;
        head_is_stop = takes.stop;
        begins = begins;
        head = λ passes. inr (takes.lies, passes);
        home = home;
      }

  -- moves to the end, with other borders used
  record Moved (state : State) (total : ℕ) : Type 0 where
    pub moves : List Move
    pub completes : Completes task state moves
    pub same : total_after task state moves ≡ total

  -- a segment that may be run, and the moves after it, with other borders used
  record MovedAlong (stop index : ℕ) (assigned : Assigned) (run : PartialRun) (others marks : List Bool)
      (total : ℕ) : Type 0 where
    pub segment : Segment
    pub leads : LeadsFrom task stop index segment
    pub can : can_take task (with_marks run marks) others segment ≡ true
    pub moves : List Move
    pub completes : Completes task (partial (using (with_used assigned others) segment)
        (along task (with_marks run marks) segment)) moves
    pub same : total_after task (partial (using (with_used assigned others) segment)
        (along task (with_marks run marks) segment)) moves ≡ total

  -- the leg that it begins, once the moves after a leg are
  move_along : (stop : ℕ) → IsStop task stop → SetsOut task reach stop → (assigned : Assigned) (run : PartialRun)
      (others marks : List Bool) → Shares assigned.used others → Sees run marks → length run.visited ≡ 744
      → IsStop task run.home → (ends_in (node_at task run.home) ≡ false → SetsOut task reach run.home)
      → (index : ℕ) (segment : Segment) (moves : List Move) → LeadsFrom task stop index segment
      → can_take task run assigned.used segment ≡ true
      → Completes task (partial (using assigned segment) (along task run segment)) moves
      → ((later : List Move) → length later ≤ length moves → (state : State) (others marks : List Bool)
      → GoesOn state others marks → Completes task state later
      → Moved (state_with state others marks) (total_after task state later))
      → MovedAlong stop index assigned run others marks
      (total_after task (partial (using assigned segment) (along task run segment)) moves)
  move_along stop is out assigned run others marks shares sees spots begins home index segment moves leads taken
      completes next =
      let legs = legs_at task stop in
      let are = legs_of task ready stop is in
      let by : ByLeg task fit stop is.1 legs are assigned run index segment moves =
      by_leg task fit stop is.1 legs are assigned run shares.whole index segment moves leads taken completes in
      let takes : Takes_it others marks run by.leg =
      takes_it assigned.used others shares stop is out by.place_of by.leg by.is_leg run marks sees by.can in
      let rest : Moved (partial (using (with_used assigned others) by.leg.segment)
      (along task (with_marks run marks) by.leg.segment))
      (total_after task (partial (using assigned by.leg.segment) (along task run by.leg.segment)) by.later) =
      next by.later by.shorter (partial (using assigned by.leg.segment) (along task run by.leg.segment))
      (marked_all others by.leg.segment.borders.items)
      (marked_if (stop_in (node_at task by.leg.segment.to)) marks by.leg.segment.to)
      (goes_next assigned run others marks shares sees spots begins home by.leg takes) by.completes in
      let back : BySegments task fit stop is.1 legs are (with_used assigned others) (with_marks run marks) by.leg
      rest.moves = by_segments task fit stop is.1 legs are (with_used assigned others) (with_marks run marks) by.leg
      (among_place legs by.place_of by.leg by.is_leg) takes.can rest.moves rest.completes in
      record {
        segment = back.segment;
        leads = subst (λ (n : ℕ). LeadsFrom task stop n back.segment) by.first back.leads;
        can = back.can;
        moves = back.moves;
        completes = back.completes;
        same = back.total ∙ (rest.same ∙ sym by.total);
      }

  -- and so are all moves
  move_by : (fuel : ℕ) (moves : List Move) → length moves ≤ fuel → (state : State) (others marks : List Bool)
      → GoesOn state others marks → Completes task state moves
      → Moved (state_with state others marks) (total_after task state moves)
  move_by fuel [] enough (between assigned) others marks goes completes =
      record { moves = []; completes = completes; same = refl }
  move_by fuel [] enough (partial assigned run) others marks goes completes = absurd completes
  move_by zero (move ∷ moves) enough state others marks goes completes = absurd (omega (arith, enough))
  move_by (suc fuel) (pass ∷ moves) enough (between assigned) others marks goes completes =
      let rest : Moved (between (with_used (passed assigned) others))
      (total_after task (between (passed assigned)) moves) =
      move_by fuel moves (omega (arith, enough)) (between (passed assigned)) others marks goes completes.1 in
      record { moves = pass ∷ rest.moves; completes = (completes.0, rest.completes); same = rest.same }
  move_by (suc fuel) (pass ∷ moves) enough (partial assigned run) others marks goes completes = absurd completes.0
  move_by (suc fuel) (begin stop index segment ∷ moves) enough (between assigned) others marks goes completes =
      let may = completes.0 in
      let is : IsStop task stop = is_stop task fit stop may.begins in
      let run = begun task assigned stop index in
      let spots : length run.visited ≡ 744 = length-set (own_before task stop) stop true ∙ own_length task stop in
      let by : MovedAlong stop index assigned run others run.visited
      (total_after task (partial (using assigned segment) (along task run segment)) moves) =
      move_along stop is (inl may.token) assigned run others run.visited goes (λ spot lies was. was) spots is
      (λ passes. inl may.token) index segment moves may.leads may.taken completes.1
      (λ later shorter. move_by fuel later (omega (arith, shorter, enough))) in
      record {
        moves = begin stop index by.segment ∷ by.moves;
        completes = (
          record { train = may.train; begins = may.begins; token = may.token; leads = by.leads; taken = by.can },
          by.completes,
        );
        same = by.same;
      }
  move_by (suc fuel) (begin stop index segment ∷ moves) enough (partial assigned run) others marks goes completes =
      absurd completes.0
  move_by (suc fuel) (go index segment ∷ moves) enough (between assigned) others marks goes completes =
      absurd completes.0
  move_by (suc fuel) (go index segment ∷ moves) enough (partial assigned run) others marks goes completes =
      let may = completes.0 in
      let by : MovedAlong run.head index assigned run others marks
      (total_after task (partial (using assigned segment) (along task run segment)) moves) =
      move_along run.head goes.head_is_stop (goes.head may.passes) assigned run others marks goes.shares goes.sees
      goes.spots goes.begins goes.home index segment moves may.leads may.taken completes.1
      (λ later shorter. move_by fuel later (omega (arith, shorter, enough))) in
      record {
        moves = go index by.segment ∷ by.moves;
        completes = (record { passes = may.passes; leads = by.leads; taken = by.can }, by.completes);
        same = by.same;
      }
  move_by (suc fuel) (turn index segment ∷ moves) enough (between assigned) others marks goes completes =
      absurd completes.0
  move_by (suc fuel) (turn index segment ∷ moves) enough (partial assigned run) others marks goes completes =
      let may = completes.0 in
      let back = turned_back run in
      let by : MovedAlong run.home index assigned back others marks
      (total_after task (partial (using assigned segment) (along task back segment)) moves) =
      move_along run.home goes.begins (goes.home may.passes) assigned back others marks goes.shares goes.sees goes.spots
      goes.begins goes.home index segment moves may.leads may.taken completes.1
      (λ later shorter. move_by fuel later (omega (arith, shorter, enough))) in
      record {
        moves = turn index by.segment ∷ by.moves;
        completes = (
          record {
            once = may.once;
            at_stop = may.at_stop;
            later = may.later;
            passes = may.passes;
            leads = by.leads;
            taken = by.can;
          },
          by.completes,
        );
        same = by.same;
      }
  move_by (suc fuel) (finish ∷ moves) enough (between assigned) others marks goes completes = absurd completes.0
  move_by (suc fuel) (finish ∷ moves) enough (partial assigned run) others marks goes completes =
      let rest : Moved (between (with_used (with_run_finished assigned run) others))
      (total_after task (between (with_run_finished assigned run)) moves) =
      move_by fuel moves (omega (arith, enough)) (between (with_run_finished assigned run)) others marks goes.shares
      completes.1 in
      record { moves = finish ∷ rest.moves; completes = (completes.0, rest.completes); same = rest.same }

-- a state that is alike has as many borders
pub canonical_whole : (task : Task) (assigned : Assigned) (run : Option PartialRun) (like : SearchState)
    → length assigned.used ≡ 279 → IsCanonical task assigned run like → length like.assigned.used ≡ 279
canonical_whole task assigned run like whole canonical =
    freer_length like.assigned.used assigned.used canonical.off.shut.kept ∙ whole

-- what is earned from a state is earned from one that is alike
pub low_canonical : (task : Task) → IsFit task → AreReady task
    → (assigned : Assigned) (run : Option PartialRun) (like : SearchState) → length assigned.used ≡ 279
    → IsCanonical task assigned run like → (most : ℕ) → LeadsToAtMost task (state_at like) most
    → LeadsToAtMost task (state_by assigned run) most
low_canonical task fit ready assigned run like whole canonical most low =
    by_runs run like.run canonical.begun (subst (λ (s : Assigned). LeadsToAtMost task (state_by s like.run) most)
    canonical.off.same low)
  where
    used : List Bool
    used = like.assigned.used

    shares : Shares task fit ready assigned.used canonical.reach used canonical.reaches canonical.off.shut assigned.used
        used
    shares = record {
      still = λ border is. is;
      either = λ border is. inr is;
      whole = whole;
      other_whole =
          canonical_whole task assigned run like whole canonical;
    }

    moved : (state : State) (marks : List Bool) → GoesOn task fit ready assigned.used canonical.reach used
        canonical.reaches canonical.off.shut state used marks → LeadsToAtMost task (state_with state used marks) most
        → LeadsToAtMost task state most
    moved state marks goes low moves completes =
        let there : Moved task fit ready assigned.used canonical.reach used canonical.reaches canonical.off.shut
        (state_with state used marks) (total_after task state moves) =
        move_by task fit ready assigned.used canonical.reach used canonical.reaches canonical.off.shut
        (length moves) moves (omega arith) state used marks goes completes in
        subst (λ (n : ℕ). n ≤ most) there.same (low there.moves there.completes)

    by_runs : (run other : Option PartialRun) → IsRunCanonical task canonical.reach run other
        → LeadsToAtMost task (state_by (with_used assigned used) other) most
        → LeadsToAtMost task (state_by assigned run) most
    by_runs None None like_it low = moved (between assigned) [] shares low
    by_runs None (Some other) like_it low = absurd like_it
    by_runs (Some run) None like_it low = absurd like_it
    by_runs (Some run) (Some other) like_it low =
        let on = like_it.0 in
        let barred = like_it.1 in
        moved (partial assigned run) other.visited
        (record {
          shares = shares;
          sees = barred.marks.only;
          spots = on.spots;
          head_is_stop = on.head.0;
          begins =
              on.home.0;
          head = on.head.1;
          home = on.home.1;
        })
        (subst (λ (r : PartialRun). LeadsToAtMost task (partial (with_used assigned used) r) most) barred.same low)

-- and the other way round
pub low_back : (task : Task) → IsFit task → (assigned : Assigned) (run : Option PartialRun) (like : SearchState)
    → length assigned.used ≡ 279 → IsCanonical task assigned run like → (most : ℕ)
    → LeadsToAtMost task (state_by assigned run) most → LeadsToAtMost task (state_at like) most
low_back task fit assigned run like whole canonical most low =
    subst (λ (s : Assigned). LeadsToAtMost task (state_by s like.run) most) (sym canonical.off.same)
    (by_runs run like.run canonical.begun low)
  where
    used : List Bool
    used = like.assigned.used

    from_barred : (run : PartialRun) (marks : List Bool) → Freer marks run.visited
        → LeadsToAtMost task (partial assigned run) most
        → LeadsToAtMost task (partial (with_used assigned used) (with_marks run marks)) most
    from_barred run marks freer low moves completes =
        let frees : Frees (with_used assigned used) (with_marks run marks) run.home run.first run.left run.value
        run.visited assigned.used assigned.kind assigned.cap 0 = record {
          back = λ once. (refl, refl);
          left_is = inl (omega arith);
          value_is = omega arith;
          freer = freer;
          borders = canonical.off.shut.kept;
          looser = inr (refl, omega arith);
          whole = whole;
        } in
        let easy : Freed task (with_used assigned used) (with_marks run marks) run assigned.used assigned.kind
        assigned.cap 0 assigned.total moves = free task fit moves (with_used assigned used) (with_marks run marks)
        run.home run.first run.left run.value run.visited assigned.used assigned.kind assigned.cap 0 assigned.total
        frees completes in
        omega (arith, easy.earns, low moves easy.completes)

    by_runs : (run other : Option PartialRun) → IsRunCanonical task canonical.reach run other
        → LeadsToAtMost task (state_by assigned run) most
        → LeadsToAtMost task (state_by (with_used assigned used) other) most
    by_runs None None like_it low = λ moves completes.
        let easy : Eased task assigned.kind assigned.cap (between (with_used assigned used)) moves assigned.total
        assigned.used = ease task moves assigned.kind assigned.cap (between (with_used assigned used)) assigned.total
        assigned.used (inr (refl, omega arith)) canonical.off.shut.kept completes in
        omega (arith, easy.earns, low moves easy.completes)
    by_runs None (Some other) like_it low = absurd like_it
    by_runs (Some run) None like_it low = absurd like_it
    by_runs (Some run) (Some other) like_it low =
        subst (λ (r : PartialRun). LeadsToAtMost task (partial (with_used assigned used) r) most) (sym like_it.1.same)
        (from_barred run other.visited (freer_from other.visited run.visited like_it.1.marks.whole
        like_it.1.marks.kept) low)
