-- Whatever moves lead to the end, the runs that their marks give are a legal set, and earn what the
-- moves earn.
use Rattle.std.proofs.Common.{◌≡◌, ◌↔◌, ℕ, ◌+◌, ◌<◌, ◌≤◌, true, false, not, ltb, ◌⊎◌, inl, inr, Option}
use Rattle.std.proofs.Common.{Some, None, IfSome, List, [], ◌∷◌, ◌++◌, length, get_or, drop, map, refl, sym, ap, subst}
use Rattle.std.proofs.Common.{◌∙◌, arith, length-append}
use mathlib.Core.List.{reverse_aux}
use Rattle.std.specs.List.{AllByRecursion}
use Rattle.std.proofs.lemmas.Bool.{ltb-true}
use Rattle.map_tables.specs.declared.hex.Hex.{Hex}
use Rattle.map_tables.specs.declared.place.Stop.{Stop}
use Rattle.map_tables.specs.declared.track.TrackEnd.{TrackEnd}
use Rattle.map_tables.specs.declared.track.TrackEnd.TheVariants.{Side as AtSide, Stop as AtStop}
use Rattle.reach.specs.Lawful.{IsLawful}
use Rattle.reach.specs.Position.{Position, HasToken, IsAmong, IsFull, is_red}
use Rattle.reach.specs.Search.{spot_number}
use Rattle.reach.specs.Walk.{AreJoined, BeginsAt, IsTrack, across, begins_at, entered_at, left_at, stop_of}
use Rattle.reach.specs.declared.walk.Spot.{Spot}
use Rattle.reach.specs.declared.walk.WalkStep.{WalkStep}
use Rattle.reach.proofs.Spots.{are_one, back}
use Rattle.tables.specs.Train.{stops_of}
use Rattle.tables.specs.declared.rolling_stock.Kind.{Kind}
use Rattle.tables.specs.declared.rolling_stock.Kind.TheVariants.{Two, Three, Four, Five, Six, Diesel}
use Rattle.tables.specs.declared.roster.Company.{Company}
use Rattle.legal_runs.specs.Legal.{AreAtMost, AreDistinct, EndsAtStop, HasSuch, border_at, border_of, crossed, earned}
use Rattle.legal_runs.specs.Legal.{first_stop, listed, visited}
use Rattle.legal_runs.specs.Set.{RunsLegally, ShareNoBorder, TrainRun, revenue_of_runs}
use Rattle.legal_runs.proofs.Marks.{among_both}
use Rattle.legal_runs.proofs.TwoTrain.{returning, free_of_none}
use Rattle.search_task.specs.declared.task.Segment.{Segment}
use Rattle.search_task.specs.declared.task.Task.{Task}
use Rattle.best_run.specs.declared.state.Assigned.{Assigned}
use Rattle.best_run.specs.declared.state.PartialRun.{PartialRun}
use Rattle.best_run.specs.declared.move_path.Mark.{Mark}
use Rattle.best_run.specs.declared.move_path.Mark.TheVariants.{Go, Pass, Finish, Turn}
use Rattle.best_run.specs.MovePath.{runs_of_marks, turned_about, turned_step}
use Rattle.search_task.specs.Described.{Describes, IsSegmentOf, IsSideNode, IsStepFrom, IsStopNode, most_of}
use Rattle.search_task.specs.Described.{most_of_all}
use Rattle.best_run.specs.Moves.{Allows, Completes, Move, State, along, begin, begun, between, can_take, go, marks_of}
use Rattle.best_run.specs.Moves.{may_come, may_earn, partial, pass, passed, finish, total_after, turn, turned_back}
use Rattle.best_run.specs.Moves.{using, with_run_finished}
use Rattle.search_task.specs.Spots.{ends_in, node_at, stop_in}
use Rattle.search_task.specs.Crossed.{misses}
use Rattle.search_task.specs.Marks.{IsMarked}
use Rattle.best_run.proofs.Advance.{Tells, node_left, to_home, to_side, to_stop}
use Rattle.search_task.proofs.Marked.{misses_free}
use Rattle.search_task.proofs.Described.{one_number}
use Rattle.best_run.proofs.Complete.{next_stop}
use Rattle.best_run.proofs.Prefix.{Holds, onto}
use Rattle.best_run.proofs.Branches.{AreOne, Used, begun_tells, one_turned}
use Rattle.best_run.proofs.Backwards.{Turned, walk_turned}
use Rattle.best_run.proofs.Split.{such_canonical, such_later}
use Rattle.best_run.proofs.RunsOfSet.{drop_first, drop_none}
use Rattle.best_run.proofs.Sets.{Avoids, IsSetFor}
use Rattle.search_task.proofs.Booleans.{both_first, both_second}
use Rattle.legal_runs.proofs.Tests.{not_both}

-- one border at most is at an end
end_once : (hex : Hex) (end : TrackEnd) → AreDistinct (border_at hex end ++ [])
end_once hex (AtSide side) = ((λ none. none), tt)
end_once hex (AtStop number) = tt

-- a border at an end before others that it is none of
end_before : (hex : Hex) (end : TrackEnd) (borders : List ℕ)
    → ((border : ℕ) → IsAmong border (border_at hex end) → ¬ IsAmong border borders) → AreDistinct borders
    → AreDistinct (border_at hex end ++ borders)
end_before hex (AtSide side) borders new once = ((λ among. new (border_of hex side) (inl refl) among), once)
end_before hex (AtStop number) borders new once = once

-- a walk from a stop visits one
some_visited : (step : WalkStep) (before : List WalkStep) → BeginsAt (λ stop. Unit {0}) (step ∷ before)
    → 1 ≤ length (first_stop before step ++ visited before)
some_visited step [] begins =
    let one : listed (stop_of (entered_at step)) ++ [] ≡ begins.0 ∷ [] = ap (λ o. listed o ++ []) begins.1 in
    omega (arith, ap length one)
some_visited step (earlier ∷ before) begins =
    let rest : 1 ≤ length (first_stop before earlier ++ visited before) = some_visited earlier before begins in
    omega (arith, length-append (listed (stop_of (left_at earlier))) (first_stop before earlier ++ visited before))

at_most : (most : Option ℕ) (count : ℕ) → count ≤ most_of most → AreAtMost most count
at_most (Some most) count few = few
at_most None count few = tt

-- each train may visit at least two stops
pub two_at_least : (kind : Kind) → 0 < most_of (stops_of kind)
two_at_least Two = omega arith
two_at_least Three = omega arith
two_at_least Four = omega arith
two_at_least Five = omega arith
two_at_least Six = omega arith
two_at_least Diesel = omega arith

-- a walk turned about is its steps, each the other way, the last one first
turned_walk : (steps : List WalkStep) → turned_about steps ≡ onto (returning steps) []
turned_walk steps = all_turned steps []
  where
    all_turned : (steps done : List WalkStep) → map turned_step (reverse_aux steps done)
        ≡ onto (returning steps) (map turned_step done)
    all_turned [] done = refl
    all_turned (step ∷ before) done = all_turned before (step ∷ done)

module _ (position : Position) (company : Company) (lawful : IsLawful position) (kinds : List Kind) (task : Task)
    (describes : Describes position company kinds task) where
  abbrev TellsHere : ℕ → List ℕ → Spot → List Stop → List ℕ → Assigned → PartialRun → Type 0
  TellsHere most others at stops borders assigned run = Tells task position company most others at stops borders
      assigned run

  -- what a segment that is taken says of its step
  record Went (most : ℕ) (others : List ℕ) (stops : List Stop) (borders : List ℕ) (assigned : Assigned)
      (run : PartialRun) (step : WalkStep) (segment : Segment) : Type 0 where
    pub tells : TellsHere most others (left_at step) (listed (stop_of (left_at step)) ++ stops)
        (border_at (entered_at step).hex (entered_at step).end ++ borders) (using assigned segment)
        (along task run segment)
    pub stops_once : AreDistinct stops → AreDistinct (listed (stop_of (left_at step)) ++ stops)
    pub few : length (listed (stop_of (left_at step)) ++ stops) ≤ most
    pub new : (border : ℕ) → IsAmong border (border_at (entered_at step).hex (entered_at step).end)
        → ¬ IsAmong border borders
    pub free : (border : ℕ) → IsAmong border (border_at (entered_at step).hex (entered_at step).end)
        → ¬ IsAmong border others

  went_by : (most : ℕ) (others : List ℕ) (at : Spot) (stops : List Stop) (borders : List ℕ) (assigned : Assigned)
      (run : PartialRun) → TellsHere most others at stops borders assigned run → (step : WalkStep) (segment : Segment)
      → IsSegmentOf step segment → can_take task run assigned.used segment ≡ true → (found : Option Stop)
      → stop_of (left_at step) ≡ found → Went most others stops borders assigned run step segment
  went_by most others at stops borders assigned run tells step segment is taken None side =
      let free : misses assigned.used segment.borders.items ≡ true =
      both_second (may_come (stop_in (node_at task segment.to)) run segment.to)
      (misses assigned.used segment.borders.items) taken in
      record {
        tells = subst (λ o. TellsHere most others (left_at step) (listed o ++ stops)
            (border_at (entered_at step).hex (entered_at step).end ++ borders) (using assigned segment)
            (along task run segment)) (sym side)
            (to_side position company kinds task describes most others at stops borders assigned run tells step segment
            is side);
        stops_once = λ once. subst (λ o. AreDistinct (listed o ++ stops)) (sym side) once;
        few = subst (λ o. length (listed o ++ stops) ≤ most) (sym side) (omega (arith, tells.left));
        new = λ border here before. misses_free assigned.used segment.borders.items free border
            (subst (IsAmong border) (sym is.borders) here) ((tells.used border).1 (inl before));
        free = λ border here other. misses_free assigned.used segment.borders.items free border
            (subst (IsAmong border) (sym is.borders) here) ((tells.used border).1 (inr other));
      }
  went_by most others at stops borders assigned run tells step segment is taken (Some stop) there =
      let node : IsStopNode position company stop (node_at task segment.to) =
      subst (λ (n : ℕ). IsStopNode position company stop (node_at task n)) (sym is.to)
      (node_left position company kinds task describes (left_at step) (Some stop) there) in
      let free : misses assigned.used segment.borders.items ≡ true =
      both_second (may_come (stop_in (node_at task segment.to)) run segment.to)
      (misses assigned.used segment.borders.items) taken in
      let come : may_come true run segment.to ≡ true =
      ap (λ b. may_come b run segment.to) (sym node.stops)
      ∙ both_first (may_come (stop_in (node_at task segment.to)) run segment.to)
      (misses assigned.used segment.borders.items) taken in
      let left : 0 < run.left = ltb-true 0 run.left (both_first (ltb 0 run.left)
      (not (get_or run.visited segment.to false)) come) in
      let fresh : IsMarked run.visited segment.to → ⊥ =
      not_both (get_or run.visited segment.to false) (both_second (ltb 0 run.left)
      (not (get_or run.visited segment.to false)) come) in
      record {
        tells = subst (λ o. TellsHere most others (left_at step) (listed o ++ stops)
            (border_at (entered_at step).hex (entered_at step).end ++ borders) (using assigned segment)
            (along task run segment)) (sym there)
            (to_stop position company kinds task describes most others at stops borders assigned run tells step segment
            is stop there left);
        stops_once = λ once. subst (λ o. AreDistinct (listed o ++ stops)) (sym there) (
          (λ among. fresh (subst (IsMarked run.visited) (sym is.to)
              ((tells.visited (left_at step) stop there).1 (inl among)))),
          once,
        );
        few = subst (λ o. length (listed o ++ stops) ≤ most) (sym there) (omega (arith, tells.left));
        new = λ border here before. misses_free assigned.used segment.borders.items free border
            (subst (IsAmong border) (sym is.borders) here) ((tells.used border).1 (inl before));
        free = λ border here other. misses_free assigned.used segment.borders.items free border
            (subst (IsAmong border) (sym is.borders) here) ((tells.used border).1 (inr other));
      }

  -- a run goes on only where it may pass
  may_pass : (at : Spot) (found : Option Stop) → stop_of at ≡ found → (next : Spot) → AreJoined at next
      → ends_in (node_at task (spot_number at)) ≡ false
      → IfSome (stop_of next) (λ stop. ¬ (is_red position stop ≡ true))
      × IfSome (stop_of next) (λ stop. ¬ IsFull position stop company)
  may_pass at (Some stop) there next joined passes =
      let node : IsStopNode position company stop (node_at task (spot_number at)) =
      node_left position company kinds task describes at (Some stop) there in
      let both : (¬ (is_red position stop ≡ true)) × (¬ IsFull position stop company) = node.passes.0 passes in
      let same : stop_of next ≡ Some stop = next_stop at next stop there joined in (
        subst (λ o. IfSome o (λ s. ¬ (is_red position s ≡ true))) (sym same) both.0,
        subst
            (λ o. IfSome o (λ s. ¬ IsFull position s company)) (sym same) both.1,
      )
  may_pass at None side next joined passes =
      elim joined [
        | inl one ↦ absurd (let wrong : None ≡ Some one.0 = sym side ∙ one.1 in cc)
        | inr over ↦
            let none : stop_of next ≡ None = (back position lawful at next over).1 in (
              subst (λ o. IfSome o (λ s. ¬ (is_red position s ≡ true))) (sym none) tt,
              subst
                  (λ o. IfSome o (λ s. ¬ IsFull position s company)) (sym none) tt,
            )
      ]

  -- a step from a spot with this number goes on from here
  joined_here : (at : Spot) (number : ℕ) → number ≡ spot_number at → (spot next : Spot) → spot_number spot ≡ number
      → AreJoined spot next → AreJoined at next
  joined_here at number is spot next number_is joined =
      let one : (stop_of spot ≡ stop_of at) × (across spot ≡ across at) = are_one spot at (number_is ∙ is) in
      elim joined [
        | inl same ↦ inl (same.0, sym one.0 ∙ same.1, same.2)
        | inr over ↦ inr (sym one.1 ∙ over)
      ]

  -- some runs are a set for the trains that are left, and earn what is earned from a state on
  pub record RunsEarn (others : List ℕ) (left : List Kind) (assigned : Assigned) (total : ℕ)
      (runs : List TrainRun) : Type 0 where
    pub set : IsSetFor position company left others runs
    pub earns : assigned.total + revenue_of_runs position runs ≡ total

  -- the first of some runs is that of the next train
  pub record RunEarns (others : List ℕ) (kind : Kind) (left : List Kind) (assigned : Assigned) (total : ℕ)
      (read : List TrainRun) : Type 0 where
    pub steps : List WalkStep
    pub legal : RunsLegally position company (record { kind = kind; steps = steps })
    pub avoids : Avoids others (record { kind = kind; steps = steps })
    pub runs : List TrainRun
    pub set : IsSetFor position company left (crossed steps ++ others) runs
    pub earns : assigned.total + (earned position steps + revenue_of_runs position runs) ≡ total
    pub are : read ≡ record { kind = kind; steps = steps } ∷ runs

  -- the borders of a segment change nothing in what the others earn
  keep_assigned :
      (others : List ℕ) (kind : Kind) (left : List Kind) (assigned : Assigned) (segment : Segment) (total : ℕ)
      (runs : List TrainRun) →
      RunEarns others kind left (using assigned segment) total runs → RunEarns others kind left assigned total runs
  keep_assigned others kind left assigned segment total runs read =
      record {
        steps = read.steps;
        legal = read.legal;
        avoids = read.avoids;
        runs = read.runs;
        set = read.set;
        earns =
            read.earns;
        are = read.are;
      }

  -- a run that has not turned back began where its walk does
  abbrev pub BeginsHome : PartialRun → WalkStep → List WalkStep → Type 0
  BeginsHome run step before = run.turned ≡ false → run.home ≡ spot_number (begins_at step before)

  -- from a state on some marks give such runs
  abbrev pub SoundFrom : State → ℕ → List Mark → Type 0
  SoundFrom (between assigned) total marks =
      (others : List ℕ) (left : List Kind) → Used others assigned
      → drop assigned.next task.trains.items ≡ most_of_all left
      → RunsEarn others left assigned total (runs_of_marks left [] marks)
  SoundFrom (partial assigned run) total marks =
      (others : List ℕ) (kind : Kind) (left : List Kind) (step : WalkStep) (before : List WalkStep)
      → TellsHere (most_of (stops_of kind)) others (left_at step) (visited (step ∷ before)) (crossed (step ∷ before))
      assigned run → Holds position company (most_of (stops_of kind)) others (step ∷ before)
      → HasSuch (λ stop. HasToken position stop company) (visited (step ∷ before)) → BeginsHome run step before
      → drop (assigned.next + 1) task.trains.items ≡ most_of_all left
      → RunEarns others kind left assigned total (runs_of_marks (kind ∷ left) (step ∷ before) marks)

  -- the end: all trains are assigned
  at_end : (assigned : Assigned) → length task.trains.items ≤ assigned.next
      → SoundFrom (between assigned) assigned.total []
  at_end assigned over others [] used trains =
      record {
        set = record { legal = tt; each_once = λ kind. omega arith; apart = tt; avoid = tt };
        earns =
            omega arith;
      }
  at_end assigned over others (kind ∷ left) used trains =
      absurd (omega (
        arith,
        (drop_first task.trains.items assigned.next (most_of (stops_of kind)) (most_of_all left)
            trains).0,
      ))

  -- the next train does not run
  has_passed :
      (assigned : Assigned) (total : ℕ) (marks : List Mark) → assigned.next < length task.trains.items
      → SoundFrom (between (passed assigned)) total marks →
      SoundFrom (between assigned) total (Pass ∷ marks)
  has_passed assigned total marks before rest others [] used trains =
      absurd (omega (arith, drop_none task.trains.items assigned.next trains))
  has_passed assigned total marks before rest others (kind ∷ left) used trains =
      let next = drop_first task.trains.items assigned.next (most_of (stops_of kind)) (most_of_all left) trains in
      let read : RunsEarn others left (passed assigned) total (runs_of_marks left [] marks) =
      rest others left (record { used = used.used; whole = used.whole }) next.2 in
      record {
        set = record {
          legal = read.set.legal;
          each_once = λ k. omega (arith, read.set.each_once k);
          apart =
              read.set.apart;
          avoid = read.set.avoid;
        };
        earns = read.earns;
      }

  -- a run is finished
  has_assigned :
      (assigned : Assigned) (run : PartialRun) (total : ℕ) (marks : List Mark) →
      stop_in (node_at task run.head) ≡ true →
      SoundFrom (between (with_run_finished assigned run)) total marks
      → SoundFrom (partial assigned run) total (Finish ∷ marks)
  has_assigned assigned run total marks may rest others kind left step before tells holds own home trains =
      ends_by (stop_of (left_at step)) refl
    where
      ends_by :
          (found : Option Stop) → stop_of (left_at step) ≡ found →
          RunEarns others kind left assigned total (runs_of_marks (kind ∷ left) (step ∷ before) (Finish ∷ marks))
      ends_by None side =
          let node : IsSideNode (node_at task (spot_number (left_at step))) =
          node_left position company kinds task describes (left_at step) None side in
          let stops : stop_in (node_at task (spot_number (left_at step))) ≡ true =
          subst (λ (n : ℕ). stop_in (node_at task n) ≡ true) tells.head may in
          absurd (let wrong : true ≡ false = sym stops ∙ node.stops in cc)
      ends_by (Some stop) there =
          let read : RunsEarn (crossed (step ∷ before) ++ others) left (with_run_finished assigned run) total
          (runs_of_marks left [] marks) =
          rest (crossed (step ∷ before) ++ others) left
          (record {
            used = λ border. let all : IsAmong border (crossed (step ∷ before) ++ others)
                ↔ (IsAmong border (crossed (step ∷ before)) ⊎ IsAmong border others) =
                among_both border (crossed (step ∷ before)) others in
                (λ marked. all.1 ((tells.used border).0 marked), λ among. (tells.used border).1 (all.0 among));
            whole = tells.whole;
          })
          trains
          in
          let two : 2 ≤ length (visited (step ∷ before)) =
          omega (
            arith,
            ap (λ o. length (listed o ++ (first_stop before step ++ visited before))) there,
            some_visited step before holds.begins,
          ) in
          record {
            steps = step ∷ before;
            legal = record {
              walk = holds.walk;
              begins = holds.begins;
              ends = (stop, there);
              two = two;
              most = at_most (stops_of kind) (length (visited (step ∷ before))) holds.few;
              no_stop_twice = holds.stops;
              own_token = own;
              no_border_twice = holds.borders;
              no_used_border = free_of_none (crossed (step ∷ before));
              no_red_inside = holds.red;
              no_full_inside = holds.full;
            };
            avoids = holds.free;
            runs = runs_of_marks left [] marks;
            set = read.set;
            earns = let total = read.earns in omega (arith, tells.value);
            are = refl;
          }

  -- a run goes on
  has_gone :
      (assigned : Assigned) (run : PartialRun) (index : ℕ) (segment : Segment) (total : ℕ) (marks : List Mark) →
      Allows task (partial assigned run) (go index segment)
      → SoundFrom (partial (using assigned segment) (along task run segment)) total marks →
      SoundFrom (partial assigned run) total (Go segment.step ∷ marks)
  has_gone assigned run index segment total marks may rest others kind left step before tells holds own home trains =
      let from : IsStepFrom position run.head segment = describes.sound run.head index segment may.leads in
      let next = from.step in
      let joined : AreJoined (left_at step) (entered_at next) =
      joined_here (left_at step) run.head tells.head from.goes.spot (entered_at next) from.goes.number_is
      from.goes.joined in
      let went : Went (most_of (stops_of kind)) others (visited (step ∷ before)) (crossed (step ∷ before)) assigned run
      next segment = went_by (most_of (stops_of kind)) others (left_at step) (visited (step ∷ before))
      (crossed (step ∷ before)) assigned run tells next segment from.segment_is may.taken (stop_of (left_at next))
      refl in
      let passes = may_pass (left_at step) (stop_of (left_at step)) refl (entered_at next) joined
      (subst (λ (n : ℕ). ends_in (node_at task n) ≡ false) tells.head may.passes) in
      let read : RunEarns others kind left (using assigned segment) total
      (runs_of_marks (kind ∷ left) (next ∷ step ∷ before) marks) =
      rest others kind left next (step ∷ before) went.tells
      (record {
        walk = (from.track, joined, holds.walk);
        begins = holds.begins;
        few = went.few;
        stops = went.stops_once holds.stops;
        borders = end_before (entered_at next).hex (entered_at next).end (crossed (step ∷ before)) went.new
            holds.borders;
        free = λ border among. elim ((among_both border (border_at (entered_at next).hex (entered_at next).end)
            (crossed (step ∷ before))).0 among) [ inl here ↦ went.free border here | inr old ↦ holds.free border old ];
        red = (passes.0, holds.red);
        full = (passes.1, holds.full);
      })
      (such_later (λ stop. HasToken position stop company) (listed (stop_of (left_at next))) (visited (step ∷ before))
      own) home trains
      in
      let runs : WalkStep → List TrainRun = λ last. runs_of_marks (kind ∷ left) (last ∷ step ∷ before) marks in
      keep_assigned others kind left assigned segment total (runs segment.step)
      (subst (λ (last : WalkStep). RunEarns others kind left (using assigned segment) total (runs last))
      (sym from.segment_is.step_is) read)

  -- where a run is at a stop, its walk ends at one
  ends_there : (step : WalkStep) (before : List WalkStep) (number : ℕ) → number ≡ spot_number (left_at step)
      → stop_in (node_at task number) ≡ true → (found : Option Stop) → stop_of (left_at step) ≡ found
      → EndsAtStop (step ∷ before)
  ends_there step before number is stops None side =
      let node : IsSideNode (node_at task (spot_number (left_at step))) =
      node_left position company kinds task describes (left_at step) None side in
      absurd (let wrong : false ≡ true = sym node.stops
      ∙ (ap (λ (n : ℕ). stop_in (node_at task n)) (sym is) ∙ stops) in cc)
  ends_there step before number is stops (Some stop) there = (stop, there)

  -- a run turns back: its walk is turned about, and goes on where it began
  has_turned :
      (assigned : Assigned) (run : PartialRun) (index : ℕ) (segment : Segment) (total : ℕ) (marks : List Mark) →
      Allows task (partial assigned run) (turn index segment)
      → SoundFrom (partial (using assigned segment) (along task (turned_back run) segment)) total marks →
      SoundFrom (partial assigned run) total (Turn ∷ Go segment.step ∷ marks)
  has_turned assigned run index segment total marks may rest others kind left step before tells holds own home trains =
      let most = most_of (stops_of kind) in
      let ends : EndsAtStop (step ∷ before) = ends_there step before run.head tells.head may.at_stop
      (stop_of (left_at step)) refl in
      let turned : Turned position lawful company most others step before =
      walk_turned position lawful company most others step before holds ends in
      let walk = turned.last ∷ turned.rest in
      let one : AreOne position (step ∷ before) walk =
      one_turned position company lawful kinds task describes most others step before turned in
      let at_home : run.home ≡ spot_number (left_at turned.last) = home may.once ∙ ap spot_number (sym turned.is_at) in
      let tells_back : TellsHere most others (left_at turned.last) (visited walk) (crossed walk) assigned
      (turned_back run) = to_home position company kinds task describes most others (left_at step)
      (visited (step ∷ before)) (crossed (step ∷ before)) assigned run tells (left_at turned.last) (visited walk)
      (crossed walk) at_home one.stops one.worth one.borders in
      let about : turned_about (step ∷ before) ≡ walk = turned_walk (step ∷ before) ∙ turned.is in
      subst (λ (steps : List WalkStep). RunEarns others kind left assigned total
      (runs_of_marks (kind ∷ left) steps (Go segment.step ∷ marks))) (sym about)
      (has_gone assigned (turned_back run) index segment total marks
      (record { passes = may.passes; leads = may.leads; taken = may.taken }) rest others kind left turned.last
      turned.rest tells_back turned.holds
      (such_canonical (λ stop. HasToken position stop company) (visited (step ∷ before)) (visited walk) one.stops own)
      (λ once. absurd (let wrong : true ≡ false = once in cc)) trains)

  -- a step leads from a stop with this number
  enters_stop : (number : ℕ) → stop_in (node_at task number) ≡ true → (spot next : Spot) → spot_number spot ≡ number
      → AreJoined spot next → (found : Option Stop) → stop_of spot ≡ found
      → (stop : Stop) × (stop_of next ≡ Some stop) × (number ≡ spot_number next)
  enters_stop number stops spot next number_is joined None side =
      let node : IsSideNode (node_at task (spot_number spot)) =
      node_left position company kinds task describes spot None side in
      absurd (let wrong : false ≡ true = sym node.stops
      ∙ (ap (λ (n : ℕ). stop_in (node_at task n)) number_is ∙ stops) in cc)
  enters_stop number stops spot next number_is joined (Some stop) there =
      let same : stop_of next ≡ Some stop = next_stop spot next stop there joined in
      (stop, same, sym number_is ∙ one_number spot next stop there same)

  -- the first step of a run holds
  first_holds : (most : ℕ) (others : List ℕ) (assigned : Assigned) (run : PartialRun) (step : WalkStep) (segment : Segment)
      (stop : Stop) → stop_of (entered_at step) ≡ Some stop → IsTrack position step
      → Went most others (stop ∷ []) [] assigned run step segment → Holds position company most others (step ∷ [])
  first_holds most others assigned run step segment stop there track went =
      let visits : visited (step ∷ []) ≡ listed (stop_of (left_at step)) ++ (stop ∷ []) =
      ap (λ o. listed (stop_of (left_at step)) ++ (listed o ++ [])) there in
      record {
        walk = (track, tt, tt);
        begins = (stop, there, tt);
        few = subst (λ vs. length vs ≤ most) (sym visits) went.few;
        stops = subst AreDistinct (sym visits) (went.stops_once ((λ none. none), tt));
        borders = end_once (entered_at step).hex (entered_at step).end;
        free = λ border among. elim ((among_both border (border_at (entered_at step).hex (entered_at step).end) []).0
            among) [ inl here ↦ went.free border here | inr none ↦ absurd none ];
        red = (tt, tt);
        full = (tt, tt);
      }

  -- a run of the first train before those of the others is a set
  set_more :
      (others : List ℕ) (kind : Kind) (left : List Kind) (assigned : Assigned) (total : ℕ) (runs : List TrainRun) →
      RunEarns others kind left assigned total runs → RunsEarn others (kind ∷ left) assigned total runs
  set_more others kind left assigned total runs read =
      subst (RunsEarn others (kind ∷ left) assigned total) (sym read.are)
      (record {
        set = record {
          legal = (read.legal, read.set.legal);
          each_once = λ k. omega (arith, read.set.each_once k);
          apart = (apart_by read.runs read.set.avoid, read.set.apart);
          avoid = (read.avoids, avoid_by read.runs read.set.avoid);
        };
        earns = read.earns;
      })
    where
      apart_by : (runs : List TrainRun) → AllByRecursion (Avoids (crossed read.steps ++ others)) runs
          → AllByRecursion (λ other. ShareNoBorder read.steps other.steps) runs
      apart_by [] avoid = tt
      apart_by (run ∷ runs) avoid = (
        (λ border here there. avoid.0 border there
            ((among_both border (crossed read.steps) others).1 (inl here))),
        apart_by runs avoid.1,
      )

      avoid_by : (runs : List TrainRun) → AllByRecursion (Avoids (crossed read.steps ++ others)) runs
          → AllByRecursion (Avoids others) runs
      avoid_by [] avoid = tt
      avoid_by (run ∷ runs) avoid = (
        (λ border here there. avoid.0 border here
            ((among_both border (crossed read.steps) others).1 (inr there))),
        avoid_by runs avoid.1,
      )

  -- a run begins
  has_begun :
      (assigned : Assigned) (number index : ℕ) (segment : Segment) (total : ℕ) (marks : List Mark)
      → Allows task (between assigned) (begin number index segment) →
      SoundFrom (partial (using assigned segment) (along task (begun task assigned number index) segment)) total marks →
      SoundFrom (between assigned) total (Go segment.step ∷ marks)
  has_begun assigned number index segment total marks may rest others [] used trains =
      absurd (omega (arith, may.train, drop_none task.trains.items assigned.next trains))
  has_begun assigned number index segment total marks may rest others (kind ∷ left) used trains =
      let most = most_of (stops_of kind) in
      let next = drop_first task.trains.items assigned.next most (most_of_all left) trains in
      let from : IsStepFrom position number segment = describes.sound number index segment may.leads in
      let step = from.step in
      let entered = enters_stop number may.begins from.goes.spot (entered_at step) from.goes.number_is
      from.goes.joined (stop_of from.goes.spot) refl in
      let stop = entered.0 in
      let some : 0 < most = two_at_least kind in
      let tells = begun_tells position company lawful kinds task describes others assigned used most index next.1 some
      (entered_at step) stop entered.1 in
      let here : Tells task position company most others (entered_at step) (stop ∷ []) [] assigned
      (begun task assigned number index) = subst (λ (n : ℕ). Tells task position company most others
      (entered_at step) (stop ∷ []) [] assigned (begun task assigned n index)) (sym entered.2) tells in
      let went : Went most others (stop ∷ []) [] assigned (begun task assigned number index) step segment =
      went_by most others (entered_at step) (stop ∷ []) [] assigned (begun task assigned number index) here step
      segment from.segment_is may.taken (stop_of (left_at step)) refl in
      let visits : visited (step ∷ []) ≡ listed (stop_of (left_at step)) ++ (stop ∷ []) =
      ap (λ o. listed (stop_of (left_at step)) ++ (listed o ++ [])) entered.1 in
      let tells_next = subst (λ vs. Tells task position company most others (left_at step) vs (crossed (step ∷ []))
      (using assigned segment) (along task (begun task assigned number index) segment)) (sym visits) went.tells in
      let node : IsStopNode position company stop (node_at task number) =
      subst (λ (n : ℕ). IsStopNode position company stop (node_at task n)) (sym entered.2)
      (node_left position company kinds task describes (entered_at step) (Some stop) entered.1) in
      let own : HasSuch (λ s. HasToken position s company) (visited (step ∷ [])) =
      subst (HasSuch (λ s. HasToken position s company)) (sym visits)
      (such_later (λ s. HasToken position s company) (listed (stop_of (left_at step))) (stop ∷ [])
      (inl (node.own.0 may.token))) in
      let runs : WalkStep → List TrainRun = λ first. runs_of_marks (kind ∷ left) (first ∷ []) marks in
      set_more others kind left assigned total (runs segment.step)
      (keep_assigned others kind left assigned segment total (runs segment.step)
      (subst (λ (first : WalkStep). RunEarns others kind left (using assigned segment) total (runs first))
      (sym from.segment_is.step_is)
      (rest others kind left step [] tells_next (first_holds most others assigned (begun task assigned number index)
      step segment stop entered.1 from.track went) own (λ once. entered.2) next.2)))

  pub sound_from : (moves : List Move) (state : State) → Completes task state moves
      → SoundFrom state (total_after task state moves) (marks_of moves)
  sound_from [] (between assigned) completes = at_end assigned completes
  sound_from [] (partial assigned run) completes = absurd completes
  sound_from (pass ∷ moves) (between assigned) completes =
      has_passed assigned (total_after task (between (passed assigned)) moves) (marks_of moves) completes.0
      (sound_from moves (between (passed assigned)) completes.1)
  sound_from (pass ∷ moves) (partial assigned run) completes = absurd completes.0
  sound_from (begin number index segment ∷ moves) (between assigned) completes =
      has_begun assigned number index segment (total_after task
      (partial (using assigned segment) (along task (begun task assigned number index) segment)) moves)
      (marks_of moves) completes.0 (sound_from moves
      (partial (using assigned segment) (along task (begun task assigned number index) segment)) completes.1)
  sound_from (begin number index segment ∷ moves) (partial assigned run) completes = absurd completes.0
  sound_from (go index segment ∷ moves) (between assigned) completes = absurd completes.0
  sound_from (go index segment ∷ moves) (partial assigned run) completes =
      has_gone assigned run index segment (total_after task (partial (using assigned segment) (along task run segment))
      moves) (marks_of moves) completes.0 (sound_from moves
      (partial (using assigned segment) (along task run segment)) completes.1)
  sound_from (turn index segment ∷ moves) (between assigned) completes = absurd completes.0
  sound_from (turn index segment ∷ moves) (partial assigned run) completes =
      has_turned assigned run index segment (total_after task
      (partial (using assigned segment) (along task (turned_back run) segment)) moves) (marks_of moves) completes.0
      (sound_from moves (partial (using assigned segment) (along task (turned_back run) segment)) completes.1)
  sound_from (finish ∷ moves) (between assigned) completes = absurd completes.0
  sound_from (finish ∷ moves) (partial assigned run) completes =
      has_assigned assigned run (total_after task (between (with_run_finished assigned run)) moves) (marks_of moves)
      (both_first (stop_in (node_at task run.head)) (may_earn assigned.kind assigned.cap run.most run.value)
      completes.0) (sound_from moves (between (with_run_finished assigned run)) completes.1)
