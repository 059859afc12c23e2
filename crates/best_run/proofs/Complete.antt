-- A run that holds is gone over step by step: from where it is to its end, where it is finished.
use Rattle.std.proofs.Common.{◌≡◌, ℕ, ◌<◌, ◌≤◌, true, false, not, ltb, inl, inr, Option, Some, None, IfSome}
use Rattle.std.proofs.Common.{List, [], ◌∷◌, ◌++◌, length, get_or, refl, sym, ap, subst, ◌∙◌, arith}
use Rattle.std.proofs.lemmas.Bool.{and_from, lt-ltb}
use Rattle.map_tables.specs.declared.hex.Hex.{Hex}
use Rattle.map_tables.specs.declared.place.Stop.{Stop}
use Rattle.map_tables.specs.declared.track.TrackEnd.{TrackEnd}
use Rattle.map_tables.specs.declared.track.TrackEnd.TheVariants.{Side as AtSide, Stop as AtStop}
use Rattle.reach.specs.Position.{Position, IsAmong, IsFull, is_red}
use Rattle.reach.specs.Search.{spot_number}
use Rattle.reach.specs.Walk.{AreJoined, across_end, entered_at, stop_at_end, left_at, stop_of}
use Rattle.reach.specs.declared.walk.Spot.{Spot}
use Rattle.reach.specs.declared.walk.WalkStep.{WalkStep}
use Rattle.tables.specs.declared.rolling_stock.Kind.{Kind}
use Rattle.tables.specs.declared.roster.Company.{Company}
use Rattle.legal_runs.specs.Legal.{AreDistinct, EndsAtStop, border_at, crossed, earned, listed, visited}
use Rattle.legal_runs.proofs.Marks.{among_both}
use Rattle.search_task.specs.declared.task.Segment.{Segment}
use Rattle.search_task.specs.declared.task.Task.{Task}
use Rattle.best_run.specs.declared.state.Assigned.{Assigned}
use Rattle.best_run.specs.declared.state.PartialRun.{PartialRun}
use Rattle.search_task.specs.Described.{Describes, GoesFrom, HasSegmentOf, IsSegmentOf, IsSideNode, IsStopNode}
use Rattle.best_run.specs.Moves.{Completes, Move, State, along, between, can_take, go, may_come, may_earn, own_before}
use Rattle.best_run.specs.Moves.{partial, finish, total_after, using, with_run_finished}
use Rattle.search_task.specs.Spots.{ends_in, node_at, stop_in}
use Rattle.search_task.specs.Crossed.{misses}
use Rattle.search_task.specs.Marks.{IsMarked}
use Rattle.best_run.proofs.Advance.{Tells, node_left, to_side, to_stop}
use Rattle.search_task.proofs.Marked.{free_misses}
use Rattle.best_run.proofs.Prefix.{Holds, distinct_apart, holds_first, onto}
use Rattle.legal_runs.proofs.Tests.{to_not}

-- some moves lead from a state to the end, and earn this much
abbrev pub CanFinish : Task → State → ℕ → Type 0
CanFinish task state total = (moves : List Move) × Completes task state moves × (total_after task state moves ≡ total)

-- a step from a stop is entered there
pub next_stop : (at next : Spot) (stop : Stop) → stop_of at ≡ Some stop → AreJoined at next → stop_of next ≡ Some stop
next_stop at next stop there joined =
    elim joined [
      | inl one ↦ (let same : Some one.0 ≡ Some stop = sym one.1 ∙ there in one.2 ∙ same)
      | inr over ↦ absurd (no_stop at.hex at.end stop next there over)
    ]
  where
    no_stop : (hex : Hex) (end : TrackEnd) (stop : Stop) (next : Spot) → stop_at_end hex end ≡ Some stop
        → across_end hex end ≡ Some next → ⊥
    no_stop hex (AtSide side) stop next is over = cc
    no_stop hex (AtStop number) stop next is over = cc

-- a walk is where its latest step is left
abbrev pub EndsAt : List WalkStep → Spot → Type 0
EndsAt [] at = ⊥
EndsAt (step ∷ before) at = left_at step ≡ at

-- what is visited at the beginning of a walk is visited by it
pub visited_first : (later : List WalkStep) (step : WalkStep) (before : List WalkStep) (stop : Stop)
    → IsAmong stop (visited (step ∷ before)) → IsAmong stop (visited (onto later (step ∷ before)))
visited_first [] step before stop among = among
visited_first (next ∷ later) step before stop among =
    visited_first later next (step ∷ before) stop ((among_both stop (listed (stop_of (left_at next)))
    (visited (step ∷ before))).1 (inr among))

-- none of these stops is passed over by a run that begins at a number
abbrev pub AreAhead : Task → ℕ → List Stop → Type 0
AreAhead task home stops =
    (spot : Spot) (stop : Stop) → stop_of spot ≡ Some stop → IsAmong stop stops
    → ¬ IsMarked (own_before task home) (spot_number spot)

-- what a run keeps as it goes on
pub record StaysSo (assigned after : Assigned) (run done : PartialRun) : Type 0 where
  pub next : after.next ≡ assigned.next
  pub total : after.total ≡ assigned.total
  pub kind : after.kind ≡ assigned.kind
  pub cap : after.cap ≡ assigned.cap
  pub most : done.most ≡ run.most
  pub home : done.home ≡ run.home
  pub first : done.first ≡ run.first
  pub turned : done.turned ≡ run.turned

module _ (position : Position) (company : Company) (kinds : List Kind) (task : Task)
    (describes : Describes position company kinds task) (most : ℕ) (others : List ℕ) where
  -- what some moves say of a run
  abbrev pub TellsHere : Spot → List Stop → List ℕ → Assigned → PartialRun → Type 0
  TellsHere at stops borders assigned run = Tells task position company most others at stops borders assigned run

  -- the next step of a walk that holds, by its segment
  pub record CanGo (at : Spot) (stops : List Stop) (borders : List ℕ) (assigned : Assigned) (run : PartialRun)
      (step : WalkStep) (segment : Segment) : Type 0 where
    pub taken : can_take task run assigned.used segment ≡ true
    pub tells : TellsHere (left_at step) (listed (stop_of (left_at step)) ++ stops)
        (border_at (entered_at step).hex (entered_at step).end ++ borders) (using assigned segment)
        (along task run segment)

  -- the borders of a step are free
  step_free : (at : Spot) (stops : List Stop) (borders : List ℕ) (assigned : Assigned) (run : PartialRun)
      → TellsHere at stops borders assigned run → (step : WalkStep) (segment : Segment) → IsSegmentOf step segment
      → AreDistinct (border_at (entered_at step).hex (entered_at step).end ++ borders)
      → ((border : ℕ) → IsAmong border (border_at (entered_at step).hex (entered_at step).end ++ borders)
      → ¬ IsAmong border others) → misses assigned.used segment.borders.items ≡ true
  step_free at stops borders assigned run tells step segment is distinct free =
      let new = border_at (entered_at step).hex (entered_at step).end in
      free_misses assigned.used segment.borders.items
      (λ border among marked.
      let here : IsAmong border new = subst (IsAmong border) is.borders among in
      elim ((tells.used border).0 marked) [
        | inl own ↦ distinct_apart new borders distinct border here own
        | inr other ↦ free border ((among_both border new borders).1 (inl here)) other
      ])

  -- so the step can be taken
  by_left : (at : Spot) (stops : List Stop) (borders : List ℕ) (assigned : Assigned) (run : PartialRun)
      → TellsHere at stops borders assigned run → (step : WalkStep) (segment : Segment) → IsSegmentOf step segment
      → misses assigned.used segment.borders.items ≡ true → (found : Option Stop) → stop_of (left_at step) ≡ found
      → AreDistinct (listed found ++ stops) → length (listed found ++ stops) ≤ most
      → AreAhead task run.home (listed found) → CanGo at stops borders assigned run step segment
  by_left at stops borders assigned run tells step segment is free None side distinct few ahead =
      let node : IsSideNode (node_at task segment.to) =
      subst (λ (n : ℕ). IsSideNode (node_at task n)) (sym is.to)
      (node_left position company kinds task describes (left_at step) None side) in
      record {
        taken = and_from (may_come (stop_in (node_at task segment.to)) run segment.to)
            (misses assigned.used segment.borders.items) (ap (λ b. may_come b run segment.to) node.stops) free;
        tells = subst (λ o. TellsHere (left_at step) (listed o ++ stops)
            (border_at (entered_at step).hex (entered_at step).end ++ borders) (using assigned segment)
            (along task run segment)) (sym side)
            (to_side position company kinds task describes most others at stops borders assigned run tells step segment
            is side);
      }
  by_left at stops borders assigned run tells step segment is free (Some stop) there distinct few ahead =
      let node : IsStopNode position company stop (node_at task segment.to) =
      subst (λ (n : ℕ). IsStopNode position company stop (node_at task n)) (sym is.to)
      (node_left position company kinds task describes (left_at step) (Some stop) there) in
      let left : 0 < run.left = omega (arith, tells.left) in
      let new : IsMarked run.visited segment.to → ⊥ =
      λ marked. elim ((tells.visited (left_at step) stop there).0 (subst (IsMarked run.visited) is.to marked)) [
        | inl here ↦ distinct.0 here
        | inr passed ↦ ahead (left_at step) stop there (inl refl) passed
      ] in
      record {
        taken = and_from (may_come (stop_in (node_at task segment.to)) run segment.to)
            (misses assigned.used segment.borders.items)
            (ap (λ b. may_come b run segment.to) node.stops
            ∙ and_from (ltb 0 run.left) (not (get_or run.visited segment.to false)) (lt-ltb 0 run.left left)
            (to_not (get_or run.visited segment.to false) new)) free;
        tells = subst (λ o. TellsHere (left_at step) (listed o ++ stops)
            (border_at (entered_at step).hex (entered_at step).end ++ borders) (using assigned segment)
            (along task run segment)) (sym there)
            (to_stop position company kinds task describes most others at stops borders assigned run tells step segment
            is stop there left);
      }

  pub can_go : (at : Spot) (stops : List Stop) (borders : List ℕ) (assigned : Assigned) (run : PartialRun)
      → TellsHere at stops borders assigned run → (step : WalkStep) (segment : Segment) → IsSegmentOf step segment
      → AreDistinct (listed (stop_of (left_at step)) ++ stops)
      → length (listed (stop_of (left_at step)) ++ stops) ≤ most
      → AreDistinct (border_at (entered_at step).hex (entered_at step).end ++ borders)
      → ((border : ℕ) → IsAmong border (border_at (entered_at step).hex (entered_at step).end ++ borders)
      → ¬ IsAmong border others) → AreAhead task run.home (listed (stop_of (left_at step)))
      → CanGo at stops borders assigned run step segment
  can_go at stops borders assigned run tells step segment is stops_once few borders_once free ahead =
      by_left at stops borders assigned run tells step segment is
      (step_free at stops borders assigned run tells step segment is borders_once free)
      (stop_of (left_at step)) refl stops_once few ahead

  -- a run may go on from a spot with this number
  pub passes_by : (at : Spot) (found : Option Stop) → stop_of at ≡ found → (number : ℕ) → number ≡ spot_number at
      → (next : Spot) → AreJoined at next → IfSome (stop_of next) (λ stop. ¬ (is_red position stop ≡ true))
      → IfSome (stop_of next) (λ stop. ¬ IsFull position stop company) → ends_in (node_at task number) ≡ false
  passes_by at None side number is next joined red full =
      let node : IsSideNode (node_at task number) = subst (λ (n : ℕ). IsSideNode (node_at task n)) (sym is)
      (node_left position company kinds task describes at None side) in
      node.passes
  passes_by at (Some stop) there number is next joined red full =
      let node : IsStopNode position company stop (node_at task number) =
      subst (λ (n : ℕ). IsStopNode position company stop (node_at task n)) (sym is)
      (node_left position company kinds task describes at (Some stop) there) in
      let same : stop_of next ≡ Some stop = next_stop at next stop there joined in
      node.passes.1 (
        subst (λ o. IfSome o (λ s. ¬ (is_red position s ≡ true))) same red,
        subst
            (λ o. IfSome o (λ s. ¬ IsFull position s company)) same full,
      )

  -- where a walk that ends at a stop is, there is one
  pub ends_at_stop : (walk : List WalkStep) (at : Spot) → EndsAt walk at → EndsAtStop walk → (number : ℕ)
      → number ≡ spot_number at → stop_in (node_at task number) ≡ true
  ends_at_stop [] at at_end ends number is = absurd at_end
  ends_at_stop (step ∷ before) at at_end ends number is =
      let there : stop_of at ≡ Some ends.0 = ap stop_of (sym at_end) ∙ ends.1 in
      let node : IsStopNode position company ends.0 (node_at task (spot_number at)) =
      node_left position company kinds task describes at (Some ends.0) there in
      subst (λ (n : ℕ). stop_in (node_at task n) ≡ true) (sym is) node.stops

  -- a run that has been gone over is finished, if what comes after it can be finished
  pub finish_run : (walk : List WalkStep) (at : Spot) (assigned : Assigned) (run : PartialRun) (total : ℕ)
      → TellsHere at (visited walk) (crossed walk) assigned run → EndsAt walk at → EndsAtStop walk
      → may_earn assigned.kind assigned.cap run.most (earned position walk) ≡ true
      → CanFinish task (between (with_run_finished assigned run)) total → CanFinish task (partial assigned run) total
  finish_run walk at assigned run total tells at_end ends may rest =
      let stops : stop_in (node_at task run.head) ≡ true = ends_at_stop walk at at_end ends run.head tells.head in
      let earns : may_earn assigned.kind assigned.cap run.most run.value ≡ true =
      subst (λ (v : ℕ). may_earn assigned.kind assigned.cap run.most v ≡ true) (sym tells.value) may in (
        finish ∷ rest.0,
        (
          and_from (stop_in (node_at task run.head)) (may_earn assigned.kind assigned.cap run.most run.value)
              stops earns,
          rest.1,
        ),
        rest.2,
      )

  -- the steps to the end of a walk, if what comes after them can be finished
  pub walk_on : (later : List WalkStep) (step : WalkStep) (before : List WalkStep) (assigned : Assigned) (run : PartialRun)
      (total : ℕ) → TellsHere (left_at step) (visited (step ∷ before)) (crossed (step ∷ before)) assigned run
      → Holds position company most others (onto later (step ∷ before))
      → AreAhead task run.home (visited (onto later (step ∷ before)))
      → ((last : Spot) (after : Assigned) (done : PartialRun) → StaysSo assigned after run done
      → EndsAt (onto later (step ∷ before)) last → TellsHere last (visited (onto later (step ∷ before)))
      (crossed (onto later (step ∷ before))) after done → CanFinish task (partial after done) total)
      → CanFinish task (partial assigned run) total
  walk_on [] step before assigned run total tells holds ahead done =
      done (left_at step) assigned run (record {
        next = refl;
        total = refl;
        kind = refl;
        cap = refl;
        most =
            refl;
        home = refl;
        first = refl;
        turned = refl;
      }) refl tells
  walk_on (next ∷ later) step before assigned run total tells holds ahead done =
      let first : Holds position company most others (next ∷ step ∷ before) =
      holds_first position company most others later next (step ∷ before) holds in
      let goes : GoesFrom run.head next = record {
        spot = left_at step;
        number_is = sym tells.head;
        joined =
            first.walk.1;
      } in
      let has : HasSegmentOf task run.head next = describes.complete run.head next first.walk.0 goes in
      let near : AreAhead task run.home (listed (stop_of (left_at next))) =
      λ spot stop there among. ahead spot stop there
      (visited_first later next (step ∷ before) stop
      ((among_both stop (listed (stop_of (left_at next))) (visited (step ∷ before))).1 (inl among))) in
      let go_next : CanGo (left_at step) (visited (step ∷ before)) (crossed (step ∷ before)) assigned run next
      has.segment = can_go (left_at step) (visited (step ∷ before)) (crossed (step ∷ before)) assigned run tells
      next has.segment has.segment_is first.stops first.few first.borders first.free near in
      let passes : ends_in (node_at task run.head) ≡ false =
      passes_by (left_at step) (stop_of (left_at step)) refl run.head tells.head (entered_at next) first.walk.1
      first.red.0 first.full.0 in
      let rest : CanFinish task (partial (using assigned has.segment) (along task run has.segment)) total =
      walk_on later next (step ∷ before) (using assigned has.segment) (along task run has.segment) total go_next.tells
      holds ahead
      (λ last after run_done stays at_end tells_next. done last after run_done
      (record {
        next = stays.next;
        total = stays.total;
        kind = stays.kind;
        cap = stays.cap;
        most =
            stays.most;
        home = stays.home;
        first = stays.first;
        turned = stays.turned;
      }) at_end tells_next)
      in (
        go has.index has.segment ∷ rest.0,
        (
          record { passes = passes; leads = has.leads; taken = go_next.taken },
          rest.1,
        ),
        rest.2,
      )
