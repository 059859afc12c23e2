-- Each legal run is met: from the first of its tokens along one branch, and then, if it has
-- another, back at the token and along that. The first branch is the one whose first segment is
-- before the other's.
use Rattle.std.proofs.Common.{◌≡◌, ◌↔◌, ℕ, ◌+◌, ◌<◌, ◌≤◌, true, false, ◌⊎◌, inl, inr, Some, List, [], ◌∷◌, ◌++◌, length}
use Rattle.std.proofs.Common.{get_or, set, refl, sym, ap, subst, ◌∙◌, arith, length-set}
use Rattle.map_tables.specs.declared.place.Stop.{Stop}
use Rattle.reach.specs.Lawful.{IsLawful}
use Rattle.reach.specs.Position.{Position, HasToken, IsAmong}
use Rattle.reach.specs.Search.{spot_number}
use Rattle.reach.specs.Walk.{BeginsAt, begins_at, entered_at, left_at, stop_of}
use Rattle.reach.specs.declared.walk.Spot.{Spot}
use Rattle.reach.specs.declared.walk.WalkStep.{WalkStep}
use Rattle.reach.proofs.Spots.{stop_number}
use Rattle.tables.specs.declared.rolling_stock.Kind.{Kind}
use Rattle.tables.specs.declared.roster.Company.{Company}
use Rattle.legal_runs.specs.Legal.{AreDistinct, EndsAtStop, HasSuch, crossed, earned, listed, visited, worth}
use Rattle.legal_runs.proofs.Marks.{among_both}
use Rattle.legal_runs.proofs.RunReached.{flip_enters, flipped}
use Rattle.legal_runs.proofs.TwoTrain.{returning}
use Rattle.search_task.specs.declared.task.Segment.{Segment}
use Rattle.search_task.specs.declared.task.Task.{Task}
use Rattle.best_run.specs.declared.state.Assigned.{Assigned}
use Rattle.best_run.specs.declared.state.PartialRun.{PartialRun}
use Rattle.search_task.specs.Described.{Describes, GoesFrom, HasSegmentOf, IsSegmentOf, IsStopNode}
use Rattle.search_task.specs.Spots.{LeadsFrom, ends_in, node_at, stop_in}
use Rattle.best_run.specs.Moves.{along, begin, begun, between, may_earn, own_before, partial, turn, turned_back, using}
use Rattle.best_run.specs.Moves.{with_run_finished}
use Rattle.search_task.specs.Marks.{IsMarked}
use Rattle.best_run.proofs.Advance.{Tells, node_left, to_home}
use Rattle.search_task.proofs.Marked.{mark_more}
use Rattle.search_task.proofs.Described.{one_number, same_spot, spot_low}
use Rattle.best_run.proofs.Backwards.{AreCanonical, Starts, Turned, canonical_back, canonical_onto, onto_append}
use Rattle.best_run.proofs.Backwards.{walk_turned, worth_back}
use Rattle.best_run.proofs.Complete.{AreAhead, CanFinish, CanGo, EndsAt, can_go, next_stop, passes_by, finish_run}
use Rattle.best_run.proofs.Complete.{ends_at_stop, visited_first, walk_on}
use Rattle.best_run.proofs.Prefix.{Holds, holds_first, onto}
use Rattle.best_run.proofs.Split.{HasHome, cut, either_way, find_home, holds_part, number_of, onto_put, own_length}

-- what is assigned, with the borders that are used
pub record Used (others : List ℕ) (assigned : Assigned) : Type 0 where
  pub used : (border : ℕ) → IsMarked assigned.used border ↔ IsAmong border others
  pub whole : length assigned.used ≡ 279

-- the same borders in another order
used_canonical : (xs ys others : List ℕ) → AreCanonical xs ys → (assigned : Assigned) → Used (xs ++ others) assigned
    → Used (ys ++ others) assigned
used_canonical xs ys others canonical assigned used =
    record {
      used = λ border.
          let first = among_both border xs others in
          let second = among_both border ys others in (
            λ marked. elim (first.0 ((used.used border).0 marked)) [
              | inl here ↦ second.1 (inl ((canonical.among border).0 here))
              | inr other ↦ second.1 (inr other)
            ],
            λ among. (used.used border).1 (elim (second.0 among) [
              | inl here ↦ first.1 (inl ((canonical.among border).1 here))
              | inr other ↦ first.1 (inr other)
            ]),
          );
      whole = used.whole;
    }

ahead_canonical : (task : Task) (home : ℕ) (xs ys : List Stop) → AreCanonical xs ys → AreAhead task home xs
    → AreAhead task home ys
ahead_canonical task home xs ys canonical ahead spot stop there among =
    ahead spot stop there ((canonical.among stop).1 among)

-- one walk visits the same stops as another, and crosses the same borders
pub record AreOne (position : Position) (walk other : List WalkStep) : Type 0 where
  pub stops : AreCanonical (visited walk) (visited other)
  pub borders : AreCanonical (crossed walk) (crossed other)
  pub worth : worth position (visited walk) ≡ worth position (visited other)

one_back : (position : Position) (walk other : List WalkStep) → AreOne position walk other → AreOne position other walk
one_back position walk other one =
    record {
      stops = canonical_back (visited walk) (visited other) one.stops;
      borders = canonical_back (crossed walk) (crossed other) one.borders;
      worth = sym one.worth;
    }

-- the latest step of a walk
record HasLatest (walk : List WalkStep) : Type 0 where
  pub last : WalkStep
  pub rest : List WalkStep
  pub is : walk ≡ last ∷ rest

latest_of : (later : List WalkStep) (step : WalkStep) (before : List WalkStep) → HasLatest (onto later (step ∷ before))
latest_of [] step before = record { last = step; rest = before; is = refl }
latest_of (next ∷ later) step before = latest_of later next (step ∷ before)

starts_on : (later : List WalkStep) (step : WalkStep) (before : List WalkStep) (at : Spot) → Starts (step ∷ before) at
    → Starts (onto later (step ∷ before)) at
starts_on [] step before at starts = starts
starts_on (next ∷ later) step before at starts = starts_on later next (step ∷ before) at starts

returning_put : (xs ys : List WalkStep) → returning (xs ++ ys) ≡ returning xs ++ returning ys
returning_put [] ys = refl
returning_put (step ∷ xs) ys = ap (λ rest. flipped step ∷ rest) (returning_put xs ys)

-- a walk turned about is its beginning turned about, after its later part turned about
turned_put : (later : List WalkStep) (last : WalkStep) (before walk : List WalkStep) → onto (returning later) [] ≡ walk
    → onto (returning (later ++ last ∷ before)) [] ≡ onto (returning before) (flipped last ∷ walk)
turned_put later last before walk is =
    ap (λ (steps : List WalkStep). onto steps []) (returning_put later (last ∷ before))
    ∙ onto_append (returning later) (returning (last ∷ before)) []
    ∙ ap (λ (done : List WalkStep). onto (returning before) (flipped last ∷ done)) is

module _ (position : Position) (company : Company) (lawful : IsLawful position) (kinds : List Kind) (task : Task)
    (describes : Describes position company kinds task) where
  -- a walk turned about is one with it
  pub one_turned : (most : ℕ) (others : List ℕ) (step : WalkStep) (before : List WalkStep)
      → (turned : Turned position lawful company most others step before)
      → AreOne position (step ∷ before) (turned.last ∷ turned.rest)
  one_turned most others step before turned =
      record {
        stops = subst (AreCanonical (visited (step ∷ before))) (sym turned.visits)
            (canonical_onto (visited (step ∷ before)));
        borders = subst (AreCanonical (crossed (step ∷ before))) (sym turned.crosses)
            (canonical_onto (crossed (step ∷ before)));
        worth = sym (ap (worth position) turned.visits ∙ worth_back position (visited (step ∷ before)));
      }

  -- a run that is to begin
  pub begun_tells : (others : List ℕ) (assigned : Assigned) → Used others assigned → (most first : ℕ)
      → get_or task.trains.items assigned.next 0 ≡ most → 0 < most → (at : Spot) (stop : Stop) → stop_of at ≡ Some stop
      → Tells task position company most others at (stop ∷ []) [] assigned (begun task assigned (spot_number at) first)
  begun_tells others assigned used most first most_is some at stop there =
      let node : IsStopNode position company stop (node_at task (spot_number at)) =
      node_left position company kinds task describes at (Some stop) there in
      let marks = own_before task (spot_number at) in
      let low : spot_number at < length marks = omega (arith, own_length task (spot_number at), spot_low at) in
      record {
        head = refl;
        left = omega arith;
        value = omega (arith, node.value);
        visited = λ spot other other_is.
            let one : IsMarked (set marks (spot_number at) true) (spot_number spot)
            ↔ ((spot_number spot ≡ spot_number at) ⊎ IsMarked marks (spot_number spot)) =
            mark_more marks (spot_number at) (spot_number spot) low in (
              λ marked. elim (one.0 marked) [
                | inl same ↦ inl (inl (sym (same_spot spot at other stop other_is there same)))
                | inr before ↦ inr before
              ],
              λ either. elim either [
                | inl among ↦ elim among [
                  | inl same ↦ one.1 (inl (one_number spot at other other_is (there ∙ ap (λ (s : Stop). Some s) same)))
                  | inr none ↦ absurd none
                ]
                | inr passed ↦ one.1 (inr passed)
              ],
            );
        used = λ border. (
          λ marked. inr ((used.used border).0 marked),
          λ among. elim among
              [ inl none ↦ absurd none | inr other ↦ (used.used border).1 other ],
        );
        spots = length-set marks (spot_number at) true ∙ own_length task (spot_number at);
        whole = used.whole;
      }

  module _ (others : List ℕ) (assigned : Assigned) (used : Used others assigned) (most : ℕ)
      (train : assigned.next < length task.trains.items) (most_is : get_or task.trains.items assigned.next 0 ≡ most)
      (total : ℕ) where
    -- what comes after a run that is finished
    abbrev Done : List WalkStep → Type 0
    Done walk =
        (after : Assigned) → after.next ≡ assigned.next + 1 → after.total ≡ assigned.total + earned position walk
        → after.kind ≡ most → after.cap ≡ earned position walk → Used (crossed walk ++ others) after
        → CanFinish task (between after) total

    abbrev MayEarn : List WalkStep → Type 0
    MayEarn walk = may_earn assigned.kind assigned.cap most (earned position walk) ≡ true

    -- the first step of a run from a token
    begin_run : (step : WalkStep) (home : Stop) → stop_of (entered_at step) ≡ Some home → HasToken position home company
        → (index : ℕ) (segment : Segment) → LeadsFrom task (spot_number (entered_at step)) index segment
        → IsSegmentOf step segment → Holds position company most others (step ∷ [])
        → AreAhead task (spot_number (entered_at step)) (visited (step ∷ []))
        → (Tells task position company most others (left_at step) (visited (step ∷ [])) (crossed (step ∷ []))
        (using assigned segment) (along task (begun task assigned (spot_number (entered_at step)) index) segment)
        → CanFinish task (partial (using assigned segment)
        (along task (begun task assigned (spot_number (entered_at step)) index) segment)) total)
        → CanFinish task (between assigned) total
    begin_run step home there token index segment leads is first ahead rest =
        let at = entered_at step in
        let node : IsStopNode position company home (node_at task (spot_number at)) =
        node_left position company kinds task describes at (Some home) there in
        let visits : visited (step ∷ []) ≡ listed (stop_of (left_at step)) ++ (home ∷ []) =
        ap (λ o. listed (stop_of (left_at step)) ++ (listed o ++ [])) there in
        let some : 0 < most = some_left (listed (stop_of (left_at step))) home
        (subst (λ vs. length vs ≤ most) visits first.few) in
        let run = begun task assigned (spot_number at) index in
        let tells = begun_tells others assigned used most index most_is some at home there in
        let near : AreAhead task (spot_number at) (listed (stop_of (left_at step))) =
        λ spot stop at_stop among. ahead spot stop at_stop
        ((among_both stop (listed (stop_of (left_at step))) _).1 (inl among)) in
        let can : CanGo position company kinds task describes most others at (home ∷ []) [] assigned run step segment =
        can_go position company kinds task describes most others at (home ∷ []) [] assigned run tells step segment is
        (subst AreDistinct visits first.stops) (subst (λ vs. length vs ≤ most) visits first.few) first.borders
        first.free near in
        let tells_next = subst (λ vs. Tells task position company most others (left_at step) vs (crossed (step ∷ []))
        (using assigned segment) (along task run segment)) (sym visits) can.tells in
        let end = rest tells_next in (
          begin (spot_number at) index segment ∷ end.0,
          (
            record {
              train = train;
              begins = node.stops;
              token = node.own.1 token;
              leads = leads;
              taken =
                  can.taken;
            },
            end.1,
          ),
          end.2,
        )
      where
        some_left : (stops : List Stop) (stop : Stop) → length (stops ++ (stop ∷ [])) ≤ most → 0 < most
        some_left [] stop few = omega arith
        some_left (other ∷ stops) stop few = omega arith

    -- a run that has been gone over is finished
    finish_here : (walk : List WalkStep) (last : Spot) (after : Assigned) (done : PartialRun) → after.next ≡ assigned.next
        → after.total ≡ assigned.total → after.kind ≡ assigned.kind → after.cap ≡ assigned.cap → done.most ≡ most
        → Tells task position company most others last (visited walk) (crossed walk) after done → EndsAt walk last
        → EndsAtStop walk → MayEarn walk → Done walk → CanFinish task (partial after done) total
    finish_here walk last after done next_is total_is kind_is cap_is most_same tells at_end ends may rest =
        finish_run position company kinds task describes most others walk last after done total tells at_end ends
        (ap (λ (k : ℕ). may_earn k after.cap done.most (earned position walk)) kind_is
        ∙ (ap (λ (c : ℕ). may_earn assigned.kind c done.most (earned position walk)) cap_is
        ∙ (ap (λ (m : ℕ). may_earn assigned.kind assigned.cap m (earned position walk)) most_same ∙ may)))
        (rest (with_run_finished after done) (omega (arith, next_is)) (omega (arith, total_is, tells.value)) most_same
        tells.value
        (record {
          used = λ border. let all : IsAmong border (crossed walk ++ others)
              ↔ (IsAmong border (crossed walk) ⊎ IsAmong border others) = among_both border (crossed walk) others in
              (λ marked. all.1 ((tells.used border).0 marked), λ among. (tells.used border).1 (all.0 among));
          whole = tells.whole;
        }))

    -- what some steps are for the walk whose first they are
    ahead_first : (later : List WalkStep) (step : WalkStep) (before : List WalkStep) (home : ℕ)
        → AreAhead task home (visited (onto later (step ∷ before))) → AreAhead task home (visited (step ∷ before))
    ahead_first later step before home ahead spot stop there among =
        ahead spot stop there (visited_first later step before stop among)

    -- a run that begins at its token
    one_branch : (step : WalkStep) (later : List WalkStep) (home : Stop) → stop_of (entered_at step) ≡ Some home
        → HasToken position home company → AreAhead task (spot_number (entered_at step))
        (visited (onto later (step ∷ []))) → Holds position company most others (onto later (step ∷ []))
        → EndsAtStop (onto later (step ∷ [])) → MayEarn (onto later (step ∷ [])) → Done (onto later (step ∷ []))
        → CanFinish task (between assigned) total
    one_branch step later home there token ahead holds ends may rest =
        let at = entered_at step in
        let first : Holds position company most others (step ∷ []) =
        holds_first position company most others later step [] holds in
        let goes : GoesFrom (spot_number at) step = record
        { spot = at; number_is = refl; joined = inl (home, there, there) } in
        let has : HasSegmentOf task (spot_number at) step =
        describes.complete (spot_number at) step first.walk.0 goes in
        begin_run step home there token has.index has.segment has.leads has.segment_is first
        (ahead_first later step [] (spot_number at) ahead)
        (λ tells_next. walk_on position company kinds task describes most others later step []
        (using assigned has.segment) (along task (begun task assigned (spot_number at) has.index) has.segment) total
        tells_next holds ahead (λ last after done stays at_end tells. finish_here (onto later (step ∷ [])) last after
        done stays.next stays.total stays.kind stays.cap (stays.most ∙ most_is) tells at_end ends may rest))

    -- a run along one branch from its token, and then along another; the first branch, turned
    -- about, comes before the second
    two_branches : (first : WalkStep) (along_first : List WalkStep) (last : WalkStep) (before : List WalkStep) (second : WalkStep)
        (along_second : List WalkStep) (home : Stop) → AreOne position (onto along_first (first ∷ [])) (last ∷ before)
        → stop_of (entered_at first) ≡ Some home → stop_of (left_at last) ≡ Some home → HasToken position home company
        → (i j : ℕ) (p q : Segment) → LeadsFrom task (spot_number (entered_at first)) i p → IsSegmentOf first p
        → LeadsFrom task (spot_number (entered_at first)) j q → IsSegmentOf second q → i ≤ j
        → AreAhead task (spot_number (entered_at first)) (visited (onto along_second (second ∷ last ∷ before)))
        → Holds position company most others (onto along_first (first ∷ []))
        → EndsAtStop (onto along_first (first ∷ [])) → Holds position company most others
        (onto along_second (second ∷ last ∷ before)) → EndsAtStop (onto along_second (second ∷ last ∷ before))
        → MayEarn (onto along_second (second ∷ last ∷ before)) → Done (onto along_second (second ∷ last ∷ before))
        → CanFinish task (between assigned) total
    two_branches first along_first last before second along_second home one enters leaves token i j p q leads_i is_p
        leads_j is_q order ahead holds_one ends_one holds ends may rest =
        let at = entered_at first in
        let branch = onto along_first (first ∷ []) in
        let back = last ∷ before in
        let walk = onto along_second (second ∷ back) in
        let one_step : Holds position company most others (first ∷ []) =
        holds_first position company most others along_first first [] holds_one in
        let two_steps : Holds position company most others (second ∷ back) =
        holds_first position company most others along_second second back holds in
        let ahead_back : AreAhead task (spot_number at) (visited back) = ahead_before in
        let ahead_branch : AreAhead task (spot_number at) (visited branch) =
        ahead_canonical task (spot_number at) (visited back) (visited branch)
        (canonical_back (visited branch) (visited back) one.stops) ahead_back in
        begin_run first home enters token i p leads_i is_p one_step
        (ahead_first along_first first [] (spot_number at) ahead_branch)
        (λ tells_next. walk_on position company kinds task describes most others along_first first [] (using assigned p)
        (along task (begun task assigned (spot_number at) i) p) total tells_next holds_one ahead_branch
        (λ there after done stays at_end tells.
        let same : done.home ≡ spot_number at = stays.home in
        let at_home : done.home ≡ spot_number (left_at last) = same ∙ one_number at (left_at last) home enters leaves in
        let tells_back : Tells task position company most others (left_at last) (visited back) (crossed back) after
        (turned_back done) = to_home position company kinds task describes most others there (visited branch)
        (crossed branch) after done tells (left_at last) (visited back) (crossed back) at_home one.stops one.worth
        one.borders in
        let leads : LeadsFrom task done.home j q = subst (λ (n : ℕ). LeadsFrom task n j q) (sym same) leads_j in
        let near : AreAhead task done.home (listed (stop_of (left_at second))) =
        subst (λ (n : ℕ). AreAhead task n (listed (stop_of (left_at second)))) (sym same)
        (λ spot stop here among. ahead spot stop here (visited_first along_second second back stop
        ((among_both stop (listed (stop_of (left_at second))) (visited back)).1 (inl among)))) in
        let can : CanGo position company kinds task describes most others (left_at last) (visited back) (crossed back)
        after (turned_back done) second q = can_go position company kinds task describes most others
        (left_at last) (visited back) (crossed back) after (turned_back done) tells_back second q is_q
        two_steps.stops two_steps.few two_steps.borders two_steps.free near in
        let passes : ends_in (node_at task done.home) ≡ false =
        passes_by position company kinds task describes most others (left_at last) (stop_of (left_at last)) refl
        done.home at_home (entered_at second) two_steps.walk.1 two_steps.red.0 two_steps.full.0 in
        let stops : stop_in (node_at task done.head) ≡ true =
        ends_at_stop position company kinds task describes most others branch there at_end ends_one done.head
        tells.head in
        let end : CanFinish task (partial (using after q) (along task (turned_back done) q)) total =
        walk_on position company kinds task describes most others along_second second back (using after q)
        (along task (turned_back done) q) total can.tells holds
        (subst (λ (n : ℕ). AreAhead task n (visited walk)) (sym same) ahead)
        (λ where_it_is later finished keeps at_end_there tells_there.
        finish_here walk where_it_is later finished (keeps.next ∙ stays.next) (keeps.total ∙ stays.total)
        (keeps.kind ∙ stays.kind) (keeps.cap ∙ stays.cap) (keeps.most ∙ stays.most ∙ most_is) tells_there
        at_end_there ends may rest)
        in (
          turn j q ∷ end.0,
          (
            record {
              once = stays.turned;
              at_stop = stops;
              later =
                  omega (arith, order, stays.first);
              passes = passes;
              leads = leads;
              taken = can.taken;
            },
            end.1,
          ),
          end.2,
        )))
      where
        ahead_before : AreAhead task (spot_number (entered_at first)) (visited (last ∷ before))
        ahead_before spot stop there among =
            ahead spot stop there (visited_first along_second second (last ∷ before) stop
            ((among_both stop (listed (stop_of (left_at second))) (visited (last ∷ before))).1 (inr among)))

    -- the same for a walk that is one with another
    done_one : (walk other : List WalkStep) → AreOne position walk other → Done walk → Done other
    done_one walk other one rest after next_is total_is kind_is cap_is used_after =
        rest after next_is (omega (arith, total_is, one.worth)) kind_is (cap_is ∙ sym one.worth)
        (used_canonical (crossed other) (crossed walk) others
        (canonical_back (crossed walk) (crossed other) one.borders) after used_after)

    may_one : (walk other : List WalkStep) → AreOne position walk other → MayEarn walk → MayEarn other
    may_one walk other one may = subst (λ (v : ℕ). may_earn assigned.kind assigned.cap most v ≡ true) one.worth may

    -- a walk that is to be a run of the train
    record IsRun (home : Stop) (walk : List WalkStep) : Type 0 where
      pub holds : Holds position company most others walk
      pub ends : EndsAtStop walk
      pub token : HasToken position home company
      pub ahead : AreAhead task (number_of home) (visited walk)
      pub may : MayEarn walk
      pub rest : Done walk

    ahead_at : (at : Spot) (home : Stop) → stop_of at ≡ Some home → (walk : List WalkStep) → IsRun home walk
        → AreAhead task (spot_number at) (visited walk)
    ahead_at at home there walk run = subst (λ (n : ℕ). AreAhead task n (visited walk))
        (sym (stop_number at home there)) run.ahead

    run_turned : (home : Stop) (step : WalkStep) (before : List WalkStep) → IsRun home (step ∷ before)
        → IsRun home (onto (returning (step ∷ before)) [])
    run_turned home step before run =
        let turned : Turned position lawful company most others step before =
        walk_turned position lawful company most others step before run.holds run.ends in
        let one = one_turned most others step before turned in
        let walk = turned.last ∷ turned.rest in
        subst (IsRun home) (sym turned.is)
        (record {
          holds = turned.holds;
          ends = (run.holds.begins.0, ap stop_of turned.is_at ∙ run.holds.begins.1);
          token = run.token;
          ahead = ahead_canonical task (number_of home) (visited (step ∷ before)) (visited walk) one.stops run.ahead;
          may = may_one (step ∷ before) walk one run.may;
          rest = done_one (step ∷ before) walk one run.rest;
        })

    -- its token is where it begins
    from_start : (home : Stop) (step : WalkStep) (later : List WalkStep) → IsRun home (onto later (step ∷ []))
        → stop_of (entered_at step) ≡ Some home → CanFinish task (between assigned) total
    from_start home step later run there =
        one_branch step later home there run.token (ahead_at (entered_at step) home there (onto later (step ∷ [])) run)
        run.holds run.ends run.may run.rest

    -- its token is where it ends
    from_end : (home : Stop) (step : WalkStep) (before : List WalkStep) → IsRun home (step ∷ before)
        → stop_of (left_at step) ≡ Some home → CanFinish task (between assigned) total
    from_end home step before run there =
        from_start home (flipped step) (returning before) (run_turned home step before run)
        (ap stop_of (flip_enters step) ∙ there)

    -- the branch by which it came is gone along first
    came_first : (home : Stop) (last : WalkStep) (before : List WalkStep) (step : WalkStep) (later : List WalkStep)
        → IsRun home (onto later (step ∷ last ∷ before)) → stop_of (left_at last) ≡ Some home
        → (i j : ℕ) (p q : Segment) → LeadsFrom task (spot_number (entered_at (flipped last))) i p
        → IsSegmentOf (flipped last) p → LeadsFrom task (spot_number (entered_at (flipped last))) j q
        → IsSegmentOf step q → i ≤ j → CanFinish task (between assigned) total
    came_first home last before step later run there i j p q leads_i is_p leads_j is_q order =
        let holds : Holds position company most others (last ∷ before) =
        holds_first position company most others (step ∷ later) last before run.holds in
        let turned : Turned position lawful company most others last before =
        walk_turned position lawful company most others last before holds (home, there) in
        let branch = onto (returning before) (flipped last ∷ []) in
        let enters : stop_of (entered_at (flipped last)) ≡ Some home = ap stop_of (flip_enters last) ∙ there in
        let one : AreOne position branch (last ∷ before) =
        subst (λ w. AreOne position w (last ∷ before)) (sym turned.is)
        (one_back position (last ∷ before) (turned.last ∷ turned.rest)
        (one_turned most others last before turned)) in
        two_branches (flipped last) (returning before) last before step later home one enters there run.token i j p q
        leads_i is_p leads_j is_q order
        (ahead_at (entered_at (flipped last)) home enters (onto later (step ∷ last ∷ before)) run)
        (subst (Holds position company most others) (sym turned.is) turned.holds)
        (subst EndsAtStop (sym turned.is) (holds.begins.0, ap stop_of turned.is_at ∙ holds.begins.1))
        run.holds run.ends run.may run.rest

    -- the branch by which it leaves is gone along first
    left_first : (home : Stop) (last : WalkStep) (before : List WalkStep) (step : WalkStep) (later : List WalkStep)
        → IsRun home (onto later (step ∷ last ∷ before)) → stop_of (left_at last) ≡ Some home
        → stop_of (entered_at step) ≡ Some home → (i j : ℕ) (p q : Segment)
        → LeadsFrom task (spot_number (entered_at step)) i p → IsSegmentOf step p
        → LeadsFrom task (spot_number (entered_at step)) j q → IsSegmentOf (flipped last) q → i ≤ j
        → CanFinish task (between assigned) total
    left_first home last before step later run there enters i j p q leads_i is_p leads_j is_q order =
        let some : HasLatest (onto later (step ∷ [])) = latest_of later step [] in
        let top = some.last in
        let under = some.rest in
        let back = last ∷ before in
        let whole : onto later (step ∷ back) ≡ top ∷ under ++ back =
        onto_put later (step ∷ []) back ∙ ap (λ (w : List WalkStep). w ++ back) some.is in
        let run_whole : IsRun home (top ∷ under ++ back) = subst (IsRun home) whole run in
        let starts : begins_at top under ≡ entered_at step =
        subst (λ w. Starts w (entered_at step)) some.is (starts_on later step [] (entered_at step) refl) in
        let begins : BeginsAt (λ stop. stop ≡ home) (top ∷ under) = (home, ap stop_of starts ∙ enters, refl) in
        let holds : Holds position company most others (top ∷ under) =
        holds_part position company most others top under last before home there begins run_whole.holds in
        let ends : EndsAtStop (top ∷ under) = run_whole.ends in
        let turned : Turned position lawful company most others top under =
        walk_turned position lawful company most others top under holds ends in
        let walk_back : onto (returning (top ∷ under ++ back)) []
        ≡ onto (returning before) (flipped last ∷ turned.last ∷ turned.rest) =
        turned_put (top ∷ under) last before (turned.last ∷ turned.rest) turned.is in
        let run_back : IsRun home (onto (returning before) (flipped last ∷ turned.last ∷ turned.rest)) =
        subst (IsRun home) walk_back (run_turned home top (under ++ back) run_whole) in
        let one : AreOne position (onto later (step ∷ [])) (turned.last ∷ turned.rest) =
        subst (λ w. AreOne position w (turned.last ∷ turned.rest)) (sym some.is)
        (one_turned most others top under turned) in
        two_branches step later turned.last turned.rest (flipped last) (returning before) home one enters
        (ap stop_of (turned.is_at ∙ starts) ∙ enters) run.token i j p q leads_i is_p leads_j is_q order
        (ahead_at (entered_at step) home enters (onto (returning before) (flipped last ∷ turned.last ∷ turned.rest))
        run_back)
        (subst (Holds position company most others) (sym some.is) holds)
        (subst EndsAtStop (sym some.is) ends)
        run_back.holds run_back.ends run_back.may run_back.rest

    -- its token is inside
    from_inside : (home : Stop) (last : WalkStep) (before : List WalkStep) (step : WalkStep) (later : List WalkStep)
        → IsRun home (onto later (step ∷ last ∷ before)) → stop_of (left_at last) ≡ Some home
        → CanFinish task (between assigned) total
    from_inside home last before step later run there =
        let two : Holds position company most others (step ∷ last ∷ before) =
        holds_first position company most others later step (last ∷ before) run.holds in
        let enters : stop_of (entered_at step) ≡ Some home =
        next_stop (left_at last) (entered_at step) home there two.walk.1 in
        let back : stop_of (entered_at (flipped last)) ≡ Some home = ap stop_of (flip_enters last) ∙ there in
        let n = spot_number (entered_at (flipped last)) in
        let one : n ≡ spot_number (entered_at step) = one_number (entered_at (flipped last)) (entered_at step) home
        back enters in
        let came : HasSegmentOf task n (flipped last) =
        describes.complete n (flipped last) two.walk.2.0
        (record { spot = entered_at (flipped last); number_is = refl; joined = inl (home, back, back) }) in
        let leaves : HasSegmentOf task n step = describes.complete n step two.walk.0
        (record { spot = entered_at (flipped last); number_is = refl; joined = inl (home, back, enters) }) in
        elim (either_way came.index leaves.index) [
          | inl order ↦ came_first home last before step later run there came.index leaves.index came.segment
              leaves.segment came.leads came.segment_is leaves.leads leaves.segment_is order
          | inr order ↦
              left_first home last before step later run there enters leaves.index came.index leaves.segment
              came.segment
              (subst (λ (k : ℕ). LeadsFrom task k leaves.index leaves.segment) one leaves.leads) leaves.segment_is
              (subst (λ (k : ℕ). LeadsFrom task k came.index came.segment) one came.leads) came.segment_is order
        ]

    -- a run of the train
    pub run_by : (walk : List WalkStep) → Holds position company most others walk → EndsAtStop walk
        → HasSuch (λ stop. HasToken position stop company) (visited walk) → MayEarn walk → Done walk
        → CanFinish task (between assigned) total
    run_by walk holds ends own may rest =
        let home : HasHome position company kinds task describes walk =
        find_home position company kinds task describes walk own in
        let run : IsRun home.stop walk = record {
          holds = holds;
          ends = ends;
          token = home.token;
          ahead =
              home.ahead;
          may = may;
          rest = rest;
        } in
        elim (cut home.stop walk [] home.among) [
          | inl end ↦ from_end home.stop end.step end.before (subst (IsRun home.stop) (sym end.is) run) end.there
          | inr other ↦ elim other [
            | inl start ↦ from_start home.stop start.step start.later (subst (IsRun home.stop) (sym start.is) run)
                start.there
            | inr inside ↦ from_inside home.stop inside.last inside.before inside.step inside.later
                (subst (IsRun home.stop) (sym inside.is) run) inside.there
          ]
        ]
