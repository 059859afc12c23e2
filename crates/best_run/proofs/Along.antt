-- Legs that are tried are moves that are tried: what may be done by a segment begins with a leg,
-- and whatever comes after a leg comes after its segments.
use Rattle.std.proofs.Common.{◌≡◌, ℕ, ◌+◌, ◌<◌, ◌≤◌, Bool, true, false, ◌⊎◌, inl, inr, Some, List, [], ◌∷◌, ◌++◌}
use Rattle.std.proofs.Common.{length, slice_get, replicate, refl, sym, ap, subst, ◌∙◌, arith, le_trans, length-append}
use Rattle.std.proofs.lemmas.Option.{slice_get_within}
use Rattle.std.proofs.lemmas.Bool.{and_from}
use Rattle.reach.specs.Position.{IsAmong}
use Rattle.reach.specs.declared.walk.WalkStep.{WalkStep}
use Rattle.best_run.specs.declared.memo.Found.{Found}
use Rattle.search_task.specs.declared.task.Segment.{Segment}
use Rattle.search_task.specs.declared.task.Task.{Task}
use Rattle.search_task.specs.declared.task.Leg.{Leg}
use Rattle.best_run.specs.declared.state.Assigned.{Assigned}
use Rattle.best_run.specs.declared.state.PartialRun.{PartialRun}
use Rattle.best_run.specs.declared.move_path.Mark.{Mark}
use Rattle.best_run.specs.declared.move_path.Mark.TheVariants.{Go, Turn}
use Rattle.best_run.specs.MovePath.{go_along}
use Rattle.search_task.specs.Crossed.{marked_all, misses, numbers_in}
use Rattle.search_task.specs.Fit.{BordersFit, IsFit, SegmentFits}
use Rattle.best_run.specs.Moves.{Any, AreInMemo, Completes, IsBeginAt, IsGo, IsTurn, Move, State, Tries, TriesLegs}
use Rattle.best_run.specs.Moves.{along, begin, begun, between, can_take, go, marks_of, may_come, partial, pass, finish}
use Rattle.best_run.specs.Moves.{total_after, turn, turned_back, using}
use Rattle.search_task.specs.Spots.{LeadsFrom, ends_in, node_at, own_in, stop_in}
use Rattle.search_task.specs.Legs.{AreFree, AreLegsOf, HasLeg, Hop, IsMadeOf, LeadsTo, borders_by, IsListed}
use Rattle.best_run.proofs.Chunks.{Back, Chunk, arrived, chunk_back, chunk_of, fits_by, free_all, free_freer, free_used}
use Rattle.best_run.proofs.Chunks.{over}
use Rattle.search_task.proofs.Described.{among_place, place_among}
use Rattle.search_task.specs.Marks.{Freer}
use Rattle.best_run.proofs.Eased.{freer_none}
use Rattle.search_task.proofs.MarkedNumbers.{crossed_fit, crossed_marks, crossed_misses, crossed_some}
use Rattle.search_task.proofs.Places.{below_next}
use Rattle.best_run.proofs.Traced.{Leads, TakesFrom, traced_both, traced_none}
use Rattle.search_task.proofs.Booleans.{both_first, both_second}
use Rattle.legal_runs.specs.TwoTrain.{none_used}

-- a segment that leads from a spot is fit
fits_at : (task : Task) → IsFit task → (spot place : ℕ) (segment : Segment) (stop : Bool)
    → stop_in (node_at task spot) ≡ stop → LeadsFrom task spot place segment → SegmentFits task stop segment
fits_at task fit spot place segment stop is leads =
    subst (λ (b : Bool). SegmentFits task b segment) is (fit.segments spot place segment leads)

-- a leg reaches a stop
leads_stop : (task : Task) (hops : List Hop) (segment : Segment) (to : ℕ) → LeadsTo task segment hops to
    → stop_in (node_at task to) ≡ true
leads_stop task [] segment to leads = ap (λ (n : ℕ). stop_in (node_at task n)) (sym leads.1) ∙ leads.0
leads_stop task (hop ∷ hops) segment to leads = leads_stop task hops hop.segment to leads.2

leads_low : (task : Task) → IsFit task → (hops : List Hop) (segment : Segment) (to : ℕ) → segment.to < 744
    → LeadsTo task segment hops to → to < 744
leads_low task fit [] segment to low leads = omega (arith, low, leads.1)
leads_low task fit (hop ∷ hops) segment to low leads =
    leads_low task fit hops hop.segment to (fits_at task fit segment.to hop.place hop.segment false leads.0.0
    leads.1).to leads.2

-- it crosses a border
over_one : (task : Task) → IsFit task → (hops : List Hop) (segment : Segment) (to : ℕ)
    → stop_in (node_at task segment.to) ≡ false → LeadsTo task segment hops to → 0 < length (borders_by segment hops)
over_one task fit [] segment to side leads = absurd (let wrong : false ≡ true = sym side ∙ leads.0 in cc)
over_one task fit (hop ∷ hops) segment to side leads =
    let next = fits_at task fit segment.to hop.place hop.segment false leads.0.0 leads.1 in
    some_by hops hop.segment (next.over refl)
  where
    some_by : (hops : List Hop) (next : Segment) → 0 < length next.borders.items
        → 0 < length (segment.borders.items ++ borders_by next hops)
    some_by [] next some = omega (arith, some, length-append segment.borders.items next.borders.items)
    some_by (more ∷ hops) next some =
        omega (
          arith,
          some,
          length-append segment.borders.items (next.borders.items ++ borders_by more.segment hops),
          length-append next.borders.items (borders_by more.segment hops),
        )

-- a leg is as fit as a segment from a side, and leads to a stop
pub leg_fits : (task : Task) → IsFit task → (stop : ℕ) (legs : List Leg) → AreLegsOf task stop legs
    → stop_in (node_at task stop) ≡ true → (leg : Leg) → IsAmong leg legs
    → SegmentFits task false leg.segment × (stop_in (node_at task leg.segment.to) ≡ true)
leg_fits task fit stop legs are stops leg among =
    let found = are.sound leg among in
    let segment = found.0 in
    let hops = found.2.0 in
    let made : IsMadeOf task none_used [] leg.first segment hops leg = found.2.1 in
    let first : SegmentFits task true segment = fits_at task fit stop leg.first segment true stops found.1 in (
      record {
        to = leads_low task fit hops segment leg.segment.to first.to made.leads;
        borders = subst BordersFit (sym made.borders) (crossed_fit (borders_by segment hops));
        to_side = λ wrong. absurd (let w : false ≡ true = wrong in cc);
        over = λ side. subst (λ (bs : List ℕ). 0 < length bs) (sym made.borders)
            (crossed_some (borders_by segment hops) (fits_by task fit segment hops leg.segment.to first.borders
            made.leads) (over_one task fit hops segment leg.segment.to (first.to_side refl) made.leads));
      },
      leads_stop task hops segment leg.segment.to made.leads,
    )

-- after a leg one is where its segments lead
there_by : (task : Task) (assigned : Assigned) (run : PartialRun) (segment : Segment) (borders : List ℕ) (to : ℕ)
    → BordersFit borders → segment.borders.items ≡ numbers_in (marked_all none_used borders) → segment.to ≡ to
    → partial (using assigned segment) (along task run segment) ≡ partial (over assigned borders) (arrived task run to)
there_by task assigned run segment borders to fit same is =
    ap (λ (u : List Bool). partial (record assigned { used = u }) (arrived task run segment.to))
    (ap (marked_all assigned.used) same ∙ crossed_marks assigned.used borders fit)
    ∙ ap (λ (n : ℕ). partial (over assigned borders) (arrived task run n)) is

module _ (task : Task) (fit : IsFit task) (stop : ℕ) (stops : stop_in (node_at task stop) ≡ true) (legs : List Leg)
    (are : AreLegsOf task stop legs) where
  -- whatever comes after a leg comes after its first segment
  pub record BySegments (assigned : Assigned) (run : PartialRun) (leg : Leg) (later : List Move) : Type 0 where
    pub segment : Segment
    pub leads : LeadsFrom task stop leg.first segment
    pub can : can_take task run assigned.used segment ≡ true
    pub moves : List Move
    pub completes : Completes task (partial (using assigned segment) (along task run segment)) moves
    pub total : total_after task (partial (using assigned segment) (along task run segment)) moves
        ≡ total_after task (partial (using assigned leg.segment) (along task run leg.segment)) later
    pub marks_are : Go segment.step ∷ marks_of moves ≡ go_along leg.steps.items ++ marks_of later

  pub by_segments : (assigned : Assigned) (run : PartialRun) (leg : Leg) → IsAmong leg legs
      → can_take task run assigned.used leg.segment ≡ true → (later : List Move)
      → Completes task (partial (using assigned leg.segment) (along task run leg.segment)) later
      → BySegments assigned run leg later
  by_segments assigned run leg among can later completes =
      let found = are.sound leg among in
      let segment = found.0 in
      let hops = found.2.0 in
      let made : IsMadeOf task none_used [] leg.first segment hops leg = found.2.1 in
      let first : SegmentFits task true segment = fits_at task fit stop leg.first segment true stops found.1 in
      let fits : BordersFit (borders_by segment hops) =
      fits_by task fit segment hops leg.segment.to first.borders made.leads in
      let here = there_by task assigned run leg.segment (borders_by segment hops) leg.segment.to fits made.borders
      refl in
      let to_stop : stop_in (node_at task leg.segment.to) ≡ true =
      leads_stop task hops segment leg.segment.to made.leads in
      let come : may_come true run leg.segment.to ≡ true =
      sym (ap (λ b. may_come b run leg.segment.to) to_stop)
      ∙ both_first (may_come (stop_in (node_at task leg.segment.to)) run leg.segment.to)
      (misses assigned.used leg.segment.borders.items) can in
      let missed : misses assigned.used (borders_by segment hops) ≡ true =
      sym (crossed_misses assigned.used (borders_by segment hops) fits)
      ∙ (sym (ap (misses assigned.used) made.borders)
      ∙ both_second (may_come (stop_in (node_at task leg.segment.to)) run leg.segment.to)
      (misses assigned.used leg.segment.borders.items) can) in
      let free : AreFree assigned.used segment hops = free_used segment hops assigned.used fits made.free missed in
      let back : Back task fit assigned run segment hops leg.segment.to later =
      chunk_back task fit hops assigned run segment leg.segment.to later made.leads free come
      (subst (λ s. Completes task s later) here completes) in
      record {
        segment = segment;
        leads = found.1;
        can = back.can;
        moves = back.moves;
        completes = back.completes;
        total = back.total ∙ ap (λ s. total_after task s later) (sym here);
        marks_are = back.marks_are ∙ ap (λ (steps : List WalkStep). go_along steps ++ marks_of later) (sym made.steps);
      }

  -- what may be done by a segment begins with a leg
  pub record ByLeg (assigned : Assigned) (run : PartialRun) (place : ℕ) (segment : Segment) (moves : List Move) : Type
      0 where
    pub leg : Leg
    pub place_of : ℕ
    pub is_leg : slice_get legs place_of ≡ Some leg
    pub first : leg.first ≡ place
    pub can : can_take task run assigned.used leg.segment ≡ true
    pub later : List Move
    pub shorter : length later ≤ length moves
    pub completes : Completes task (partial (using assigned leg.segment) (along task run leg.segment)) later
    pub total : total_after task (partial (using assigned segment) (along task run segment)) moves
        ≡ total_after task (partial (using assigned leg.segment) (along task run leg.segment)) later

  pub by_leg : (assigned : Assigned) (run : PartialRun) → length assigned.used ≡ 279
      → (place : ℕ) (segment : Segment) (moves : List Move) → LeadsFrom task stop place segment
      → can_take task run assigned.used segment ≡ true
      → Completes task (partial (using assigned segment) (along task run segment)) moves
      → ByLeg assigned run place segment moves
  by_leg assigned run whole place segment moves leads can completes =
      let chunk : Chunk task fit assigned run segment moves =
      chunk_of task fit moves assigned run segment (stop_in (node_at task segment.to)) refl can completes in
      let freer : Freer assigned.used none_used = subst (λ (n : ℕ). Freer assigned.used (replicate n false)) whole
      (freer_none assigned.used) in
      let has : HasLeg task none_used [] place segment chunk.hops chunk.to legs =
      are.complete place segment chunk.hops chunk.to leads chunk.leads
      (free_freer segment chunk.hops assigned.used none_used freer chunk.free) in
      let leg = has.leg in
      let at = place_among legs leg has.among in
      let first : SegmentFits task true segment = fits_at task fit stop place segment true stops leads in
      let fits : BordersFit (borders_by segment chunk.hops) =
      fits_by task fit segment chunk.hops chunk.to first.borders chunk.leads in
      let here = there_by task assigned run leg.segment (borders_by segment chunk.hops) chunk.to fits has.made.borders
      has.to_is in
      let to_stop : stop_in (node_at task leg.segment.to) ≡ true =
      leads_stop task chunk.hops segment leg.segment.to has.made.leads in
      record {
        leg = leg;
        place_of = at.0;
        is_leg = at.1;
        first = has.made.place_is;
        can = and_from (may_come (stop_in (node_at task leg.segment.to)) run leg.segment.to)
            (misses assigned.used leg.segment.borders.items)
            (ap (λ b. may_come b run leg.segment.to) to_stop
            ∙ (ap (λ (n : ℕ). may_come true run n) has.to_is ∙ chunk.come))
            (ap (misses assigned.used) has.made.borders ∙ (crossed_misses assigned.used (borders_by segment chunk.hops)
            fits ∙ free_all segment chunk.hops assigned.used chunk.free));
        later = chunk.later;
        shorter = chunk.shorter;
        completes = subst (λ s. Completes task s chunk.later) (sym here) chunk.completes;
        total = chunk.total ∙ ap (λ s. total_after task s chunk.later) (sym here);
      }

  -- a leg at a place is among them
  among_at : (place : ℕ) (leg : Leg) → slice_get legs place ≡ Some leg → IsAmong leg legs
  among_at place leg at = among_place legs place leg at

  -- no leg has been tried, one more has been, or it is none that is to be tried
  pub legs_none : (from : State) (assigned : Assigned) (runs : Leg → PartialRun) (Q : Leg → Type 0) (best : Found)
      → TriesLegs task from assigned runs (λ leg. IsListed legs 0 leg × Q leg) best best
  legs_none from assigned runs Q best =
      record {
        grows = omega arith;
        traced = traced_none task from best;
        known = λ known. known;
        most =
            λ known leg is. absurd (omega (arith, is.0.1));
      }

  legs_next : (P Q : Leg → Type 0) (place : ℕ) (leg other : Leg) → slice_get legs place ≡ Some leg
      → IsListed legs (place + 1) other → IsListed legs place other ⊎ (leg ≡ other)
  legs_next P Q place leg other at is_listed =
      elim (below_next is_listed.0 place is_listed.1) [
        | inl less ↦ inl (is_listed.0, less, is_listed.2)
        | inr same ↦ inr (let one : Some leg ≡ Some other =
            sym at ∙ (ap (λ (i : ℕ). slice_get legs i) (sym same) ∙ is_listed.2) in cc)
      ]

  pub legs_more :
      (from : State) (assigned : Assigned) (runs : Leg → PartialRun) (Q : Leg → Type 0) (place : ℕ) (leg : Leg)
      (old middle new : Found) →
      slice_get legs place ≡ Some leg → TriesLegs task from assigned runs (λ w. IsListed legs place w × Q w) old
      middle →
      TakesFrom task from assigned (runs leg) leg middle new
      → TriesLegs task from assigned runs (λ w. IsListed legs (place + 1) w × Q w) old new
  legs_more from assigned runs Q place leg old middle new at before takes =
      record {
        grows = le_trans before.grows takes.grows;
        traced = traced_both task from old middle new before.grows takes.grows before.traced takes.traced;
        known = λ known. takes.known (before.known known);
        most = λ known other is can moves completes. elim (legs_next Q Q place leg other at is.0) [
          | inl sooner ↦ le_trans (before.most known other (sooner, is.1) can moves completes) takes.grows
          | inr same ↦
              subst (λ (w : Leg). can_take task (runs w) assigned.used w.segment ≡ true → (moves : List Move)
              → Completes task (partial (using assigned w.segment) (along task (runs w) w.segment)) moves
              → total_after task (partial (using assigned w.segment) (along task (runs w) w.segment)) moves
              ≤ new.amount) same (takes.most (before.known known)) can moves completes
        ];
      }

  pub legs_skip : (from : State) (assigned : Assigned) (runs : Leg → PartialRun) (Q : Leg → Type 0) (place : ℕ)
      (leg : Leg) (old middle : Found) → slice_get legs place ≡ Some leg → (Q leg → ⊥)
      → TriesLegs task from assigned runs (λ w. IsListed legs place w × Q w) old middle
      → TriesLegs task from assigned runs (λ w. IsListed legs (place + 1) w × Q w) old middle
  legs_skip from assigned runs Q place leg old middle at none before =
      record {
        grows = before.grows;
        traced = before.traced;
        known = before.known;
        most = λ known other is can moves completes. elim (legs_next Q Q place leg other at is.0) [
          | inl sooner ↦ before.most known other (sooner, is.1) can moves completes
          | inr same ↦ absurd (none (subst Q (sym same) is.1))
        ];
      }

  -- one more leg is in vain
  pub legs_vain : (from : State) (assigned : Assigned) (runs : Leg → PartialRun) (Q : Leg → Type 0) (place : ℕ)
      (leg : Leg) (old middle : Found) → slice_get legs place ≡ Some leg
      → (can_take task (runs leg) assigned.used leg.segment ≡ true → (moves : List Move)
      → Completes task (partial (using assigned leg.segment) (along task (runs leg) leg.segment)) moves
      → total_after task (partial (using assigned leg.segment) (along task (runs leg) leg.segment)) moves
      ≤ middle.amount) → TriesLegs task from assigned runs (λ w. IsListed legs place w × Q w) old middle
      → TriesLegs task from assigned runs (λ w. IsListed legs (place + 1) w × Q w) old middle
  legs_vain from assigned runs Q place leg old middle at vain before =
      record {
        grows = before.grows;
        traced = before.traced;
        known = before.known;
        most = λ known other is can moves completes. elim (legs_next Q Q place leg other at is.0) [
          | inl sooner ↦ before.most known other (sooner, is.1) can moves completes
          | inr same ↦
              subst (λ (w : Leg). can_take task (runs w) assigned.used w.segment ≡ true → (moves : List Move)
              → Completes task (partial (using assigned w.segment) (along task (runs w) w.segment)) moves
              → total_after task (partial (using assigned w.segment) (along task (runs w) w.segment)) moves
              ≤ middle.amount) same vain can moves completes
        ];
      }

  place_within : (place : ℕ) (leg : Leg) (most : ℕ) → slice_get legs place ≡ Some leg → length legs ≤ most
      → place < most
  place_within place leg most at all = omega (arith, slice_get_within legs place leg at, all)

-- any leg
abbrev pub AnyLeg : Leg → Type 0
AnyLeg leg = Unit {0}

-- a leg by which a run may turn back
abbrev pub IsLater : PartialRun → Leg → Type 0
IsLater run leg = run.first ≤ leg.first

module _ (task : Task) (fit : IsFit task) (assigned : Assigned) (whole : length assigned.used ≡ 279) where
  -- on from where a run is
  pub leads_go :
      (run : PartialRun) → (stops : stop_in (node_at task run.head) ≡ true) → ends_in (node_at task run.head) ≡ false
      → (legs : List Leg) →
      (are : AreLegsOf task run.head legs) → (place : ℕ) (leg : Leg) → slice_get legs place ≡ Some leg
      → can_take task run assigned.used leg.segment ≡ true →
      Leads task (partial assigned run) (partial (using assigned leg.segment) (along task run leg.segment))
      (go_along leg.steps.items)
  leads_go run stops passes legs are place leg at can later completes =
      let by : BySegments task fit run.head stops legs are assigned run leg later =
      by_segments task fit run.head stops legs are assigned run leg
      (among_at task fit run.head stops legs are place leg at) can later completes in
      record {
        moves = go leg.first by.segment ∷ by.moves;
        completes = (record { passes = passes; leads = by.leads; taken = by.can }, by.completes);
        total = by.total;
        marks_are = by.marks_are;
      }

  pub go_by_legs : (run : PartialRun) → (stops : stop_in (node_at task run.head) ≡ true) → (legs : List Leg)
      → (are : AreLegsOf task run.head legs) → (count : ℕ) (old new : Found) → length legs ≤ count
      → TriesLegs task (partial assigned run) assigned (λ leg. run) (λ leg. IsListed legs count leg × AnyLeg leg)
      old new → Tries task (partial assigned run) (IsGo Any) old new
  go_by_legs run stops legs are count old new all tries =
      record { grows = tries.grows; traced = tries.traced; known = tries.known; most = by_move }
    where
      by_move : AreInMemo task old → (move : Move) (moves : List Move) → IsGo Any move
          → Completes task (partial assigned run) (move ∷ moves)
          → total_after task (partial assigned run) (move ∷ moves) ≤ new.amount
      by_move known pass moves is completes = absurd is
      by_move known (begin there place segment) moves is completes = absurd is
      by_move known (go place segment) moves is completes =
          let may = completes.0 in
          let by : ByLeg task fit run.head stops legs are assigned run place segment moves =
          by_leg task fit run.head stops legs are assigned run whole place segment moves may.leads may.taken
          completes.1 in
          let low = tries.most known by.leg (
            (
              by.place_of,
              place_within task fit run.head stops legs are by.place_of
                  by.leg count by.is_leg all,
              by.is_leg,
            ),
            tt,
          ) by.can by.later by.completes in
          subst (λ (n : ℕ). n ≤ new.amount) (sym by.total) low
      by_move known (turn place segment) moves is completes = absurd is
      by_move known finish moves is completes = absurd is

  -- back from where it began
  pub leads_turn :
      (run : PartialRun) → (stops : stop_in (node_at task run.home) ≡ true) → run.turned ≡ false
      → stop_in (node_at task run.head) ≡ true →
      ends_in (node_at task run.home) ≡ false → (legs : List Leg) → (are : AreLegsOf task run.home legs)
      → (place : ℕ) (leg : Leg) →
      slice_get legs place ≡ Some leg → IsLater run leg
      → can_take task (turned_back run) assigned.used leg.segment ≡ true → Leads task (partial assigned run)
      (partial (using assigned leg.segment) (along task (turned_back run) leg.segment))
      (Turn ∷ go_along leg.steps.items)
  leads_turn run stops once head_stops passes legs are place leg at after can later completes =
      let by : BySegments task fit run.home stops legs are assigned (turned_back run) leg later =
      by_segments task fit run.home stops legs are assigned (turned_back run) leg
      (among_at task fit run.home stops legs are place leg at) can later completes in
      record {
        moves = turn leg.first by.segment ∷ by.moves;
        completes = (
          record {
            once = once;
            at_stop = head_stops;
            later = after;
            passes = passes;
            leads = by.leads;
            taken =
                by.can;
          },
          by.completes,
        );
        total = by.total;
        marks_are = ap (λ (marks : List Mark). Turn ∷ marks) by.marks_are;
      }

  pub turn_by_legs : (run : PartialRun) → (stops : stop_in (node_at task run.home) ≡ true) → (legs : List Leg)
      → (are : AreLegsOf task run.home legs) → (count : ℕ) (old new : Found) → length legs ≤ count
      → TriesLegs task (partial assigned run) assigned (λ leg. turned_back run)
      (λ leg. IsListed legs count leg × IsLater run leg) old new
      → Tries task (partial assigned run) (IsTurn Any) old new
  turn_by_legs run stops legs are count old new all tries =
      record { grows = tries.grows; traced = tries.traced; known = tries.known; most = by_move }
    where
      by_move : AreInMemo task old → (move : Move) (moves : List Move) → IsTurn Any move
          → Completes task (partial assigned run) (move ∷ moves)
          → total_after task (partial assigned run) (move ∷ moves) ≤ new.amount
      by_move known pass moves is completes = absurd is
      by_move known (begin there place segment) moves is completes = absurd is
      by_move known (go place segment) moves is completes = absurd is
      by_move known (turn place segment) moves is completes =
          let may = completes.0 in
          let by : ByLeg task fit run.home stops legs are assigned (turned_back run) place segment moves =
          by_leg task fit run.home stops legs are assigned (turned_back run) whole place segment moves may.leads
          may.taken completes.1 in
          let low = tries.most known by.leg (
            (
              by.place_of,
              place_within task fit run.home stops legs are by.place_of
                  by.leg count by.is_leg all,
              by.is_leg,
            ),
            omega (arith, may.later, by.first),
          ) by.can by.later
          by.completes in
          subst (λ (n : ℕ). n ≤ new.amount) (sym by.total) low
      by_move known finish moves is completes = absurd is

  -- from a token
  pub leads_begin :
      (there : ℕ) → (stops : stop_in (node_at task there) ≡ true) → own_in (node_at task there) ≡ true
      → assigned.next < length task.trains.items →
      (legs : List Leg) → (are : AreLegsOf task there legs) → (place : ℕ) (leg : Leg)
      → slice_get legs place ≡ Some leg →
      can_take task (begun task assigned there leg.first) assigned.used leg.segment ≡ true
      → Leads task (between assigned) (partial (using assigned leg.segment)
      (along task (begun task assigned there leg.first) leg.segment)) (go_along leg.steps.items)
  leads_begin there stops token train legs are place leg at can later completes =
      let run = begun task assigned there leg.first in
      let by : BySegments task fit there stops legs are assigned run leg later =
      by_segments task fit there stops legs are assigned run leg
      (among_at task fit there stops legs are place leg at) can later completes in
      record {
        moves = begin there leg.first by.segment ∷ by.moves;
        completes = (
          record { train = train; begins = stops; token = token; leads = by.leads; taken = by.can },
          by.completes,
        );
        total = by.total;
        marks_are = by.marks_are;
      }

  pub begin_by_legs : (there : ℕ) → (stops : stop_in (node_at task there) ≡ true) → (legs : List Leg)
      → (are : AreLegsOf task there legs) → (count : ℕ) (old new : Found) → length legs ≤ count
      → TriesLegs task (between assigned) assigned (λ leg. begun task assigned there leg.first)
      (λ leg. IsListed legs count leg × AnyLeg leg) old new
      → Tries task (between assigned) (IsBeginAt there Any) old new
  begin_by_legs there stops legs are count old new all tries =
      record { grows = tries.grows; traced = tries.traced; known = tries.known; most = by_move }
    where
      from_there : AreInMemo task old → (place : ℕ) (segment : Segment) (moves : List Move)
          → LeadsFrom task there place segment → can_take task (begun task assigned there place) assigned.used segment
          ≡ true → Completes task (partial (using assigned segment)
          (along task (begun task assigned there place) segment)) moves
          → total_after task (partial (using assigned segment) (along task (begun task assigned there place) segment))
          moves ≤ new.amount
      from_there known place segment moves leads can completes =
          let run = begun task assigned there place in
          let by : ByLeg task fit there stops legs are assigned run place segment moves =
          by_leg task fit there stops legs are assigned run whole place segment moves leads can completes in
          let IsLow : ℕ → Type 0 = λ first. can_take task (begun task assigned there first) assigned.used by.leg.segment
          ≡ true → Completes task (partial (using assigned by.leg.segment)
          (along task (begun task assigned there first) by.leg.segment)) by.later
          → total_after task (partial (using assigned by.leg.segment)
          (along task (begun task assigned there first) by.leg.segment)) by.later ≤ new.amount in
          let low : IsLow by.leg.first = λ taken ends. tries.most known by.leg (
            (
              by.place_of,
              place_within task fit there stops legs are by.place_of by.leg count by.is_leg all,
              by.is_leg,
            ),
            tt,
          ) taken by.later ends in
          let here : IsLow place = subst IsLow by.first low in
          subst (λ (n : ℕ). n ≤ new.amount) (sym by.total) (here by.can by.completes)

      by_move : AreInMemo task old → (move : Move) (moves : List Move) → IsBeginAt there Any move
          → Completes task (between assigned) (move ∷ moves)
          → total_after task (between assigned) (move ∷ moves) ≤ new.amount
      by_move known pass moves is completes = absurd is
      by_move known (begin stop place segment) moves is completes =
          let may = completes.0 in
          let At : ℕ → Type 0 = λ n. LeadsFrom task n place segment
          → can_take task (begun task assigned n place) assigned.used segment ≡ true
          → Completes task (partial (using assigned segment) (along task (begun task assigned n place) segment))
          moves → total_after task (partial (using assigned segment)
          (along task (begun task assigned n place) segment)) moves ≤ new.amount in
          let here : At stop = subst At (sym is.0) (λ leads can ends. from_there known place segment moves leads can
          ends) in
          here may.leads may.taken completes.1
      by_move known (go place segment) moves is completes = absurd is
      by_move known (turn place segment) moves is completes = absurd is
      by_move known finish moves is completes = absurd is
