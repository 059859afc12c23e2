-- A company that runs its best is credited no less than by any written runs. The runs that were
-- obeyed one after another are a legal set of runs for its trains.
use Rattle.std.proofs.Common.{◌≡◌, ℕ, zero, suc, ◌+◌, ◌<◌, ◌≤◌, Bool, true, false, if◌then◌else◌, ◌==◌, inl, inr, List}
use Rattle.std.proofs.Common.{[], ◌∷◌, ◌++◌, Option, None, Some, Result, Ok, Err, ℤ, pos, negsuc, ◌+ℤ◌, length}
use Rattle.std.proofs.Common.{replicate, get_or, set, refl, sym, subst, ap, ◌∙◌, arith, get_or-set_other, length-set}
use Rattle.std.proofs.lemmas.Bool.{cases_eq, eq-eqb, leb-false, ne_eqb}
use Rattle.std.proofs.lemmas.Grind.{get_or-set_at}
use Rattle.std.proofs.lemmas.Int.{ints}
use Rattle.std.specs.Int.Signed.{le_z}
use Rattle.std.specs.List.{AllByRecursion, fold}
use Rattle.board_state.specs.MapState.{position_of}
use Rattle.legal_runs.proofs.InTurn.{all_among}
use Rattle.legal_runs.proofs.TallyOfWalk.{crossed_used}
use Rattle.legal_runs.proofs.Marks.{among_both}
use Rattle.legal_runs.proofs.Sharing.{legal_by_marks, legal_over}
use Rattle.legal_runs.specs.Legal.{IsLegalRun, all_crossed, crossed, earned}
use Rattle.legal_runs.specs.Marks.{MarksAre}
use Rattle.legal_runs.specs.Set.{IsGreatest, IsLegalSet, ShareNoBorder, TrainRun, in_number}
use Rattle.legal_runs.specs.Set.{revenue_of_runs, trains_that_run}
use Rattle.events.specs.Event.{train_owner_place}
use Rattle.events.specs.declared.event.Event.{Event}
use Rattle.events.specs.declared.event.Event.TheVariants as event
use Rattle.events.specs.declared.ruling.Refusal.TheVariants as refusal
use Rattle.events.specs.declared.ruling.Ruling.{Ruling}
use Rattle.events.specs.declared.ruling.Ruling.TheVariants.{Obeyed, Refused}
use Rattle.totals.proofs.EventAtEnd.{trains_at_before}
use Rattle.totals.specs.Trains.{at_least_zero, trains_held}
use Rattle.map_tables.specs.declared.rules.RunRule.{RunRule}
use Rattle.map_tables.specs.declared.place.Place.{Place}
use Rattle.operating.proofs.Fitting.{same_map_state}
use Rattle.operating.proofs.LegalRuns.{at_first}
use Rattle.operating.proofs.NoRuns.{kind_low, none_counted, nothing_ran}
use Rattle.operating.proofs.RunLemmas.{judged_legal, judged_ran, judged_room}
use Rattle.operating.specs.BestLaws.{BestEarnsNoLess, OrdersRun}
use Rattle.operating.specs.CompanyOrders.{AskedLeads, LineLeads, LinesLead, ReadingLeads, is_held}
use Rattle.operating.specs.MapState.{position_now, steps_now}
use Rattle.operating.specs.Run.{judged_run, run_ruled}
use Rattle.operating.specs.RunBest.{BestRuled, trains_now, with_those_held}
use Rattle.operating.specs.CompletedRuns.{has_run, no_runs}
use Rattle.operating.specs.TurnState.{TurnState, line_recorded}
use Rattle.forced_purchase.specs.declared.operator.Operator.{Operator}
use Rattle.operating.specs.declared.completed_runs.CompletedRun.{CompletedRun}
use Rattle.operating.specs.declared.completed_runs.Runs.{Runs}
use Rattle.order_grammar.specs.declared.fault.Fault.{Fault}
use Rattle.order_grammar.specs.declared.order.Order.{Order}
use Rattle.order_grammar.specs.declared.order.Order.TheVariants as order
use Rattle.reach.specs.Position.{Position, IsAmong}
use Rattle.reach.specs.declared.walk.WalkStep.{WalkStep}
use Rattle.sheets.specs.Part.{Numbered}
use Rattle.tables.specs.Train.{index_of_kind, same_kind}
use Rattle.tables.specs.declared.rolling_stock.Kind.{Kind}
use Rattle.tables.specs.declared.rolling_stock.Kind.TheVariants.{Two, Three, Four, Five, Six, Diesel}
use Rattle.tables.specs.declared.roster.Company.{Company}
use Rattle.tables.proofs.TrainKinds.{kind_is}

-- of this many trains of one kind all are counted, or none
number_of_all : (kind counted : Kind) (n : ℕ) → in_number counted (replicate n kind)
    ≡ (if same_kind kind counted then n else 0)
number_of_all kind counted n = by_test (same_kind kind counted) n refl
  where
    by_test : (test : Bool) (n : ℕ) → same_kind kind counted ≡ test
        → in_number counted (replicate n kind) ≡ (if test then n else 0)
    by_test true zero is = refl
    by_test true (suc n) is = rw is (omega (arith, by_test true n is))
    by_test false zero is = refl
    by_test false (suc n) is = rw is (omega (arith, by_test false n is))

-- and after others
number_behind :
    (counted kind : Kind) (n : ℕ) (trains : List Kind) →
    in_number counted (trains ++ replicate n kind)
    ≡ in_number counted trains + (if same_kind kind counted then n else 0)
number_behind counted kind n [] = omega (arith, number_of_all kind counted n)
number_behind counted kind n (train ∷ trains) = omega (arith, number_behind counted kind n trains)

module _ (events : List Event) (company : Company) where
  -- how many trains of a kind a company has, and, where that kind is the one that is counted, this
  -- many
  abbrev held_of : Kind → ℕ
  held_of kind = at_least_zero (trains_held events (Some company) kind)

  abbrev if_counted : Kind → Kind → ℕ
  if_counted counted kind = if same_kind kind counted then held_of kind else 0

  -- its trains of some kinds, and those of one more kind
  abbrev of_kinds : List Kind → List Kind
  of_kinds some = fold (with_those_held events company) [] some

  one_more : (counted kind : Kind) (some : List Kind) →
      in_number counted (with_those_held events company (of_kinds some) kind)
      ≡ in_number counted (of_kinds some) + if_counted counted kind
  one_more counted kind some = number_behind counted kind (held_of kind) (of_kinds some)

  -- its trains of all kinds
  held_by_kind : (counted : Kind) →
      in_number counted (trains_now events company)
      ≡ if_counted counted Two + if_counted counted Three + if_counted counted Four
      + if_counted counted Five + if_counted counted Six + if_counted counted Diesel
  held_by_kind counted =
      omega (
        arith,
        one_more counted Two [],
        one_more counted Three (Two ∷ []),
        one_more counted Four (Two ∷ Three ∷ []),
        one_more counted Five (Two ∷ Three ∷ Four ∷ []),
        one_more counted Six (Two ∷ Three ∷ Four ∷ Five ∷ []),
        one_more counted Diesel (Two ∷ Three ∷ Four ∷ Five ∷ Six ∷ []),
      )

  -- they are as many of each kind as it has
  held_now : (kind : Kind) → in_number kind (trains_now events company) ≡ held_of kind
  held_now Two = omega (arith, held_by_kind Two)
  held_now Three = omega (arith, held_by_kind Three)
  held_now Four = omega (arith, held_by_kind Four)
  held_now Five = omega (arith, held_by_kind Five)
  held_now Six = omega (arith, held_by_kind Six)
  held_now Diesel = omega (arith, held_by_kind Diesel)

-- the walks of some runs
abbrev walks_of : List TrainRun → List (List WalkStep)
walks_of [] = []
walks_of (run ∷ runs) = run.steps ∷ walks_of runs

-- a walk that crosses none of the borders of some runs shares none with any of them
apart_from :
    (steps : List WalkStep) (runs : List TrainRun) → ((border : ℕ) → IsAmong border (crossed steps)
    → ¬ IsAmong border (all_crossed (walks_of runs))) →
    AllByRecursion (λ (other : TrainRun). ShareNoBorder steps other.steps) runs
apart_from steps [] free = tt
apart_from steps (other ∷ runs) free =
    let both = λ (border : ℕ). among_both border (crossed other.steps) (all_crossed (walks_of runs)) in (
      λ border among there. free border among ((both border).1 (inl there)),
      apart_from steps runs (λ border among there. free border among ((both border).1 (inr there))),
    )

-- one more of a kind is counted, and no other
counted_more :
    (counts : List ℤ) (at other n m : ℕ) → at < length counts → get_or counts at (pos 0) ≡ pos m
    → get_or counts other (pos 0) ≡ pos n →
    get_or (set counts at (get_or counts at (pos 0) +ℤ pos 1)) other (pos 0) ≡ pos ((if at == other then 1 else 0) + n)
counted_more counts at other n m low is rest =
    elim (cases_eq other at) [
      | inl same ↦
          let here : pos m ≡ pos n = sym is ∙ ap (λ (k : ℕ). get_or counts k (pos 0)) (sym same) ∙ rest in
          get_or-set_at counts at other (get_or counts at (pos 0) +ℤ pos 1) (pos 0) same low
          ∙ rw (eq-eqb at other (sym same)) (omega (arith, ints, is, here))
      | inr differs ↦
          get_or-set_other counts at other (get_or counts at (pos 0) +ℤ pos 1) (pos 0) differs
          ∙ rw (ne_eqb at other (λ same. differs (sym same))) (omega (arith, ints, rest))
    ]

-- where one more may run, fewer have run than are there
some_left : (held : ℤ) (n : ℕ) → le_z held (pos n) ≡ false → n < at_least_zero held
some_left (pos m) n some = leb-false m n some
some_left (negsuc m) n some = cc

module _ (by : Operator) (first : TurnState) where
  abbrev there : Position
  there = position_now first.game.events

  -- the trains of the company, and how many of a kind
  abbrev trains : List Kind
  trains = trains_now first.game.events by.company

  abbrev held_first : Kind → ℤ
  held_first kind = trains_held first.game.events (Some by.company) kind

  -- some lines that order runs have led to this turn, and these are the runs that were obeyed
  record HaveRun (runs : List TrainRun) (now : TurnState) : Type 0 where
    pub map_state : position_now now.game.events ≡ there
    pub held : (kind : Kind) → trains_held now.game.events (Some by.company) kind ≡ held_first kind
    pub set : IsLegalSet there by.company trains runs
    pub marks : MarksAre (all_crossed (walks_of runs)) now.progress.runs.borders
    pub for_each : length now.progress.runs.trains ≡ 6
    pub counted : (kind : Kind) → has_run now.progress.runs kind ≡ pos (in_number kind (trains_that_run runs))
    pub sum : now.progress.runs.revenue ≡ revenue_of_runs there runs

  -- before them none has run
  none_yet : first.progress.runs ≡ no_runs → HaveRun [] first
  none_yet none =
      let same : no_runs ≡ first.progress.runs = sym none in
      record {
        map_state = refl;
        held = λ kind. refl;
        set = record { legal = tt; each_once = λ kind. omega arith; apart = tt };
        marks = subst (λ (runs : Runs). MarksAre [] runs.borders) same at_first;
        for_each = subst (λ (runs : Runs). length runs.trains ≡ 6) same refl;
        counted = λ kind. subst (λ (runs : Runs). has_run runs kind ≡ pos 0) same (none_counted kind);
        sum = subst (λ (runs : Runs). runs.revenue ≡ 0) same refl;
      }

  -- after a ruling
  after_ruling : (runs : List TrainRun) (now : TurnState) (line : Numbered) (ruling : Ruling) → HaveRun runs now
      → HaveRun runs (line_recorded by now line ruling)
  after_ruling runs now line ruling have =
      let its = event.Ruled by.president line.number ruling in
      record {
        map_state = ap position_of (same_map_state now.game.events its refl refl refl) ∙ have.map_state;
        held = λ kind. trains_at_before now.game.events its (train_owner_place (Some by.company)) kind refl
            ∙ have.held kind;
        set = have.set;
        marks = have.marks;
        for_each = have.for_each;
        counted = have.counted;
        sum = have.sum;
      }

  -- with one more run the set is legal
  set_more :
      (runs : List TrainRun) (kind : Kind) (steps : List WalkStep) → IsLegalSet there by.company trains runs →
      IsLegalRun there by.company kind (all_crossed (walks_of runs)) steps
      → in_number kind (trains_that_run runs) < at_least_zero (held_first kind) →
      IsLegalSet there by.company trains (record { kind = kind; steps = steps } ∷ runs)
  set_more runs kind steps set legal room =
      let used = all_crossed (walks_of runs) in
      record {
        legal = (legal_over there by.company kind used [] (λ border among. absurd among) steps legal, set.legal);
        each_once = λ other. enough other (same_kind kind other) refl;
        apart = (
          apart_from steps runs (all_among (λ border. ¬ IsAmong border used) (crossed steps)
              legal.no_used_border),
          set.apart,
        );
      }
    where
      enough : (other : Kind) (test : Bool) → same_kind kind other ≡ test →
          (if test then 1 else 0) + in_number other (trains_that_run runs) ≤ in_number other trains
      enough other false is = omega (arith, set.each_once other)
      enough other true is =
          subst (λ (its : Kind). 1 + in_number its (trains_that_run runs) ≤ in_number its trains)
          (kind_is kind other is)
          (omega (arith, room, held_now first.game.events by.company kind))

  -- a run that is obeyed, and those before it
  abbrev with_run : TurnState → Kind → List Place → List TrainRun → List TrainRun
  with_run now kind run runs = record { kind = kind; steps = steps_now now.game.events run } ∷ runs

  -- it is legal where their borders are used
  run_legal :
      (runs : List TrainRun) (now : TurnState) (kind : Kind) (run : List Place) (ran : CompletedRun)
      → judged_run now by.company kind run ≡ Ok ran →
      HaveRun runs now → IsLegalRun there by.company kind (all_crossed (walks_of runs)) (steps_now now.game.events run)
  run_legal runs now kind run ran judged have =
      let steps : List WalkStep = steps_now now.game.events run in
      let used : List ℕ = all_crossed (walks_of runs) in
      let position : Position = position_now now.game.events in
      subst (λ (its : Position). IsLegalRun its by.company kind used steps) have.map_state
      ((legal_by_marks position by.company kind used now.progress.runs.borders steps have.marks).0
      (judged_legal now by.company kind run ran judged))

  -- and a train is left for it
  run_room :
      (runs : List TrainRun) (now : TurnState) (kind : Kind) (run : List Place) (ran : CompletedRun)
      → judged_run now by.company kind run ≡ Ok ran →
      HaveRun runs now → in_number kind (trains_that_run runs) < at_least_zero (held_first kind)
  run_room runs now kind run ran judged have =
      let count : ℕ = in_number kind (trains_that_run runs) in
      some_left (held_first kind) count
      (subst (λ (held : ℤ). le_z held (pos count) ≡ false) (have.held kind)
      (subst (λ (n : ℤ). le_z (trains_held now.game.events (Some by.company) kind) n ≡ false) (have.counted kind)
      (judged_room now by.company kind run ran judged)))

  -- after it
  after_obeyed :
      (runs : List TrainRun) (now : TurnState) (line : Numbered) (its : Order) (kind : Kind) (run : List Place)
      (ran : CompletedRun) →
      judged_run now by.company kind run ≡ Ok ran → HaveRun runs now
      → HaveRun (with_run now kind run runs) (run_ruled by now line its (Ok ran))
  after_obeyed runs now line its kind run ran judged have =
      let steps : List WalkStep = steps_now now.game.events run in
      let done : Runs = now.progress.runs in
      let ruled : TurnState = line_recorded by now line (Obeyed line.condition its) in
      let after : HaveRun runs ruled = after_ruling runs now line (Obeyed line.condition its) have in
      let earns : Event = event.Runs by.company (earned (position_now now.game.events) steps) in
      subst (λ (what : CompletedRun). HaveRun (with_run now kind run runs) (run_ruled by now line its (Ok what)))
      (sym (judged_ran now by.company kind run ran judged))
      (record {
        map_state = ap position_of (same_map_state ruled.game.events earns refl refl refl) ∙ after.map_state;
        held = λ other. trains_at_before ruled.game.events earns (train_owner_place (Some by.company)) other refl
            ∙ after.held other;
        set = set_more runs kind steps have.set (run_legal runs now kind run ran judged have)
            (run_room runs now kind run ran judged have);
        marks = crossed_used (all_crossed (walks_of runs)) done.borders steps have.marks;
        for_each = length-set done.trains (index_of_kind kind) (has_run done kind +ℤ pos 1) ∙ have.for_each;
        counted = λ other.
            counted_more done.trains (index_of_kind kind) (index_of_kind other)
            (in_number other (trains_that_run runs)) (in_number kind (trains_that_run runs))
            (omega (arith, kind_low kind, have.for_each)) (have.counted kind) (have.counted other);
        sum = omega (arith, have.sum, ap (λ (position : Position). earned position steps) have.map_state);
      })

  -- after a RUN, obeyed or refused
  after_judged :
      (runs : List TrainRun) (now : TurnState) (line : Numbered) (its : Order) (kind : Kind) (run : List Place)
      (judged : Result CompletedRun RunRule) →
      judged_run now by.company kind run ≡ judged → HaveRun runs now
      → (more : List TrainRun) × HaveRun more (run_ruled by now line its judged)
  after_judged runs now line its kind run (Err rule) is have =
      (runs, after_ruling runs now line (Refused (refusal.Run rule) line.condition its) have)
  after_judged runs now line its kind run (Ok ran) is have =
      (with_run now kind run runs, after_obeyed runs now line its kind run ran is have)

  -- after a RUN whose condition is checked
  after_asked :
      (runs : List TrainRun) (now next : TurnState) (line : Numbered) (kind : Kind) (run : List Place) (held : Bool) →
      AskedLeads by now line (order.Run kind run) held next → HaveRun runs now
      → (more : List TrainRun) × HaveRun more next
  after_asked runs now next line kind run true leads have =
      (runs, subst (HaveRun runs) (sym leads) (after_ruling runs now line _ have))
  after_asked runs now next line kind run false leads have =
      let after = after_judged runs now line (order.Run kind run) kind run (judged_run now by.company kind run) refl
      have in
      (after.0, subst (HaveRun after.0) (sym leads) after.1)

  -- after a line that orders a run
  after_line :
      (runs : List TrainRun) (now next : TurnState) (line : Numbered) → OrdersRun line → LineLeads by now line next
      → HaveRun runs now →
      (more : List TrainRun) × HaveRun more next
  after_line runs now next line (kind, run, reads) leads have =
      after_asked runs now next line kind run (is_held now.game.events line.condition (order.Run kind run))
      (subst (λ (reading : Result Order Fault). ReadingLeads by now line reading next) reads leads) have

  -- after such lines
  after_lines :
      (runs : List TrainRun) (now : TurnState) (lines : List Numbered) (new : TurnState)
      → AllByRecursion OrdersRun lines
      → LinesLead by now lines new →
      HaveRun runs now → (more : List TrainRun) × HaveRun more new
  after_lines runs now [] new orders leads have = (runs, subst (HaveRun runs) (sym leads) have)
  after_lines runs now (line ∷ lines) new orders leads have =
      let after = after_line runs now leads.0 line orders.0 leads.1 have in
      after_lines after.0 leads.0 lines new orders.1 leads.2 after.1

  -- they have earned no more than the best
  no_more_earned :
      (lines : List Numbered) (written best : TurnState) (line : Numbered) → first.progress.runs ≡ no_runs →
      AllByRecursion OrdersRun lines → LinesLead by first lines written →
      BestRuled by first line None best → written.progress.runs.revenue ≤ best.progress.runs.revenue
  no_more_earned lines written best line none orders writes leads =
      let after = after_lines [] first lines written orders writes (none_yet none) in
      let greatest : IsGreatest there by.company trains leads.0 = leads.1 in
      let is : best.progress.runs.revenue ≡ leads.0 = ap (λ (turn : TurnState). turn.progress.runs.revenue) leads.2 in
      omega (arith, is, after.1.sum, greatest.most after.0 after.1.set)

pub best_earns_no_less : BestEarnsNoLess
best_earns_no_less by game earlier lines turn written best line begins orders writes none leads =
    no_more_earned by turn lines written best line (nothing_ran by game earlier turn begins none) orders writes
    (subst (λ (rule : Option RunRule). BestRuled by turn line rule best) none leads)
