-- What a run is that is obeyed: it breaks no rule of runs, so that it is legal, and a train may do
-- it.
use Rattle.std.specs.Prelude.{[]}
use Rattle.std.specs.Prelude.{unwrap_or}
use Rattle.std.proofs.Common.{◌≡◌, Option, Some, None, Ok, refl, List, sym, subst, ap, Bool, false}
use Rattle.std.proofs.Common.{ℕ, ◌≤◌, ℤ, pos, arith, ◌+◌, ◌*◌, ◌≤ℤ◌, ◌∙◌}
use Rattle.std.proofs.lemmas.Int.{ints}
use Rattle.std.specs.Int.RustNames.{unsigned_abs}
use Rattle.std.specs.Int.Signed.{le_z}
use Rattle.std.specs.Option.{option_or}
use Rattle.std.proofs.lemmas.Bool.{or_parts}
use Rattle.history.proofs.Soundness.{none_earlier}
use mir.Syntax.{w128}
use mir.Val.{of_z, to_z}
use Rattle.legal_runs.proofs.TallyOfWalk.{length_marked}
use Rattle.legal_runs.proofs.Lawful.{legal_where_unbroken}
use Rattle.legal_runs.specs.Fault.{named_steps, run_fault}
use Rattle.legal_runs.specs.Law.{NameLegalRun, RunsEarnByBorders, unused}
use Rattle.legal_runs.specs.Legal.{IsLegalRun, crossed, earned}
use Rattle.legal_runs.specs.Marks.{borders_used, marked}
use Rattle.map_tables.specs.declared.place.Place.{Place}
use Rattle.map_tables.specs.RuleCodes.{code_of_run_rule}
use Rattle.map_tables.specs.declared.rules.RunRule.{RunRule}
use Rattle.map_tables.specs.declared.rules.RunRule.TheVariants as run_rule
use Rattle.operating.specs.MapState.{position_now, steps_now}
use Rattle.operating.specs.Run.{broken_by, judged_run, ran_by, ran_unless, rules_of_turn, run_judgement}
use Rattle.operating.specs.CompletedRuns.{IsBounded, IsCounted, RunsOfTurn, has_run, runs_most}
use Rattle.operating.specs.TurnState.{TurnState}
use Rattle.operating.specs.declared.completed_runs.CompletedRun.{CompletedRun}
use Rattle.reach.specs.Lawful.{IsLawful}
use Rattle.reach.specs.Position.{Position}
use Rattle.reach.specs.declared.walk.WalkStep.{WalkStep}
use Rattle.tables.proofs.Rules.{not_broken}
use Rattle.tables.specs.Rules.{first_broken}
use Rattle.tables.specs.declared.rolling_stock.Kind.{Kind}
use Rattle.tables.specs.declared.roster.Company.{Company}
use Rattle.totals.specs.Trains.{trains_held}

-- a run that is done breaks no rule
none_broken : (ran done : CompletedRun) (found : Option RunRule) → ran_unless ran found ≡ Ok done → found ≡ None
none_broken ran done None is = refl
none_broken ran done (Some rule) is = absurd (cc)

-- a run that is done is legal by the marks of the used borders
pub judged_legal : (turn : TurnState) (company : Company) (kind : Kind) (run : List Place) (ran : CompletedRun)
    → judged_run turn company kind run ≡ Ok ran → IsLegalRun (position_now turn.game.events) company kind
    (borders_used turn.progress.runs.borders) (steps_now turn.game.events run)
judged_legal turn company kind run ran is =
    let position = position_now turn.game.events in
    let used = borders_used turn.progress.runs.borders in
    let fault = run_fault position company kind used run in
    let judged : run_judgement turn company kind run ≡ None =
    none_broken (ran_by position kind turn.progress.runs.borders run) ran (run_judgement turn company kind run)
    is in
    let unbroken : fault ≡ None = none_earlier (first_broken (rules_of_turn turn.game company turn.progress kind))
    fault judged in
    let legal : NameLegalRun position company kind used run =
    (legal_where_unbroken position company kind used run).0 unbroken in
    subst (λ (steps : List WalkStep). IsLegalRun position company kind used steps) (sym (ap (λ (w : Option (List WalkStep)). unwrap_or w []) legal.1)) legal.2

-- what is done is what the run does
done_is : (ran done : CompletedRun) (found : Option RunRule) → ran_unless ran found ≡ Ok done → done ≡ ran
done_is ran done None is = cc
done_is ran done (Some rule) is = absurd (cc)

-- what the run does that is done
pub judged_ran :
    (turn : TurnState) (company : Company) (kind : Kind) (run : List Place) (ran : CompletedRun)
    → judged_run turn company kind run ≡ Ok ran →
    ran ≡ ran_by (position_now turn.game.events) kind turn.progress.runs.borders run
judged_ran turn company kind run ran is =
    done_is (ran_by (position_now turn.game.events) kind turn.progress.runs.borders run) ran
    (run_judgement turn company kind run) is

-- the borders that are marked then
pub judged_borders :
    (turn : TurnState) (company : Company) (kind : Kind) (run : List Place) (ran : CompletedRun)
    → judged_run turn company kind run ≡ Ok ran →
    ran.borders ≡ marked turn.progress.runs.borders (crossed (steps_now turn.game.events run))
judged_borders turn company kind run ran is = ap (λ (r : CompletedRun). r.borders)
    (judged_ran turn company kind run ran is)

-- where neither of two is there, the first is not
first_none : {A : Type 0} (first second : Option A) → option_or first second ≡ None → first ≡ None
first_none None second none = refl
first_none (Some thing) second none = absurd (cc)

-- a run is done only where some train of its kind has not run
pub judged_room :
    (turn : TurnState) (company : Company) (kind : Kind) (run : List Place) (ran : CompletedRun)
    → judged_run turn company kind run ≡ Ok ran →
    le_z (trains_held turn.game.events (Some company) kind) (has_run turn.progress.runs kind) ≡ false
judged_room turn company kind run ran is =
    let position = position_now turn.game.events in
    let marks = turn.progress.runs.borders in
    let judged : run_judgement turn company kind run ≡ None =
    none_broken (ran_by position kind marks run) ran (run_judgement turn company kind run) is in
    let rules = rules_of_turn turn.game company turn.progress kind in
    (or_parts turn.progress.best_run
    (le_z (trains_held turn.game.events (Some company) kind) (has_run turn.progress.runs kind))
    (not_broken code_of_run_rule rules
    (first_none (first_broken rules) (broken_by position company kind marks run) judged) run_rule.NoTrain)).1

-- a sum that a run earns is kept whole
sum_kept : (money : ℤ) (sum : ℕ) → money ≡ pos sum → sum ≤ 94640 → unsigned_abs (to_z w128 (of_z w128 money)) ≡ sum
sum_kept money sum is small =
    let kept : to_z w128 (of_z w128 money) ≡ pos sum = omega (arith, ints, is, small) in
    ap unsigned_abs kept

-- a run that breaks no rule of runs may be done
pub run_counted : (position : Position) (company : Company) (kind : Kind) (done seen : RunsOfTurn) (run : List Place)
    (borders : List Bool) (money : ℤ) → done ≡ seen → IsBounded done.trains done.borders done.revenue
    → IsLawful position → RunsEarnByBorders → run_fault position company kind (borders_used done.borders) run ≡ None
    → money ≡ pos (earned position (named_steps position run))
    → borders ≡ marked done.borders (crossed (named_steps position run)) → has_run seen kind ≤ℤ runs_most
    → IsCounted seen (record { kind = kind; earned = unsigned_abs (to_z w128 (of_z w128 money)); borders = borders })
run_counted position company kind done seen run borders money view within lawful law unbroken earns crosses few =
    let sum : ℕ = earned position (named_steps position run) in
    let after : List Bool = marked done.borders (crossed (named_steps position run)) in
    let bounded : sum + 160 * unused after ≤ 160 * unused done.borders =
    law position company kind done.borders run within.marks lawful unbroken in
    let small : sum ≤ 94640 = omega (arith, bounded, within.bounded) in
    let made : ℕ → List Bool → CompletedRun = λ sum marks. record { kind = kind; earned = sum; borders = marks } in
    let is : made sum after ≡ made (unsigned_abs (to_z w128 (of_z w128 money))) borders =
    ap (λ (n : ℕ). made n after) (sym (sum_kept money sum earns small))
    ∙ ap (made (unsigned_abs (to_z w128 (of_z w128 money)))) (sym crosses)
    in
    subst (IsCounted seen) is
    (subst (λ (d : RunsOfTurn). IsCounted d (made sum after)) view
    (record {
      few = subst (λ (d : RunsOfTurn). has_run d kind ≤ℤ runs_most) (sym view) few;
      marks = length_marked done.borders (crossed (named_steps position run));
      bounded = bounded;
      small = small;
    }))
