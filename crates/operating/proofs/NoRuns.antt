-- Where no train has run in a turn, none is set down as run: a run is counted, and what is counted
-- is more than 0.
use Rattle.std.proofs.Common.{◌≡◌, ℕ, zero, suc, ◌<◌, Bool, true, false, not, ◌||◌, inl, inr, List, [], ◌∷◌, Option}
use Rattle.std.proofs.Common.{Some, None, Result, Ok, Err, ℤ, pos, ◌≤ℤ◌, ◌<ℤ◌, ◌+ℤ◌, length, get_or, set, refl, sym}
use Rattle.std.proofs.Common.{subst, ◌∙◌, arith, get_or-set_other, length-set}
use Rattle.std.proofs.lemmas.Bool.{cases_eq, or_parts}
use Rattle.std.proofs.lemmas.Grind.{get_or-set_at}
use Rattle.std.proofs.lemmas.Int.{ints}
use Rattle.std.specs.Int.Signed.{lt_z}
use Rattle.std.specs.List.{list_any}
use Rattle.totals.specs.LookBack.{Game}
use Rattle.map_tables.specs.RuleCodes.{code_of_run_rule}
use Rattle.map_tables.specs.declared.rules.RunRule.{RunRule}
use Rattle.map_tables.specs.declared.rules.RunRule.TheVariants as run_rule
use Rattle.forced_purchase.proofs.CheapestTrain.{less_is}
use Rattle.operating.proofs.OtherOrders.{after_other}
use Rattle.operating.specs.RunBest.{BestRuled, best_judgement, rules_of_best}
use Rattle.purchases.specs.Train.{has_trains}
use Rattle.operating.specs.CompanyOrders.{AskedLeads, LinesLead, OrderLeads, ReadingLeads, is_held}
use Rattle.operating.specs.Progress.{has_any_run}
use Rattle.operating.specs.Run.{judged_run, run_ruled}
use Rattle.operating.specs.CompletedRuns.{has_run, no_runs, with_ran}
use Rattle.operating.specs.Turn.{begun}
use Rattle.operating.specs.TurnState.{TurnState}
use Rattle.forced_purchase.specs.declared.operator.Operator.{Operator}
use Rattle.operating.specs.declared.completed_runs.CompletedRun.{CompletedRun}
use Rattle.operating.specs.declared.completed_runs.Runs.{Runs}
use Rattle.order_grammar.specs.declared.fault.Fault.{Fault}
use Rattle.order_grammar.specs.declared.order.Order.{Order}
use Rattle.order_grammar.specs.declared.order.Order.TheVariants as order
use Rattle.order_grammar.specs.declared.play.PlayOrder.TheVariants as play
use Rattle.sheets.specs.Part.{Numbered}
use Rattle.tables.proofs.Rules.{not_broken}
use Rattle.tables.specs.Train.{index_of_kind}
use Rattle.tables.specs.declared.rolling_stock.Kind.{Kind}
use Rattle.tables.specs.declared.rolling_stock.Kind.TheVariants.{Two, Three, Four, Five, Six, Diesel}

-- each kind has a place
pub kind_low : (kind : Kind) → index_of_kind kind < 6
kind_low kind = grind arith

-- a count is more than 0
abbrev is_some_run : ℤ → Bool
is_some_run count = lt_z (pos 0) count

-- one of some counts is more than 0 once one is set so
any_set : (counts : List ℤ) (at : ℕ) (count : ℤ) → at < length counts → pos 0 <ℤ count
    → list_any is_some_run (set counts at count) ≡ true
any_set [] at count low over = absurd (omega arith)
any_set (first ∷ counts) zero count low over = rw (less_is (pos 0) count over) refl
any_set (first ∷ counts) (suc at) count low over =
    second (is_some_run first) _ (any_set counts at count (omega arith) over)
  where
    second : (a b : Bool) → b ≡ true → (a || b) ≡ true
    second true b is = refl
    second false b is = is

-- none is less than 0 once one is set that is not
least_set :
    (counts : List ℤ) (at other : ℕ) (count : ℤ) → at < length counts → pos 0 ≤ℤ count
    → pos 0 ≤ℤ get_or counts other (pos 0) →
    pos 0 ≤ℤ get_or (set counts at count) other (pos 0)
least_set counts at other count low least rest =
    elim (cases_eq other at) [
      | inl same ↦ subst (λ (n : ℤ). pos 0 ≤ℤ n) (sym (get_or-set_at counts at other count (pos 0) same low)) least
      | inr differs ↦ subst (λ (n : ℤ). pos 0 ≤ℤ n) (sym (get_or-set_other counts at other count (pos 0) differs)) rest
    ]

-- some train has run, by what is kept of the runs
abbrev some_ran : Bool → Runs → Bool
some_ran best runs = best || list_any is_some_run runs.trains

-- What is kept of the runs in a turn, whether or not the best has been run. It is a count for each
-- kind, none less than 0, and nothing if no train has run.
pub record AreKept (best : Bool) (runs : Runs) : Type 0 where
  pub for_each : length runs.trains ≡ 6
  pub least : (kind : Kind) → pos 0 ≤ℤ has_run runs kind
  pub none : some_ran best runs ≡ false → runs ≡ no_runs

-- so it is in a turn
abbrev IsKeptIn : TurnState → Type 0
IsKeptIn turn = AreKept turn.progress.best_run turn.progress.runs

-- a test or one that holds
or_holds : (a b : Bool) → b ≡ true → (a || b) ≡ false → ⊥
or_holds true b is none = cc
or_holds false b is none = cc

-- once a train has run
with_run : (best : Bool) (runs : Runs) (ran : CompletedRun) → AreKept best runs → AreKept best (with_ran runs ran)
with_run best runs ran are =
    let at : ℕ = index_of_kind ran.kind in
    let count : ℤ = has_run runs ran.kind +ℤ pos 1 in
    let before : pos 0 ≤ℤ has_run runs ran.kind = are.least ran.kind in
    let low : at < length runs.trains = omega (arith, kind_low ran.kind, are.for_each) in
    record {
      for_each = length-set runs.trains at count ∙ are.for_each;
      least = λ kind. least_set runs.trains at (index_of_kind kind) count low (omega (arith, ints, before))
          (are.least kind);
      none = λ none.
          absurd (or_holds best (list_any is_some_run (set runs.trains at count))
          (any_set runs.trains at count low (omega (arith, ints, before))) none);
    }

-- once the best has been run
with_best : (best : Bool) (runs : Runs) (revenue : ℕ) → AreKept best runs
    → AreKept true (record runs { revenue = revenue })
with_best best runs revenue are = record { for_each = are.for_each; least = are.least; none = λ none. cc }

-- after a RUN
after_run :
    (by : Operator) (turn : TurnState) (line : Numbered) (its : Order) (judged : Result CompletedRun RunRule)
    → IsKeptIn turn → IsKeptIn (run_ruled by turn line its judged)
after_run by turn line its (Err rule) are = are
after_run by turn line its (Ok ran) are = with_run turn.progress.best_run turn.progress.runs ran are

-- after a RUN BEST
after_best :
    (by : Operator) (turn : TurnState) (line : Numbered) (rule : Option RunRule) (new : TurnState)
    → BestRuled by turn line rule new → IsKeptIn turn → IsKeptIn new
after_best by turn line (Some rule) new leads are = subst IsKeptIn (sym leads) are
after_best by turn line None new leads are =
    subst IsKeptIn (sym leads.2) (with_best turn.progress.best_run turn.progress.runs leads.0 are)

-- after an order
after_order : (by : Operator) (turn : TurnState) (line : Numbered) (its : Order) (new : TurnState)
    → OrderLeads by turn line its new →
    IsKeptIn turn → IsKeptIn new
after_order by turn line (order.Run kind run) new leads are =
    subst IsKeptIn (sym leads) (after_run by turn line (order.Run kind run) (judged_run turn by.company kind run) are)
after_order by turn line (order.Play play.RunBest) new leads are =
    after_best by turn line (best_judgement turn by.company) new leads are
after_order by turn line other new leads are =
    subst (λ (done : Bool × Runs). AreKept done.0 done.1) (sym (after_other by turn line other new tt leads)) are

-- after an order whose condition is checked
after_asked : (by : Operator) (turn : TurnState) (line : Numbered) (its : Order) (held : Bool) (new : TurnState)
    → AskedLeads by turn line its held new →
    IsKeptIn turn → IsKeptIn new
after_asked by turn line its true new leads are = subst IsKeptIn (sym leads) are
after_asked by turn line its false new leads are = after_order by turn line its new leads are

-- after a line
after_line : (by : Operator) (turn : TurnState) (line : Numbered) (reading : Result Order Fault) (new : TurnState)
    → ReadingLeads by turn line reading new →
    IsKeptIn turn → IsKeptIn new
after_line by turn line (Err fault) new leads are = subst IsKeptIn (sym leads) are
after_line by turn line (Ok its) new leads are =
    after_asked by turn line its (is_held turn.game.events line.condition its) new leads are

-- after some lines
after_lines : (by : Operator) (turn : TurnState) (lines : List Numbered) (new : TurnState) → LinesLead by turn lines new
    → IsKeptIn turn → IsKeptIn new
after_lines by turn [] new leads are = subst IsKeptIn (sym leads) are
after_lines by turn (line ∷ lines) new leads are =
    after_lines by leads.0 lines new leads.2 (after_line by turn line line.reading leads.0 leads.1 are)

-- at first no train has run
pub none_counted : (kind : Kind) → has_run no_runs kind ≡ pos 0
none_counted Two = refl
none_counted Three = refl
none_counted Four = refl
none_counted Five = refl
none_counted Six = refl
none_counted Diesel = refl

none_kept : AreKept false no_runs
none_kept = record { for_each = refl; least = λ kind. omega (arith, ints, none_counted kind); none = λ none. refl }

-- nothing is set down where a RUN BEST is obeyed: no train has run
pub nothing_ran : (by : Operator) (game : Game) (lines : List Numbered) (turn : TurnState)
    → LinesLead by (begun game by.company) lines turn →
    best_judgement turn by.company ≡ None → turn.progress.runs ≡ no_runs
nothing_ran by game lines turn leads none =
    (after_lines by (begun game by.company) lines turn leads none_kept).none
    ((or_parts (not (has_trains turn.game.events by.company)) (has_any_run turn.progress)
    (not_broken code_of_run_rule (rules_of_best turn.game by.company turn.progress) none run_rule.NoTrain)).1)
