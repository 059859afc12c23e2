-- What runs earn, by the borders that they use: a run visits at most one stop more than it crosses
-- borders, and no stop is worth more than 80 dollars.
use Rattle.std.specs.Prelude.{◌||◌}
use Rattle.std.specs.Prelude.{Option}
use Rattle.legal_runs.specs.Fault.{has_border}
use Rattle.std.specs.Prelude.{unwrap_or}
use Rattle.std.proofs.Common.{◌≡◌, ℕ, zero, suc, ◌+◌, ◌*◌, ◌<◌, ◌≤◌, Bool, true, false, List, [], ◌∷◌, ◌++◌, length}
use Rattle.std.proofs.Common.{get_or, set, refl, sym, subst, ap, ◌∙◌, arith}
use Rattle.std.specs.List.{AllByRecursion}
use Rattle.std.proofs.lemmas.Bool.{or_parts}
use Rattle.map_tables.specs.declared.hex.Hex.{Hex}
use Rattle.map_tables.specs.declared.place.Stop.{Stop}
use Rattle.map_tables.specs.declared.place.StopNumber.{StopNumber}
use Rattle.map_tables.specs.declared.track.TrackEnd.{TrackEnd}
use Rattle.map_tables.specs.declared.track.TrackEnd.TheVariants.{Side as AtSide, Stop as AtStop}
use Rattle.reach.specs.Lawful.{IsLawful}
use Rattle.reach.specs.Position.{Position}
use Rattle.reach.specs.Walk.{IsWalk, stop_at_end}
use Rattle.reach.specs.declared.walk.WalkStep.{WalkStep}
use Rattle.tables.specs.declared.rolling_stock.Kind.{Kind}
use Rattle.tables.specs.declared.roster.Company.{Company}
use Rattle.legal_runs.proofs.Joined.{distinct_borders}
use Rattle.legal_runs.proofs.TallyOfWalk.{crossed_low, length_marked, marked_is}
use Rattle.legal_runs.proofs.Lawful.{legal_where_unbroken}
use Rattle.legal_runs.proofs.Written.{ordered, stop_to_stop}
use Rattle.legal_runs.specs.Fault.{has_border_twice, named_steps}
use Rattle.legal_runs.specs.Marks.{borders_used, marked}
use Rattle.legal_runs.specs.Law.{NameLegalRun, RunsEarnByBorders, unused}
use Rattle.legal_runs.specs.Legal.{IsLegalRun, border_at, crossed, earned, listed, visited, worth}

-- no stop is worth more than 80 dollars
pub worth_low : (position : Position) → IsLawful position → (stops : List Stop)
    → worth position stops ≤ 80 * length stops
worth_low position lawful [] = omega arith
worth_low position lawful (stop ∷ stops) = omega (arith, worth_low position lawful stops, lawful.values stop)

-- a step that is not from a stop to a stop
abbrev LeavesStops : TrackEnd → TrackEnd → Type 0
LeavesStops enters leaves = (n m : StopNumber) → enters ≡ AtStop n → leaves ≡ AtStop m → ⊥

-- the first step of a walk visits at most one stop more than it crosses borders
first_step : (hex : Hex) (enters leaves : TrackEnd) → LeavesStops enters leaves
    → length (listed (stop_at_end hex leaves) ++ (listed (stop_at_end hex enters) ++ []))
    ≤ length (border_at hex enters ++ []) + 1
first_step hex (AtSide from) (AtSide to) apart = omega arith
first_step hex (AtSide from) (AtStop m) apart = omega arith
first_step hex (AtStop n) (AtSide to) apart = omega arith
first_step hex (AtStop n) (AtStop m) apart = absurd (apart n m refl refl)

-- a later one visits a stop only where it crosses a border
later_step : (hex : Hex) (enters leaves : TrackEnd) (stops : List Stop) (borders : List ℕ) → LeavesStops enters leaves
    → length stops ≤ length borders + 1 → length (listed (stop_at_end hex leaves) ++ ([] ++ stops))
    ≤ length (border_at hex enters ++ borders) + 1
later_step hex (AtSide from) (AtSide to) stops borders apart few = omega arith
later_step hex (AtSide from) (AtStop m) stops borders apart few = omega arith
later_step hex (AtStop n) (AtSide to) stops borders apart few = omega arith
later_step hex (AtStop n) (AtStop m) stops borders apart few = absurd (apart n m refl refl)

-- so a walk visits at most one stop more than it crosses borders
pub few_visited : (position : Position) → IsLawful position → (steps : List WalkStep) → IsWalk position steps
    → length (visited steps) ≤ length (crossed steps) + 1
few_visited position lawful [] walk = omega arith
few_visited position lawful (step ∷ []) walk = grind (arith, first_step, ordered, stop_to_stop)
few_visited position lawful (step ∷ earlier ∷ before) walk = grind (arith, later_step, ordered, stop_to_stop, few_visited position lawful (earlier ∷ before) walk.2)

-- no more are unused than there are
pub few_unused : (marks : List Bool) → unused marks ≤ length marks
few_unused [] = omega arith
few_unused (true ∷ marks) = omega (arith, few_unused marks)
few_unused (false ∷ marks) = omega (arith, few_unused marks)

-- a new mark leaves one border fewer
pub mark_used : (marks : List Bool) (border : ℕ) → border < length marks → get_or marks border false ≡ false
    → unused (set marks border true) + 1 ≡ unused marks
mark_used [] border low free = absurd (omega arith)
mark_used (mark ∷ marks) zero low free = grind arith
mark_used (mark ∷ marks) (suc border) low free = grind (arith, mark_used marks border (omega arith) free)

-- this many leave this many fewer
marks_used : (used : List Bool) (borders : List ℕ) → AllByRecursion (λ border. border < length used) borders
    → has_border_twice (borders_used used) borders ≡ false → unused (marked used borders) + length borders ≡ unused used
marks_used used [] low once = omega arith
marks_used used (border ∷ borders) low once =
    let parts : (has_border_twice (borders_used used) borders ≡ false)
    × ((has_border border (borders_used used) || has_border border borders) ≡ false) =
    or_parts (has_border_twice (borders_used used) borders) ((has_border border (borders_used used) || has_border border borders)) once in
    let here : border < length (marked used borders) = omega (arith, length_marked used borders, low.0) in
    let free : get_or (marked used borders) border false ≡ false = marked_is used borders border low.1 ∙ parts.1 in
    omega (arith, mark_used (marked used borders) border here free, marks_used used borders low.1 parts.0)

-- a legal run earns at most 160 dollars for each border that it uses
legal_earns : (position : Position) (company : Company) (kind : Kind) (used : List Bool) (steps : List WalkStep)
    → length used ≡ 279 → IsLawful position → IsLegalRun position company kind (borders_used used) steps
    → earned position steps + 160 * unused (marked used (crossed steps)) ≤ 160 * unused used
legal_earns position company kind used steps whole lawful run =
    let low = crossed_low (length used) steps (omega arith) in
    let once = distinct_borders (borders_used used) (crossed steps) run.no_border_twice run.no_used_border in
    omega (
      arith,
      worth_low position lawful (visited steps),
      few_visited position lawful steps run.walk,
      run.two,
      marks_used used (crossed steps) low once,
    )

-- so does a run that breaks no rule
pub earn_by_borders : RunsEarnByBorders
earn_by_borders position company kind used places whole lawful unbroken =
    let run : NameLegalRun position company kind (borders_used used) places =
    (legal_where_unbroken position company kind (borders_used used) places).0 unbroken in
    let named : named_steps position places ≡ run.0 = ap (λ (w : Option (List WalkStep)). unwrap_or w []) run.1 in
    subst (λ (steps : List WalkStep). earned position steps + 160 * unused (marked used (crossed steps))
    ≤ 160 * unused used) (sym named) (legal_earns position company kind used run.0 whole lawful run.2)
