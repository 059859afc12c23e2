-- A walk that crosses no border twice visits at most 280 stops.
use Rattle.std.proofs.Common.{◌≡◌, ℕ, ◌+◌, ◌<◌, ◌≤◌, Bool, true, false, inl, inr, Option, Some, None, List, [], ◌∷◌}
use Rattle.std.proofs.Common.{length, get_or, set, replicate, refl, sym, subst, ◌∙◌, arith, length-set}
use Rattle.std.proofs.lemmas.List.{length-replicate}
use Rattle.reach.proofs.Collected.{none_marked}
use Rattle.reach.specs.Lawful.{IsLawful}
use Rattle.reach.specs.Position.{Position, IsAmong}
use Rattle.reach.specs.Walk.{IsWalk}
use Rattle.reach.specs.declared.walk.WalkStep.{WalkStep}
use Rattle.tables.specs.Train.{stops_of}
use Rattle.tables.specs.declared.rolling_stock.Kind.{Kind}
use Rattle.legal_runs.specs.Legal.{AreAtMost, AreDistinct, crossed, visited}
use Rattle.legal_runs.proofs.Earning.{few_visited, mark_used}
use Rattle.legal_runs.proofs.TallyOfWalk.{crossed_low}
use Rattle.legal_runs.specs.Law.{unused}
use Rattle.search_task.specs.Described.{most_of}
use Rattle.search_task.specs.Fit.{BordersFit}
use Rattle.search_task.specs.Marks.{IsMarked}
use Rattle.search_task.proofs.Marked.{mark_more, unused_none}

-- distinct borders leave this many fewer
marked_count : (used : List Bool) (borders : List ℕ) → length used ≡ 279 → BordersFit borders → AreDistinct borders
    → ((border : ℕ) → IsAmong border borders → ¬ IsMarked used border) → length borders ≤ unused used
marked_count used [] whole fit distinct free = omega arith
marked_count used (first ∷ borders) whole fit distinct free =
    let low : first < length used = omega (arith, fit.0) in
    let unset : get_or used first false ≡ false = not_true (get_or used first false) (free first (inl refl)) in
    let one : unused (set used first true) + 1 ≡ unused used = mark_used used first low unset in
    let rest : length borders ≤ unused (set used first true) =
    marked_count (set used first true) borders (length-set used first true ∙ whole) fit.1 distinct.1
    (λ border among marked. elim ((mark_more used first border low).0 marked) [
      | inl same ↦ distinct.0 (subst (λ (b : ℕ). IsAmong b borders) same among)
      | inr before ↦ free border (inr among) before
    ]) in
    omega arith
  where
    not_true : (b : Bool) → (b ≡ true → ⊥) → b ≡ false
    not_true true none = absurd (none refl)
    not_true false none = refl

few_crossed : (steps : List WalkStep) → AreDistinct (crossed steps) → length (crossed steps) ≤ 279
few_crossed steps distinct =
    let count : length (crossed steps) ≤ unused (replicate 279 false) =
    marked_count (replicate 279 false) (crossed steps) (length-replicate 279 false)
    (crossed_low 279 steps (omega arith)) distinct
    (λ border among marked. let wrong : true ≡ false = sym marked ∙ none_marked 279 border in cc) in
    omega (arith, unused_none 279)

-- at most as many as the train may
by_most : (most : Option ℕ) (count : ℕ) → AreAtMost most count → count ≤ 280 → count ≤ most_of most
by_most (Some most) count at_most few = at_most
by_most None count at_most few = omega (arith, few)

pub few_stops : (position : Position) → IsLawful position → (kind : Kind) (steps : List WalkStep) → IsWalk position steps
    → AreDistinct (crossed steps) → AreAtMost (stops_of kind) (length (visited steps))
    → length (visited steps) ≤ most_of (stops_of kind)
few_stops position lawful kind steps walk distinct at_most =
    by_most (stops_of kind) (length (visited steps)) at_most
    (omega (arith, few_visited position lawful steps walk, few_crossed steps distinct))
