-- What is wrong with a run: the first rule that it breaks, of a table in the order of the rules'
-- numbers. Each rule is a test over the walk that the places name.
use Rattle.std.specs.Option.{option_map_or}
use Rattle.std.specs.Prelude.{unwrap_or}
use Rattle.std.specs.Prelude.{ℕ, Bool, false, not, ◌==◌, ◌&&◌, ◌||◌, nat_lt, Option, is_none, List, [], ◌∷◌}
use Rattle.std.specs.Prelude.{length}
use Rattle.std.specs.List.{list_any}
use Rattle.map_tables.specs.declared.place.Place.{Place}
use Rattle.map_tables.specs.declared.place.Stop.{Stop}
use Rattle.reach.specs.Position.{Position, at_stop, is_red}
use Rattle.reach.specs.Reached.{stop_order}
use Rattle.reach.specs.Walk.{entered_at, stop_of}
use Rattle.reach.specs.declared.walk.WalkStep.{WalkStep}
use Rattle.tables.specs.Roster.{same_company}
use Rattle.tables.specs.Rules.{Rule, first_broken}
use Rattle.tables.specs.Train.{stops_of}
use Rattle.tables.specs.declared.rolling_stock.Kind.{Kind}
use Rattle.tables.specs.declared.roster.Company.{Company}
use Rattle.legal_runs.specs.Legal.{visited, crossed}
use Rattle.legal_runs.specs.Named.{walk_named}
use Rattle.map_tables.specs.declared.rules.RunRule.{RunRule}
use Rattle.map_tables.specs.declared.rules.RunRule.TheVariants.{NoTrack, WrongNumber, StopTwice, BorderTwice}
use Rattle.map_tables.specs.declared.rules.RunRule.TheVariants.{PassesFull, NoToken, RedInside}

-- whether a company has a token at a stop
abbrev pub has_token_at_stop : Position → Company → Stop → Bool
has_token_at_stop position company stop = list_any (λ other. same_company other company) (at_stop position stop).tokens

-- whether a stop is a city that is full for a company
abbrev pub is_full : Position → Company → Stop → Bool
is_full position company stop = let here = at_stop position stop in nat_lt 0 here.slots
    && (not (nat_lt (length here.tokens) here.slots) && not (has_token_at_stop position company stop))

-- a train visits fewer than two stops, or more than its kind may
abbrev pub is_wrong_number : Kind → ℕ → Bool
is_wrong_number kind count = nat_lt count 2 || option_map_or (λ most. nat_lt most count) (stops_of kind) false

-- whether a stop is visited that was visited before; stops differ by their order on the map
abbrev pub has_stop : Stop → List Stop → Bool
has_stop stop stops = list_any (λ other. stop_order other == stop_order stop) stops

-- some stop is visited twice
abbrev pub has_stop_twice : List Stop → Bool
has_stop_twice [] = false
has_stop_twice (stop ∷ stops) = has_stop_twice stops || has_stop stop stops

-- whether a border is crossed that was used, or crossed before
abbrev pub has_border : ℕ → List ℕ → Bool
has_border border borders = list_any (λ other. other == border) borders

-- a border is crossed that the walk, or an earlier run of the turn, has crossed
abbrev pub has_border_twice : List ℕ → List ℕ → Bool
has_border_twice used [] = false
has_border_twice used (border ∷ borders) = has_border_twice used borders
    || (has_border border used || has_border border borders)

-- a step goes on from a stop that passes a test; the first step goes on from nowhere
abbrev pub goes_through : (Stop → Bool) → List WalkStep → WalkStep → Bool
goes_through test [] step = false
goes_through test (earlier ∷ before) step = option_map_or test (stop_of (entered_at step)) false

-- a walk goes through a stop that passes a test
abbrev pub passes : (Stop → Bool) → List WalkStep → Bool
passes test [] = false
passes test (step ∷ before) = passes test before || goes_through test before step

-- a rule of runs, and whether it is broken
abbrev pub tested_run_rule : RunRule → Bool → Rule RunRule
tested_run_rule code broken = record { code = code; broken = broken }

-- the steps of the walk that some places name; none if they name no walk
abbrev pub named_steps : Position → List Place → List WalkStep
named_steps position places = unwrap_or (walk_named position places) []

-- the rules of a walk
abbrev pub rules_of_walk : Position → Company → Kind → List ℕ → List WalkStep → List (Rule RunRule)
rules_of_walk position company kind used steps =
    tested_run_rule WrongNumber (is_wrong_number kind (length (visited steps))) ∷
    tested_run_rule StopTwice (has_stop_twice (visited steps)) ∷
    tested_run_rule BorderTwice (has_border_twice used (crossed steps)) ∷
    tested_run_rule PassesFull (passes (is_full position company) steps) ∷
    tested_run_rule NoToken (not (list_any (has_token_at_stop position company) (visited steps))) ∷
    tested_run_rule RedInside (passes (is_red position) steps) ∷ []

-- the rules of a run: that there is a walk, and those of the walk
abbrev pub rules_of_run : Position → Company → Kind → List ℕ → List Place → List (Rule RunRule)
rules_of_run position company kind used places = let walk = walk_named position places in
    tested_run_rule NoTrack (is_none walk) ∷ rules_of_walk position company kind used (unwrap_or walk [])

-- the first rule that a run breaks
abbrev pub run_fault : Position → Company → Kind → List ℕ → List Place → Option RunRule
run_fault position company kind used places = first_broken (rules_of_run position company kind used places)
