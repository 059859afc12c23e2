-- What the check of a run keeps of the steps that it has followed, and how it changes by a step.
use Rattle.std.specs.Prelude.{ℕ, ◌+◌, Bool, true, false, ◌||◌, if◌then◌else◌, not, Option, Some, None, List, [], ◌∷◌}
use Rattle.std.specs.Prelude.{get_or, set, replicate}
use Rattle.map_tables.specs.declared.hex.Hex.{Hex}
use Rattle.map_tables.specs.declared.place.Stop.{Stop}
use Rattle.map_tables.specs.declared.track.TrackEnd.{TrackEnd}
use Rattle.map_tables.specs.declared.track.TrackEnd.TheVariants.{Side as AtSide, Stop as AtStop}
use Rattle.reach.specs.Position.{Position, is_red, value_of}
use Rattle.reach.specs.Reached.{map_stops, stop_order}
use Rattle.reach.specs.Walk.{entered_at, left_at, stop_of}
use Rattle.reach.specs.declared.walk.Spot.{Spot}
use Rattle.reach.specs.declared.walk.WalkStep.{WalkStep}
use Rattle.tables.specs.Rules.{Rule, first_broken}
use Rattle.tables.specs.declared.rolling_stock.Kind.{Kind}
use Rattle.tables.specs.declared.roster.Company.{Company}
use Rattle.legal_runs.specs.Fault.{has_token_at_stop, is_full, is_wrong_number, tested_run_rule}
use Rattle.legal_runs.specs.Legal.{border_of}
use Rattle.map_tables.specs.declared.rules.RunRule.{RunRule}
use Rattle.map_tables.specs.declared.rules.RunRule.TheVariants.{WrongNumber, StopTwice, BorderTwice, PassesFull}
use Rattle.map_tables.specs.declared.rules.RunRule.TheVariants.{NoToken, RedInside}
use Rattle.legal_runs.specs.declared.tally.Tally.{Tally}

-- before the first step
abbrev pub no_steps : List Bool → Tally
no_steps used = record {
  begun = false;
  stops = 0;
  value = 0;
  seen = replicate map_stops false;
  stop_twice = false;
  crossed = used;
  border_twice = false;
  passes_full = false;
  own_token = false;
  red_inside = false;
}

-- a stop is visited
unfoldable pub visiting : Position → Company → Tally → Stop → Tally
visiting position company tally stop = record tally {
  stops = tally.stops + 1;
  value = tally.value + value_of position stop;
  stop_twice = tally.stop_twice || get_or tally.seen (stop_order stop) false;
  seen = set tally.seen (stop_order stop) true;
  own_token = tally.own_token || has_token_at_stop position company stop;
}

-- a stop is passed
unfoldable pub passing : Position → Company → Tally → Stop → Tally
passing position company tally stop = record tally {
  passes_full = tally.passes_full || is_full position company stop;
  red_inside = tally.red_inside || is_red position stop;
}

-- a border is crossed
unfoldable pub crossing : Tally → ℕ → Tally
crossing tally border = record tally {
  border_twice = tally.border_twice || get_or tally.crossed border false;
  crossed = set tally.crossed border true;
}

-- a step is entered: at a side over the border there, at the first stop or at one that is passed
abbrev pub entering_stop : Position → Company → Tally → Option Stop → Tally
entering_stop position company tally None = tally
entering_stop position company tally (Some stop) =
    if tally.begun then passing position company tally stop else visiting position company tally stop

abbrev pub entering_side : Tally → Hex → TrackEnd → Tally
entering_side tally hex (AtSide side) = crossing tally (border_of hex side)
entering_side tally hex (AtStop number) = tally

abbrev pub entering : Position → Company → Tally → Spot → Tally
entering position company tally spot =
    entering_side (entering_stop position company tally (stop_of spot)) spot.hex spot.end

-- a step is left
abbrev pub leaving_stop : Position → Company → Tally → Option Stop → Tally
leaving_stop position company tally None = tally
leaving_stop position company tally (Some stop) = visiting position company tally stop

abbrev pub leaving : Position → Company → Tally → Spot → Tally
leaving position company tally spot =
    record (leaving_stop position company tally (stop_of spot)) { begun = true }

-- one more step
unfoldable pub counted : Position → Company → Tally → WalkStep → Tally
counted position company tally step =
    leaving position company (entering position company tally (entered_at step)) (left_at step)

-- all steps of a walk
abbrev pub tally_of : Position → Company → List Bool → List WalkStep → Tally
tally_of position company used [] = no_steps used
tally_of position company used (step ∷ before) =
    counted position company (tally_of position company used before) step

-- the rules that a walk breaks, by what was kept of it
abbrev pub rules_of_tally : Kind → Tally → List (Rule RunRule)
rules_of_tally kind tally =
    tested_run_rule WrongNumber (is_wrong_number kind tally.stops) ∷
    tested_run_rule StopTwice tally.stop_twice ∷
    tested_run_rule BorderTwice tally.border_twice ∷
    tested_run_rule PassesFull tally.passes_full ∷
    tested_run_rule NoToken (not tally.own_token) ∷
    tested_run_rule RedInside tally.red_inside ∷ []

abbrev pub tally_fault : Kind → Tally → Option RunRule
tally_fault kind tally = first_broken (rules_of_tally kind tally)
