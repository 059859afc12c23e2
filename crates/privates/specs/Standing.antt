-- The standing lines of an opening sheet, those before its first written turn: LIMIT and PAR. They
-- are ruled at the round's start, seat by seat, and their conditions are checked then.
use Rattle.std.specs.Prelude.{Bool, true, false, List, Option, Some, option_map}
use Rattle.events.specs.declared.event.Event.{Event}
use Rattle.events.specs.declared.ruling.OpeningRule.{OpeningRule}
use Rattle.events.specs.declared.ruling.OpeningRule.TheVariants.{NotOfOpening}
use Rattle.events.specs.declared.ruling.Refusal.{Refusal}
use Rattle.events.specs.declared.ruling.Refusal.TheVariants.{Opening}
use Rattle.events.specs.declared.ruling.Ruling.{Ruling}
use Rattle.order_grammar.specs.declared.order.Order.{Order}
use Rattle.order_grammar.specs.declared.order.Order.TheVariants.{Play}
use Rattle.order_grammar.specs.declared.play.PlayOrder.TheVariants.{Limit, Par}
use Rattle.privates.specs.Limit.{limit_rules}
use Rattle.privates.specs.ParOfBo.{par_rules}
use Rattle.sheets.specs.Part.{Numbered}
use Rattle.tables.specs.Rules.{first_broken}
use Rattle.tables.specs.declared.seat.Seat.{Seat}
use Rattle.turns.specs.Ruling.{line_ruling, recorded}

-- the orders that may be before the first written turn
abbrev pub has_place_before_turns : Order → Bool
has_place_before_turns (Play (Limit private amount)) = true
has_place_before_turns (Play (Par company price)) = true
has_place_before_turns other = false

-- the first rule that a standing order breaks; any order but a LIMIT or a PAR breaks the first
abbrev pub opening_standing_judgement : List Event → Order → Option OpeningRule
opening_standing_judgement events (Play (Limit private amount)) = first_broken (limit_rules events private)
opening_standing_judgement events (Play (Par company price)) = first_broken (par_rules company price)
opening_standing_judgement events other = Some NotOfOpening

-- the rule that a standing order breaks, as a ruling refuses an order
abbrev pub opening_standing_refusal : List Event → Order → Option Refusal
opening_standing_refusal events order = option_map Opening (opening_standing_judgement events order)

-- what becomes of a standing line
abbrev pub opening_standing_ruling : List Event → Numbered → Ruling
opening_standing_ruling events line = line_ruling has_place_before_turns (opening_standing_refusal events) events line

-- after a standing line of a seat
abbrev pub after_opening_standing_line : Seat → List Event → Numbered → List Event
after_opening_standing_line seat events line = recorded seat line.number (opening_standing_ruling events line) events
