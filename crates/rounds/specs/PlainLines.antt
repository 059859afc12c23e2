-- A line without a condition is judged by the rules of its family alone, and no ruling in the game
-- of a file of version 1 is of an order under a condition, or refuses one because its condition
-- does not hold.
use Rattle.std.specs.Prelude.{◌≡◌, ℕ, Bool, true, false, ◌&&◌, not, List, Option, None, is_none, option_map}
use Rattle.std.specs.List.{list_all}
use Rattle.certs.specs.declared.share_deal.Sale.{Sale}
use Rattle.events.specs.declared.event.Event.{Event}
use Rattle.events.specs.declared.event.Event.TheVariants.{Ruled}
use Rattle.events.specs.declared.ruling.Refusal.{Refusal}
use Rattle.events.specs.declared.ruling.Refusal.TheVariants as refusal
use Rattle.events.specs.declared.ruling.Ruling.{Ruling}
use Rattle.events.specs.declared.ruling.Ruling.TheVariants.{Obeyed, Refused, Faulty}
use Rattle.operating.specs.CompanyOrders.{is_held}
use Rattle.operating.specs.ForcedPurchase.{Operator, needed_judgement, raised_sale_judgement}
use Rattle.order_grammar.specs.declared.condition.Condition.{Condition}
use Rattle.order_grammar.specs.declared.condition.Version.TheVariants.{One}
use Rattle.order_grammar.specs.declared.order.Order.{Order}
use Rattle.rounds.specs.Play.{AreRounds, Between, before_play}
use Rattle.sheets.specs.File.{version_of}
use Rattle.totals.specs.LookBack.{Game}
use Rattle.turns.specs.Ruling.{refusal_under}

-- the condition of the order that was ruled; a fault has none
abbrev pub condition_ruled : Ruling → Option Condition
condition_ruled (Obeyed condition order) = condition
condition_ruled (Refused rule condition order) = condition
condition_ruled (Faulty fault) = None

-- an order is refused because its condition does not hold
abbrev pub is_for_condition : Ruling → Bool
is_for_condition (Refused refusal.Condition condition order) = true
is_for_condition other = false

-- a ruling is plain: it is of no order under a condition, and it is for no condition
abbrev pub is_ruled_plainly : Ruling → Bool
is_ruled_plainly ruling = is_none (condition_ruled ruling) && not (is_for_condition ruling)

-- so is an event that is such a ruling, or none
abbrev pub is_plain : Event → Bool
is_plain (Ruled seat line ruling) = is_ruled_plainly ruling
is_plain other = true

-- each event in the game of a file of version 1 is plain, however many rounds were played
abbrev pub VersionOneIsRuledPlainly : Type 0
VersionOneIsRuledPlainly =
    (file : List ℕ) (rounds : ℕ) (there : Between) →
    version_of file ≡ One → AreRounds file rounds (before_play file) there → list_all is_plain there.game.events ≡ true

-- with no condition an order is judged by its family alone: by the rules of a round of turns, by
-- those of its place in a company's orders, where nothing holds it up, and, if it is a RAISE that
-- is needed, by those of a sale
pub record FamilyAloneJudges : Type 0 where
  pub turns : (events : List Event) (judgement : Order → Option Refusal) (order : Order)
      → refusal_under events None judgement order ≡ judgement order
  pub companies : (events : List Event) (order : Order) → is_held events None order ≡ false
  pub raises : (by : Operator) (game : Game) (sale : Sale)
      → needed_judgement by game None sale ≡ option_map refusal.Stock (raised_sale_judgement by game sale)
