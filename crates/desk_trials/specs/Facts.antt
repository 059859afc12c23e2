-- What happens while a company must buy a train.
use Rattle.std.specs.Prelude.{Option, Some, None}
use Rattle.desk_trials.specs.declared.forced.ForcedFact.{ForcedFact}
use Rattle.desk_trials.specs.declared.forced.ForcedFact.TheVariants as fact
use Rattle.events.specs.declared.event.Event.{Event}
use Rattle.events.specs.declared.event.Event.TheVariants as event
use Rattle.tables.specs.declared.roster.Company.{Company}

-- the company that must still buy a train after one more event: it buys it, or its president is bankrupt, or the round is over
abbrev pub buyer_then : Company → Event → Option Company
buyer_then company (event.Train its kind from price) = None
buyer_then company (event.Bankrupt seat) = None
buyer_then company (event.Round round) = None
buyer_then company other = Some company

-- what an event does then, if that is reported: a sale, a new president, a bankruptcy
abbrev pub fact_of : Event → Option ForcedFact
fact_of (event.Sells company seat shares price) = Some (fact.Sells seat company shares price)
fact_of (event.President company seat) = Some (fact.Presides company seat)
fact_of (event.Bankrupt seat) = Some (fact.Bankrupt seat)
fact_of other = None
