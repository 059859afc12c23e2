-- What a page tells of the events of a round: whose turn each belongs to, and the words of its sentence.
use Rattle.std.specs.Prelude.{ℕ, ◌==◌, Bool, if◌then◌else◌, List, [], Option, Some, None, codes}
use Rattle.events.specs.declared.event.Event.{Event}
use Rattle.events.specs.declared.event.Event.TheVariants as event
use Rattle.events.specs.declared.event.Holder.{Holder}
use Rattle.events.specs.declared.event.Holder.TheVariants as holder
use Rattle.order_grammar.specs.declared.order.ShareSource.TheVariants as share
use Rattle.page_ahead.specs.declared.told.Thing.{Thing}
use Rattle.page_ahead.specs.declared.told.Thing.TheVariants as thing
use Rattle.tables.specs.Chart.{price_of}

-- whose turn it is after an event, by whose it was before: in an opening or a stock round that of each
-- player whose line is ruled
abbrev pub whose_then : Bool → Option Holder → Event → Option Holder
whose_then is_operating whose (event.Ruled seat line ruling) = if is_operating then whose else Some (holder.Seat seat)
whose_then is_operating whose (event.Passes seat) = Some (holder.Seat seat)
whose_then is_operating whose (event.Sold private seat price) = Some (holder.Seat seat)
whose_then is_operating whose (event.Bids private seat amount) = Some (holder.Seat seat)
whose_then is_operating whose (event.Bought company seat shares from price) = Some (holder.Seat seat)
whose_then is_operating whose (event.Sells company seat shares price) = Some (holder.Seat seat)
whose_then is_operating whose (event.Exchanged seat from) = Some (holder.Seat seat)
whose_then is_operating whose (event.Aid seat company amount) = Some (holder.Seat seat)
whose_then is_operating whose (event.Home company place) = Some (holder.Company company)
whose_then is_operating whose (event.Laid company lay cost) = Some (holder.Company company)
whose_then is_operating whose (event.Token company place cost) = Some (holder.Company company)
whose_then is_operating whose (event.Withheld company amount) = Some (holder.Company company)
whose_then is_operating whose (event.Runs company revenue) = Some (holder.Company company)
whose_then is_operating whose (event.Dividend company its amount) = Some (holder.Company company)
whose_then is_operating whose (event.Traded company kind) = Some (holder.Company company)
whose_then is_operating whose (event.Train company kind from price) = Some (holder.Company company)
whose_then is_operating whose (event.PrivateBought private company seller price) = Some (holder.Company company)
whose_then is_operating whose (event.Forced company) = Some (holder.Company company)
whose_then is_operating whose other = whose

-- who or what the sentence of an event begins with, unless that is the party whose turn it is
abbrev pub doer_of : Event → Thing
doer_of (event.Passes seat) = thing.Party (holder.Seat seat)
doer_of (event.Given company seat shares) = thing.Party (holder.Seat seat)
doer_of (event.President company seat) = thing.Party (holder.Seat seat)
doer_of (event.Bankrupt seat) = thing.Party (holder.Seat seat)
doer_of (event.Floats company amount) = thing.Party (holder.Company company)
doer_of (event.Moves company square) = thing.Party (holder.Company company)
doer_of (event.Discarded company kind) = thing.Party (holder.Company company)
doer_of (event.Revenue private owner amount) = thing.Private private
doer_of (event.Closed private) = thing.Private private
doer_of (event.Rusted owner kind) = thing.TrainOf kind owner
doer_of other = thing.Nothing

-- what an event is told as to have been done; no letters if nothing is told of it
abbrev pub verb_of : Event → List ℕ
verb_of (event.Round round) = []
verb_of (event.Ruled seat line ruling) = []
verb_of (event.Left seat lines) = []
verb_of (event.Passes seat) = codes " passed"
verb_of (event.Bids private seat amount) = codes "bid for "
verb_of (event.Price price) = codes "SV falls to "
verb_of (event.Revenue private owner amount) = codes " paid "
verb_of (event.Given company seat shares) = codes " got "
verb_of (event.Par company price) = codes "set the par of "
verb_of (event.President company seat) = codes " presides over "
verb_of (event.Sells company seat shares price) = codes "sold "
verb_of (event.Exchanged seat from) = codes "gave up MH for a share of NYC"
verb_of (event.Floats company amount) = codes " floats with "
verb_of (event.Moves company square) = codes " is at "
verb_of (event.Home company place) = codes "placed the home token on "
verb_of (event.Laid company lay cost) = codes "laid "
verb_of (event.Token company place cost) = codes "placed a token on "
verb_of (event.Withheld company amount) = codes "withheld "
verb_of (event.Runs company revenue) = codes "ran for "
verb_of (event.Dividend company its amount) = codes "paid "
verb_of (event.Aid seat company amount) = codes "paid "
verb_of (event.Traded company kind) = codes "traded in a "
verb_of (event.Sold private seat price) = codes "bought "
verb_of (event.Bought company seat shares from price) = codes "bought "
verb_of (event.PrivateBought private company seller price) = codes "bought "
verb_of (event.Train company kind from price) = codes "bought a "
verb_of (event.Phase kind) = codes "began phase "
verb_of (event.Rusted owner kind) = codes " rusted"
verb_of (event.Discarded company kind) = codes " gave up a "
verb_of (event.Closed private) = codes " closed"
verb_of (event.Forced company) = codes "had to buy a train"
verb_of (event.Bankrupt seat) = codes " is bankrupt"
verb_of event.Broken = codes "the bank is broken"

-- what was done with, or to whom
abbrev pub thing_of : Event → Thing
thing_of (event.Sold private seat price) = thing.Private private
thing_of (event.Bids private seat amount) = thing.Private private
thing_of (event.Revenue private owner amount) = thing.Party owner
thing_of (event.Dividend company its amount) = thing.Party its
thing_of (event.Given company seat shares) = thing.Shares shares company share.InitialOffering
thing_of (event.Sells company seat shares price) = thing.Shares shares company share.InitialOffering
thing_of (event.Bought company seat shares from price) = thing.Shares shares company from
thing_of (event.Par company price) = thing.Party (holder.Company company)
thing_of (event.President company seat) = thing.Party (holder.Company company)
thing_of (event.Aid seat company amount) = thing.Party (holder.Company company)
thing_of (event.Home company place) = thing.Stop place
thing_of (event.Token company place cost) = thing.Stop place
thing_of (event.Laid company lay cost) = thing.Tile lay
thing_of (event.Traded company kind) = thing.Train kind
thing_of (event.Discarded company kind) = thing.Train kind
thing_of (event.Phase kind) = thing.Train kind
thing_of (event.Train company kind from price) = thing.TrainFrom kind from
thing_of (event.PrivateBought private company seller price) = thing.PrivateOf private seller
thing_of other = thing.Nothing

-- the words before the sum of an event
abbrev pub before_sum : Event → List ℕ
before_sum (event.Sold private seat price) = codes " for "
before_sum (event.Bought company seat shares from price) = codes " for "
before_sum (event.Sells company seat shares price) = codes " for "
before_sum (event.Laid company lay cost) = codes " for "
before_sum (event.Token company place cost) = codes " for "
before_sum (event.Train company kind from price) = codes " for "
before_sum (event.PrivateBought private company seller price) = codes " for "
before_sum (event.Bids private seat amount) = codes ": "
before_sum (event.Par company price) = codes " at "
before_sum (event.Revenue private owner amount) = codes " "
before_sum (event.Dividend company its amount) = codes " "
before_sum (event.Aid seat company amount) = codes " "
before_sum other = []

-- a cost, unless it is 0
abbrev pub paid : ℕ → Option ℕ
paid cost = if cost == 0 then None else Some cost

-- the sum of an event, in dollars, if it has one
abbrev pub sum_of : Event → Option ℕ
sum_of (event.Laid company lay cost) = paid cost
sum_of (event.Token company place cost) = paid cost
sum_of (event.Moves company square) = Some (price_of square)
sum_of (event.Floats company amount) = Some amount
sum_of (event.Bids private seat amount) = Some amount
sum_of (event.Revenue private owner amount) = Some amount
sum_of (event.Withheld company amount) = Some amount
sum_of (event.Dividend company its amount) = Some amount
sum_of (event.Aid seat company amount) = Some amount
sum_of (event.Runs company revenue) = Some revenue
sum_of (event.Sold private seat price) = Some price
sum_of (event.Price price) = Some price
sum_of (event.Par company price) = Some price
sum_of (event.Bought company seat shares from price) = Some price
sum_of (event.Sells company seat shares price) = Some price
sum_of (event.Train company kind from price) = Some price
sum_of (event.PrivateBought private company seller price) = Some price
sum_of other = None
