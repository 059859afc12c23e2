-- The rules that are asked of an order by where it stands: among the orders for a company, of a lay, a token or a run those of
-- the map; of another order of play those of its kind.
use Rattle.std.specs.Prelude.{◌≡◌, List, [], Option, Some, None}
use Rattle.desk_map_rules.specs.MapAsked.{MapBroken}
use Rattle.desk_rules.specs.Asked.{broken_rules}
use Rattle.desk_rules.specs.declared.site.Site.{Site}
use Rattle.desk_rules.specs.declared.site.Site.TheVariants as site
use Rattle.desk_why.specs.declared.sheet_line.LinePlace.{LinePlace}
use Rattle.desk_why.specs.declared.sheet_line.LinePlace.TheVariants as place
use Rattle.events.specs.declared.ruling.Refusal.{Refusal}
use Rattle.order_grammar.specs.declared.order.Order.{Order}
use Rattle.order_grammar.specs.declared.order.Order.TheVariants as form
use Rattle.order_grammar.specs.declared.play.PlayOrder.TheVariants as play
use Rattle.tables.specs.declared.roster.Company.{Company}
use Rattle.tables.specs.declared.round.Round.{Round}
use Rattle.tables.specs.declared.round.Round.TheVariants as round
use Rattle.tables.specs.declared.seat.Seat.{Seat}
use Rattle.totals.specs.LookBack.{Game}

-- these are the rules that an order of a seat breaks where it stands, apart from those of the map
abbrev pub AreAskedInPlay : Game → Seat → Site → Order → List Refusal → Type 0
AreAskedInPlay game seat its (form.Play order) rules = rules ≡ broken_rules game seat its order
AreAskedInPlay game seat its other rules = rules ≡ []

-- these are the rules that an order among those for a company breaks
abbrev pub AreAskedOfCompany : Game → Seat → Company → Order → List Refusal → Type 0
AreAskedOfCompany game seat company (form.Play (play.Lay lay)) rules =
    MapBroken game company (form.Play (play.Lay lay)) rules
AreAskedOfCompany game seat company (form.Play (play.Token place)) rules =
    MapBroken game company (form.Play (play.Token place)) rules
AreAskedOfCompany game seat company (form.Play its) rules = rules ≡ broken_rules game seat (site.Orders company) its
AreAskedOfCompany game seat company (form.Run kind run) rules = MapBroken game company (form.Run kind run) rules
AreAskedOfCompany game seat company other rules = rules ≡ []

-- these are the rules that an order breaks where it stands
abbrev pub AreAsked : Game → Seat → Site → Order → List Refusal → Type 0
AreAsked game seat (site.Orders company) order rules = AreAskedOfCompany game seat company order rules
AreAsked game seat its order rules = AreAskedInPlay game seat its order rules

-- where an order stands that is at a place of a sheet for a round; orders have no other places
abbrev pub site_of : Round → LinePlace → Option Site
site_of (round.Opening number) place.Standing = Some site.BeforeTurns
site_of (round.Opening number) place.Turn = Some site.OpeningTurn
site_of (round.Stock number) place.Turn = Some site.StockTurn
site_of (round.Operating set number) place.Standing = Some site.BeforeCompanies
site_of (round.Operating set number) (place.Orders company) = Some (site.Orders company)
site_of its place = None
