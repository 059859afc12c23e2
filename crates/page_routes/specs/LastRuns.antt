-- Which runs a page shows: those of each company that ran in the operating round that began last, in the order in which
-- they ran, each by the line by which it ran.
use Rattle.std.specs.Prelude.{◌≡◌, ◌++◌, ℕ, ◌+◌, Bool, false, if◌then◌else◌, List, [], ◌∷◌, Option, Some, None, slice_get}
use Rattle.std.specs.Prelude.{take}
use Rattle.std.specs.List.{cons_option, fold}
use Rattle.events.specs.Event.{round_begun_by}
use Rattle.events.specs.declared.event.Event.{Event}
use Rattle.events.specs.declared.event.Event.TheVariants.{Round as Begun, Ruled, Runs}
use Rattle.events.specs.declared.ruling.Ruling.{Ruling}
use Rattle.events.specs.declared.ruling.Ruling.TheVariants.{Obeyed}
use Rattle.order_grammar.specs.declared.order.Order.{Order}
use Rattle.order_grammar.specs.declared.order.Order.TheVariants as order
use Rattle.order_grammar.specs.declared.play.PlayOrder.TheVariants as play
use Rattle.page_routes.specs.ShownRuns.{AddsBest, all_shown}
use Rattle.page_routes.specs.declared.routes.RunLine.{RunLine}
use Rattle.page_routes.specs.declared.routes.Route.{Route}
use Rattle.tables.specs.Round.{same_round}
use Rattle.tables.specs.declared.roster.Company.{Company}
use Rattle.tables.specs.declared.round.Round.{Round}
use Rattle.tables.specs.declared.round.Round.TheVariants.{Operating}

-- the operating round that began last, after one more event
abbrev pub operating_then : Option Round → Event → Option Round
operating_then last (Begun (Operating set number)) = Some (Operating set number)
operating_then last other = last

-- the operating round that began last, if one did
abbrev pub last_operating : List Event → Option Round
last_operating events = fold operating_then None events

-- a round that has begun is this one, if there is one
abbrev pub within_last : Option Round → Round → Bool
within_last None begun = false
within_last (Some round) begun = same_round begun round

-- the round is in hand, where this round has begun, if one has
abbrev pub within_if : Option Round → Bool → Option Round → Bool
within_if round within None = within
within_if round within (Some begun) = within_last round begun

-- after one more event
abbrev pub within_then : Option Round → Bool → Event → Bool
within_then round within event = within_if round within (round_begun_by event)

-- how many events precede the last ruling of a line, with one more event
abbrev pub ruled_then : Option ℕ → ℕ → Event → Option ℕ
ruled_then ruled passed (Ruled seat line ruling) = Some passed
ruled_then ruled passed other = ruled

-- the line by which a company ran, if the round is in hand and a line has been ruled
abbrev pub ran : Bool → Option ℕ → ℕ → Company → Option RunLine
ran within None passed company = None
ran within (Some ruled) passed company =
    if within then Some (record { passed = passed; ruled = ruled; company = company }) else None

-- by an event that this many precede
abbrev pub ran_by : Bool → Option ℕ → ℕ → Event → Option RunLine
ran_by within ruled passed (Runs company revenue) = ran within ruled passed company
ran_by within ruled passed other = None

-- whether the round is in hand, how many events there are, how many precede the last ruling, and the lines by which
-- companies ran
pub record RanSoFar : Type 0 where
  pub within : Bool
  pub passed : ℕ
  pub ruled : Option ℕ
  pub lines : List RunLine

-- before the first event
abbrev pub none_ran : RanSoFar
none_ran = record { within = false; passed = 0; ruled = None; lines = [] }

-- after one more event
abbrev pub ran_then : Option Round → RanSoFar → Event → RanSoFar
ran_then round so_far event =
    record {
      within = within_then round so_far.within event;
      passed = so_far.passed + 1;
      ruled = ruled_then so_far.ruled so_far.passed event;
      lines = so_far.lines ++ cons_option (ran_by so_far.within so_far.ruled so_far.passed event) [];
    }

-- the lines by which companies ran in a round, in order: each of them, and no other
abbrev pub those_in : Option Round → List Event → List RunLine
those_in round events = (fold (ran_then round) none_ran events).lines

-- those of the operating round that began last
abbrev pub ran_in_last : List Event → List RunLine
ran_in_last events = those_in (last_operating events) events

-- the runs of a company by an order are added: the run of a RUN, or for RUN BEST runs by which its trains earn the most
abbrev pub AddsOrdered : List Event → Company → Order → List Route → List Route → Type 0
AddsOrdered events company (order.Run kind run) old new =
    all_shown new ≡ all_shown old ++ (company, kind, false, run) ∷ []
AddsOrdered events company (order.Play play.RunBest) old new = AddsBest events company old new
AddsOrdered events company other old new = new ≡ old

-- by the order that a ruling obeys, if it obeys one
abbrev pub AddsRuled : List Event → Company → Ruling → List Route → List Route → Type 0
AddsRuled events company (Obeyed condition ordered) old new = AddsOrdered events company ordered old new
AddsRuled events company other old new = new ≡ old

-- by the line that an event rules, if it rules one
abbrev pub AddsBy : List Event → Company → Event → List Route → List Route → Type 0
AddsBy events company (Ruled seat line ruling) old new = AddsRuled events company ruling old new
AddsBy events company other old new = new ≡ old

-- by an event, if there is one
abbrev pub AddsAt : List Event → Company → Option Event → List Route → List Route → Type 0
AddsAt events company None old new = new ≡ old
AddsAt events company (Some event) old new = AddsBy events company event old new

-- by a line by which it ran, by the map as it was then
abbrev pub AddsRan : List Event → RunLine → List Route → List Route → Type 0
AddsRan events line old new = AddsAt (take line.passed events) line.company (slice_get events line.ruled) old new

-- by a line, if there is one
abbrev pub AddsIf : List Event → Option RunLine → List Route → List Route → Type 0
AddsIf events None old new = new ≡ old
AddsIf events (Some line) old new = AddsRan events line old new

-- by each of some lines, in order
abbrev pub AddsEach : List Event → List RunLine → List Route → List Route → Type 0
AddsEach events [] old new = new ≡ old
AddsEach events (line ∷ lines) old new =
    (mid : List Route) × AddsRan events line old mid × AddsEach events lines mid new
