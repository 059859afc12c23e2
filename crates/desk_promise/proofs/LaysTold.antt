-- The lays and tokens of a company that are told are as the reports say.
use Rattle.std.specs.Int.RustNames.{unsigned_abs}
use Rattle.std.proofs.Common.{◌≡◌, ℕ, ℤ, List, [], ◌∷◌, refl, sym, ap, subst, ◌∙◌, inl, inr}
use Rattle.std.specs.List.{AllByRecursion}
use Rattle.desk_promise.proofs.CompanyPromise.{Laws, order_stands}
use Rattle.desk_promise.proofs.Longer.{GoesOn, both_added, stays}
use Rattle.desk_promise.proofs.OrdersReached.{is_head, starts}
use Rattle.desk_promise.proofs.TurnSheets.{line_at}
use Rattle.desk_promise.specs.CompanyLines.{IsHeadAwaited, IsLayRefused, IsLayReported, IsTokenRefused, IsTokenReported}
use Rattle.desk_promise.specs.CompanyLines.{LaysAreReported, TokensAreReported, obeyed, order_file}
use Rattle.desk_promise.specs.CompanyLines.{refused}
use Rattle.events.specs.declared.event.Event.{Event}
use Rattle.events.specs.declared.event.Event.TheVariants as event
use Rattle.events.specs.declared.ruling.Refusal.TheVariants as refusal
use Rattle.foresight.specs.Ahead.{OrdersState}
use Rattle.map_tables.specs.declared.lay.Lay.{Lay}
use Rattle.map_tables.specs.declared.place.Place.{Place}
use Rattle.moves.specs.TurnLaws.{AreLaysAtStart, AreTokensAtStart, ListedLaysAreObeyed, ListedTokensAreObeyed}
use Rattle.moves.specs.TurnLaws.{OtherLaysAreRefused, OtherTokensAreRefused}
use Rattle.moves.specs.declared.priced.Priced.{Priced}
use Rattle.operating.specs.CompanyOrders.{OrderLeads}
use Rattle.operating.specs.Progress.{at_start}
use Rattle.operating.specs.TurnState.{TurnState, turn_state}
use Rattle.order_grammar.specs.declared.order.Order.TheVariants.{Play}
use Rattle.order_grammar.specs.declared.play.PlayOrder.{PlayOrder}
use Rattle.order_grammar.specs.declared.play.PlayOrder.TheVariants as play
use Rattle.reach.specs.Position.{IsAmong}
use Rattle.report.specs.Report.{IsReport}
use Rattle.rounds.specs.Play.{Between}
use Rattle.sheets.specs.File.{IsAccepted}
use Rattle.tables.specs.declared.roster.Company.{Company}
use Rattle.tables.specs.declared.round.Round.{Round}
use Rattle.tables.specs.declared.round.Round.TheVariants.{Operating}

-- what holds of each thing that is listed holds of all
each_listed : {A : Type 0} (P : Priced A → Type 0) (listed : List (Priced A))
    → ((one : Priced A) → IsAmong one listed → P one) → AllByRecursion P listed
each_listed P [] each = tt
each_listed P (one ∷ others) each = (each one (inl refl), each_listed P others (λ other among. each other (inr among)))

-- a list that is this one goes on from it
pub as_said : (old new : List Event) → new ≡ old → GoesOn old new
as_said old new is = subst (λ (list : List Event). GoesOn old list) (sym is) stays

-- an order leads where it does from the start of the turn
pub from_start : (orders : OrdersState) (order : PlayOrder) (next : TurnState)
    → orders.turn ≡ turn_state orders.turn.game at_start
    → OrderLeads orders.by orders.turn (line_at 2 (Play order)) (Play order) next
    → OrderLeads orders.by (turn_state orders.turn.game at_start) (line_at 2 (Play order)) (Play order) next
from_start orders order next start leads =
    subst (λ (turn : TurnState). OrderLeads orders.by turn (line_at 2 (Play order)) (Play order) next) start leads

module _ (laws : Laws) (file : List ℕ) (last : Between) (set number : ℕ) (company : Company) (orders : OrdersState)
    (awaited : IsHeadAwaited file last (Operating set number) company orders) where
  abbrev round : Round
  round = Operating set number

  abbrev at_head : TurnState
  at_head = turn_state orders.turn.game at_start

  start : orders.turn ≡ at_head
  start =
      starts orders company awaited.ahead.mid.game
      (is_head file round company orders last.game awaited.ahead)

  own : orders.by.company ≡ company
  own = (is_head file round company orders last.game awaited.ahead).own

  lay_obeyed : ListedLaysAreObeyed → (listed : List (Priced Lay)) → AreLaysAtStart orders.turn.game orders.by.company listed
      → (lay : Priced Lay) → IsAmong lay listed → IsLayReported file last.game round orders lay
  lay_obeyed law listed are lay among also text report =
      let order : PlayOrder = play.Lay lay.what in
      let stands = order_stands laws file last set number company orders awaited order tt also text report in
      let led = law orders.by orders.turn.game (line_at 2 (Play order)) lay.what listed stands.next are
      (from_start orders order stands.next start stands.leads) lay.price among in
      stands.reports orders.turn.game
      (obeyed orders.by order ∷ event.Laid orders.by.company lay.what (unsigned_abs lay.price) ∷ []) stays
      (as_said _ _ (ap (λ (turn : TurnState). turn.game.events) led
      ∙ both_added orders.turn.game.events (obeyed orders.by order)
      (event.Laid orders.by.company lay.what (unsigned_abs lay.price))))

  token_obeyed : ListedTokensAreObeyed → (listed : List (Priced Place))
      → AreTokensAtStart orders.turn.game orders.by.company listed
      → (token : Priced Place) → IsAmong token listed → IsTokenReported file last.game round orders token
  token_obeyed law listed are token among also text report =
      let order : PlayOrder = play.Token token.what in
      let stands = order_stands laws file last set number company orders awaited order tt also text report in
      let led = law orders.by orders.turn.game (line_at 2 (Play order)) token.what listed stands.next are
      (from_start orders order stands.next start stands.leads) token.price among in
      stands.reports orders.turn.game
      (obeyed orders.by order ∷ event.Token orders.by.company token.what (unsigned_abs token.price) ∷ []) stays
      (as_said _ _ (ap (λ (turn : TurnState). turn.game.events) led
      ∙ both_added orders.turn.game.events (obeyed orders.by order)
      (event.Token orders.by.company token.what (unsigned_abs token.price))))

  lay_refused : OtherLaysAreRefused → (listed : List (Priced Lay)) → AreLaysAtStart orders.turn.game orders.by.company listed
      → (lay : Lay) → ((price : ℤ) → IsAmong (record { what = lay; price = price }) listed → ⊥)
      → IsAccepted (order_file file round orders.by (play.Lay lay)) → (text : List ℕ)
      → IsReport (order_file file round orders.by (play.Lay lay)) text
      → IsLayRefused file last.game round orders lay text
  lay_refused law listed are lay none also text report =
      let order : PlayOrder = play.Lay lay in
      let stands = order_stands laws file last set number company orders awaited order tt also text report in
      let led = law orders.by orders.turn.game (line_at 2 (Play order)) lay listed stands.next are
      (from_start orders order stands.next start stands.leads) none in
      record {
        rule = led.rule;
        reported =
            stands.reports orders.turn.game (refused orders.by order (refusal.Lay led.rule) ∷ []) stays
            (as_said _ _ (ap (λ (turn : TurnState). turn.game.events) led.after));
      }

  token_refused : OtherTokensAreRefused → (listed : List (Priced Place))
      → AreTokensAtStart orders.turn.game orders.by.company listed
      → (place : Place) → ((price : ℤ) → IsAmong (record { what = place; price = price }) listed → ⊥)
      → IsAccepted (order_file file round orders.by (play.Token place)) → (text : List ℕ)
      → IsReport (order_file file round orders.by (play.Token place)) text
      → IsTokenRefused file last.game round orders place text
  token_refused law listed are place none also text report =
      let order : PlayOrder = play.Token place in
      let stands = order_stands laws file last set number company orders awaited order tt also text report in
      let led = law orders.by orders.turn.game (line_at 2 (Play order)) place listed stands.next are
      (from_start orders order stands.next start stands.leads) none in
      record {
        rule = led.rule;
        reported =
            stands.reports orders.turn.game (refused orders.by order (refusal.Token led.rule) ∷ []) stays
            (as_said _ _ (ap (λ (turn : TurnState). turn.game.events) led.after));
      }

pub lays_reported : Laws → ListedLaysAreObeyed → OtherLaysAreRefused → LaysAreReported
lays_reported laws listed_law other_law file last set number company orders awaited listed are =
    let own = (is_head file (Operating set number) company orders last.game awaited.ahead).own in
    let its : AreLaysAtStart orders.turn.game orders.by.company listed =
    subst (λ (c : Company). AreLaysAtStart orders.turn.game c listed) (sym own) are in
    record {
      obeyed = each_listed (IsLayReported file last.game (Operating set number) orders) listed
          (lay_obeyed laws file last set number company orders awaited listed_law listed its);
      others = lay_refused laws file last set number company orders awaited other_law listed its;
    }

pub tokens_reported : Laws → ListedTokensAreObeyed → OtherTokensAreRefused → TokensAreReported
tokens_reported laws listed_law other_law file last set number company orders awaited listed are =
    let own = (is_head file (Operating set number) company orders last.game awaited.ahead).own in
    let its : AreTokensAtStart orders.turn.game orders.by.company listed =
    subst (λ (c : Company). AreTokensAtStart orders.turn.game c listed) (sym own) are in
    record {
      obeyed = each_listed (IsTokenReported file last.game (Operating set number) orders) listed
          (token_obeyed laws file last set number company orders awaited listed_law listed its);
      others = token_refused laws file last set number company orders awaited other_law listed its;
    }
