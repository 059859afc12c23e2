-- The turns of companies before a company's own, in a round that comes.
use Rattle.std.proofs.Common.{◌≡◌, ℕ, ◌<◌, true, false, List, [], ◌∷◌, ◌++◌, Option, Some, None}
use Rattle.std.proofs.Common.{IfSome, refl, sym, ap, subst, ◌∙◌, arith, is_some}
use Rattle.std.proofs.lemmas.Bool.Decides.{nat_tests}
use Rattle.std.proofs.lemmas.Bool.{and_parts}
use Rattle.events.specs.declared.event.Event.{Event}
use Rattle.foresight.specs.Ahead.{AheadState, HasTurn, drafted_in}
use Rattle.foresight.specs.Draft.{file_of, orders_of}
use Rattle.forced_purchase.specs.Raise.{raises_in}
use Rattle.forced_purchase.specs.declared.operator.Operator.{Operator}
use Rattle.operating.specs.CompanyOrders.{LinesLead}
use Rattle.operating.specs.Turn.{begun}
use Rattle.operating.specs.TurnState.{TurnState}
use Rattle.purchases.specs.Discard.{is_president}
use Rattle.sheets.specs.Part.{Numbered}
use Rattle.tables.specs.declared.round.Round.{Round}
use Rattle.tables.specs.declared.seat.Seat.{Seat}
use Rattle.foresight.specs.Orders.{HaveTurns, OthersHaveTurns, is_among}
use Rattle.market.specs.OperatingOrder.{IsOperatingOrder, next_company, operating_order_of}
use Rattle.operating.specs.Laws.{CompanyOperates}
use Rattle.operating.proofs.Idle.{fewer_idle, idle_of, next_is_idle}
use Rattle.tables.specs.Roster.{same_company}
use Rattle.tables.specs.declared.roster.Company.{Company}
use Rattle.totals.specs.Shares.{is_floated, president_of, square_of}

-- one more company takes its turn
one_more_turn : (companies : List Company) (company : Company) (old mid new : AheadState)
    → HaveTurns companies old mid → next_company mid.game.events ≡ Some company → HasTurn company mid new
    → HaveTurns (companies ++ company ∷ []) old new
one_more_turn [] company old mid new turns is_next turn = (
  new,
  subst (λ (ahead : AheadState). next_company ahead.game.events ≡ Some company) (sym turns) is_next,
  subst (λ (ahead : AheadState). HasTurn company ahead new) (sym turns) turn,
  refl,
)
one_more_turn (first ∷ others) company old mid new turns is_next turn =
    (turns.0, turns.1, turns.2, one_more_turn others company turns.0 mid new turns.3 is_next turn)

-- where another company takes it, a company is still not among them
still_others : (company : Company) (before : List Company) (next : Company) → is_among company before ≡ false
    → same_company next company ≡ false → is_among company (before ++ next ∷ []) ≡ false
still_others company [] next none other = grind (arith, other)
still_others company (first ∷ others) next none other =
    grind (arith, still_others company others next, none, other)

-- so others have had their turns then too
pub others_too : (company next : Company) (old mid new : AheadState) → OthersHaveTurns company old mid
    → next_company mid.game.events ≡ Some next → HasTurn next mid new → same_company next company ≡ false
    → OthersHaveTurns company old new
others_too company next old mid new taken is_next turn other =
    record {
      before = taken.before ++ next ∷ [];
      turns = one_more_turn taken.before next old mid new taken.turns is_next turn;
      others = still_others company taken.before next taken.others other;
    }

-- the next company has floated
pub next_has_floated : ((events : List Event) → IsOperatingOrder events (operating_order_of events))
    → (events : List Event) (company : Company) → next_company events ≡ Some company
    → is_floated events company ≡ true
next_has_floated ordered events company found =
    (and_parts (is_floated events company) (is_some (square_of events company))
    (next_is_idle ordered events company found).0).0

-- and its turn leaves fewer that have not operated
pub leaves_fewer : CompanyOperates → ((events : List Event) → IsOperatingOrder events (operating_order_of events))
    → (company : Company) (old new : AheadState) → next_company old.game.events ≡ Some company
    → HasTurn company old new → idle_of new.game.events < idle_of old.game.events
leaves_fewer operates ordered company old new is_next turn =
    fewer_idle company old.game.events new.game.events
    (operates (file_of old.file (president_of old.game.events company) old.drafter) old.round company old.game
    new.game turn.turn)
    (next_is_idle ordered old.game.events company is_next).1

-- a seat that presides is at the table, if presidents are
pub seat_leads : (president : Option Seat) (seat : Seat) (seats : ℕ) → is_president president seat ≡ true
    → IfSome president (λ its. its.0 < seats) → seat.0 < seats
seat_leads None seat seats leads there = absurd (cc)
seat_leads (Some its) seat seats leads there = grind (arith, nat_tests, leads, there)

-- what the orders that are looked at lead to, in the turn that has begun
pub behind : (ahead : AheadState) (by old_by : Operator) (old_round : Round) (old new : TurnState) → old_by ≡ by
    → old_round ≡ ahead.round → old ≡ begun ahead.game by.company
    → LinesLead old_by old (orders_of ahead.file ahead.drafter old_round old_by) new
    → LinesLead by (begun ahead.game by.company) (drafted_in ahead by) new
behind ahead by old_by old_round old new its round there leads =
    subst (λ (turn : TurnState). LinesLead by turn (drafted_in ahead by) new) there
    (subst (λ (round : Round). LinesLead by old (orders_of ahead.file ahead.drafter round by) new) round
    (subst (λ (by : Operator). LinesLead by old (orders_of ahead.file ahead.drafter old_round by) new) its leads))

-- and the RAISE lines among them
pub raised : (ahead : AheadState) (by old_by : Operator) (old_round : Round) (raises : List Numbered) → old_by ≡ by
    → old_round ≡ ahead.round → raises ≡ raises_in (orders_of ahead.file ahead.drafter old_round old_by)
    → raises ≡ raises_in (drafted_in ahead by)
raised ahead by old_by old_round raises its round are =
    are
    ∙ ap (λ (by : Operator). raises_in (orders_of ahead.file ahead.drafter old_round by)) its
    ∙ ap (λ (round : Round). raises_in (orders_of ahead.file ahead.drafter round by)) round
