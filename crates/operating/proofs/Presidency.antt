-- No sale by which money is raised for a company moves its presidency, so its turn leaves its
-- president.
use Rattle.std.proofs.Common.{◌≡◌}
use Rattle.std.proofs.Common.{Option, Some, None, refl, sym, ◌∙◌}
use Rattle.events.specs.Event.{office_of}
use Rattle.events.specs.declared.event.Event.{Event}
use Rattle.events.specs.declared.event.Event.TheVariants as event
use Rattle.totals.proofs.EventAtEnd.{president_of_before}
use Rattle.totals.specs.LookBack.{Game}
use Rattle.totals.specs.Shares.{president_of}
use Rattle.operating.proofs.ForcedGames.{OfBankruptcies, OfSales, of_presided_turn, operator}
use Rattle.purchases.proofs.TrainSteps.{IsPassedOn}
use Rattle.operating.proofs.TurnEvents.{IsOfTurn}
use Rattle.operating.proofs.TurnGames.{OfEvents, by_each}
use Rattle.operating.specs.ForcedLaws.{PresidentStays}
use Rattle.tables.specs.declared.roster.Company.{Company}
use Rattle.tables.specs.declared.seat.Seat.{Seat}
use Rattle.forced_purchase.proofs.SalesKeepPresidency.{sale_leaves}

-- nobody becomes president by another event of a turn
no_office : (operating : Company) (game : Game) (its : Event) → IsOfTurn operating game its → office_of its ≡ None
no_office operating game (event.President its seat) is = absurd is
no_office operating game other is = refl

-- whoever presided still does
abbrev Stays : Company → Option Seat → Game → Game → Type 0
Stays company president old new = president_of old.events company ≡ president
    → president_of new.events company ≡ president

of_turn_events : (company : Company) (president : Option Seat) → OfEvents company (Stays company president)
of_turn_events company president =
    let on : IsPassedOn (Stays company president) =
    record { same = λ game leads. leads; both = λ a b c one two leads. two (one leads) } in
    by_each company (Stays company president) on
    (λ game its is leads. president_of_before game.events its company (no_office company game its is) ∙ leads)

-- so it is of the sales of a president, and of the bankruptcy
of_his : (company : Company) (president : Option Seat) (seat : Seat) → president ≡ Some seat →
    OfSales (operator company seat) (Stays company president)
    × OfBankruptcies (operator company seat) (Stays company president)
of_his company president seat is = (
  λ game sale none leads. sale_leaves (operator company seat) game sale none (leads ∙ is) ∙ sym is,
  λ game leads. president_of_before game.events (event.Bankrupt seat) company refl ∙ leads,
)

-- and of the whole turn
pub president_stays : PresidentStays
president_stays file round company old new turn =
    let president : Option Seat = president_of old.events company in
    of_presided_turn company (Stays company president) (of_turn_events company president) file round old new
    (of_his company president) turn refl
