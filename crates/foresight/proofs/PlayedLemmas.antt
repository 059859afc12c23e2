-- An operating round begins in play as it is told, and its turns are those that are told.
use Rattle.std.proofs.Common.{◌≡◌, ℕ, ◌<◌, Bool, true, false, ◌==◌, if◌then◌else◌, List, [], ◌∷◌, ◌++◌, Option, Some}
use Rattle.std.proofs.Common.{None, IfSome, refl, sym, ap, subst, ◌∙◌, arith}
use Rattle.std.proofs.lemmas.Bool.Decides.{nat_tests}
use Rattle.events.specs.declared.event.Event.{Event}
use Rattle.events.specs.declared.event.Event.TheVariants as event
use Rattle.foresight.proofs.ReachedLemmas.{none_standing, one_standing}
use Rattle.foresight.specs.Draft.{after_standing_of, file_of, is_drafters}
use Rattle.foresight.specs.Reached.{HasNoLine, IsAllLookedAt, OrdersArePlayedSo, RoundsBeginSo, TurnsArePlayedSo}
use Rattle.history.specs.Record.{revenues_recorded}
use Rattle.operating.proofs.NoSheet.{no_orders}
use Rattle.operating.specs.CompanyOrders.{LinesLead}
use Rattle.operating.specs.Turn.{CompanyOrdersEnd, CompanyOrdersLead, begun}
use Rattle.operating.specs.Pay.{withheld_if_unpaid}
use Rattle.operating.specs.TurnEnd.{EndLeads}
use Rattle.operating.specs.TurnState.{TurnState}
use Rattle.purchases.specs.Standing.{after_all_standing_lines, after_operating_standing_line}
use Rattle.sheets.specs.CompanyOrders.{company_orders_for, company_orders_in}
use Rattle.sheets.specs.Part.{Numbered, SheetParts}
use Rattle.tables.specs.declared.roster.Company.{Company}
use Rattle.tables.specs.declared.round.Round.{Round}
use Rattle.tables.specs.declared.seat.Seat.{Seat}
use Rattle.totals.specs.LookBack.{Game}
use Rattle.totals.specs.Shares.{president_of}

-- the standing lines that are looked at are all that there are
same_standing : (file : List ℕ) (round : Round) (drafter : Option Seat) (seats : ℕ) (events : List Event)
    → IfSome drafter (λ seat. seat.0 < seats) → IsAllLookedAt file round drafter
    → after_standing_of file drafter round events ≡ after_all_standing_lines seats file round events
same_standing file round None seats events at_table all =
    sym (none_standing after_operating_standing_line file round events 0 seats
    (λ k from within. ap (λ (parts : SheetParts). parts.before) (all k refl)))
same_standing file round (Some seat) seats events at_table all =
    sym (one_standing after_operating_standing_line file round events seat.0 0 seats (omega arith) (omega (arith, at_table))
    (λ k other within. ap (λ (parts : SheetParts). parts.before) (all k (grind (arith, nat_tests, other)))))

-- so the round begins as it is told
pub rounds_begin_so : RoundsBeginSo
rounds_begin_so file round drafter old at_table all =
    ap (λ (events : List Event). revenues_recorded (record { seats = old.seats; events = events }))
    (same_standing file round drafter old.seats (old.events ++ event.Round round ∷ []) at_table all)

-- a seat without lines has no orders for a company
no_orders_there : (file : List ℕ) (round : Round) (seat : ℕ) (company : Company) → HasNoLine file round seat
    → company_orders_for file round seat company ≡ []
no_orders_there file round seat company none = ap (λ (parts : SheetParts). company_orders_in company parts.opened) none

-- nothing, where there is nothing
nothing_else : (test : Bool) (lines : List Numbered) → (test ≡ false → lines ≡ []) → (if test then lines else []) ≡ lines
nothing_else true lines none = refl
nothing_else false lines none = sym (none refl)

-- the orders that are looked at are those that there are
pub orders_played_so : OrdersArePlayedSo
orders_played_so file round drafter by all =
    nothing_else (is_drafters drafter by.president) (company_orders_for file round by.president.0 by.company)
    (λ other. no_orders_there file round by.president.0 by.company (all by.president.0 other))

-- either file has the same lines
either_file : (test : Bool) (file : List ℕ) (lines : List ℕ → List Numbered) → (test ≡ false → lines [] ≡ lines file)
    → lines (if test then file else []) ≡ lines file
either_file true file lines same = refl
either_file false file lines same = same refl

-- no sheet has the same orders as one without lines
none_either_way : (file : List ℕ) (round : Round) (seat : ℕ) (company : Company) → HasNoLine file round seat
    → company_orders_for [] round seat company ≡ company_orders_for file round seat company
none_either_way file round seat company none =
    no_orders round seat company ∙ sym (no_orders_there file round seat company none)

-- who presides is not who is looked at
other_seat : (president drafter seat : Seat) → Some president ≡ Some seat → (president.0 == drafter.0) ≡ false
    → (drafter.0 == seat.0) ≡ false
other_seat president drafter seat is apart = grind (arith, nat_tests, is, apart)

-- the orders of the file that is looked up are those of the file
looked_up : (file : List ℕ) (round : Round) (company : Company) (president drafter : Option Seat)
    → IsAllLookedAt file round drafter → (seat : Seat) → president ≡ Some seat
    → company_orders_for (file_of file president drafter) round seat.0 company
    ≡ company_orders_for file round seat.0 company
looked_up file round company None drafter all seat is = absurd (cc is)
looked_up file round company (Some president) None all seat is =
    none_either_way file round seat.0 company (all seat.0 refl)
looked_up file round company (Some president) (Some drafter) all seat is =
    either_file (president.0 == drafter.0) file (λ file. company_orders_for file round seat.0 company)
    (λ apart. none_either_way file round seat.0 company (all seat.0 (other_seat president drafter seat is apart)))

-- the same orders lead to the same
leads_so : (file other : List ℕ) (round : Round) (company : Company) (turn : TurnState) (president : Option Seat)
    (new : TurnState)
    → ((seat : Seat) → president ≡ Some seat
    → company_orders_for file round seat.0 company ≡ company_orders_for other round seat.0 company)
    → CompanyOrdersLead file round company turn president new → CompanyOrdersLead other round company turn president new
leads_so file other round company turn None new same leads = leads
leads_so file other round company turn (Some seat) new same leads =
    subst (λ (lines : List Numbered). LinesLead (record { company = company; president = seat }) turn lines new)
    (same seat refl) leads

-- and the turn ends in the same way
ends_so : (file other : List ℕ) (round : Round) (company : Company) (game : Game) (president : Option Seat) (new : Game)
    → ((seat : Seat) → president ≡ Some seat
    → company_orders_for file round seat.0 company ≡ company_orders_for other round seat.0 company)
    → CompanyOrdersEnd file round company game president new → CompanyOrdersEnd other round company game president new
ends_so file other round company game None new same ends = ends
ends_so file other round company game (Some seat) new same ends =
    subst (λ (lines : List Numbered). EndLeads (record { company = company; president = seat }) lines game new)
    (same seat refl) ends

-- so a turn that is told is the turn in play
pub turns_played_so : TurnsArePlayedSo
turns_played_so company old new all told =
    let president = president_of old.game.events company in
    let looked = file_of old.file president old.drafter in
    let same = looked_up old.file old.round company president old.drafter all in
    record {
      last = told.turn.last;
      orders =
          leads_so looked old.file old.round company (begun old.game company) president told.turn.last same told.turn.orders;
      after =
          ends_so looked old.file old.round company (withheld_if_unpaid company told.turn.last).game president new.game same
          told.turn.after;
    }
