-- No sale by which money is raised for a company moves its presidency.
use Rattle.std.proofs.Common.{◌≡◌, ℕ, ◌*◌, ◌==◌, Bool, true, false, ◌&&◌, ◌||◌, if◌then◌else◌, List, [], ◌∷◌, ◌++◌}
use Rattle.std.proofs.Common.{Option, Some, None, ℤ, pos, ◌≤ℤ◌, ◌<ℤ◌, ◌+ℤ◌, ◌-ℤ◌, refl, sym, ap, subst, ◌∙◌, arith}
use Rattle.std.proofs.lemmas.Bool.{or_parts, eq-eqb}
use Rattle.std.proofs.lemmas.Int.{ints}
use Rattle.std.specs.Int.Signed.{le_z, lt_z}
use Rattle.certs.specs.Counted.{presides}
use Rattle.certs.specs.President.{others_from, seat_shares_of, successor_of, with_most}
use Rattle.certs.specs.Purchase.{market_price_of}
use Rattle.certs.specs.Sale.{kept_after, none_is_left, must_stay, moves_operating, one_has, sale_judgement, sale_rules}
use Rattle.certs.specs.SaleAct.{sold, with_president, with_successor}
use Rattle.certs.specs.declared.share_deal.Sale.{Sale}
use Rattle.events.specs.Event.{office_of}
use Rattle.events.specs.RuleCodes.{code_of_stock_rule}
use Rattle.events.specs.declared.event.Event.{Event}
use Rattle.events.specs.declared.event.Event.TheVariants as event
use Rattle.events.specs.declared.event.Shareholder.TheVariants.{Seat as OfSeat}
use Rattle.events.specs.declared.ruling.StockRule.TheVariants.{PresidentMustStay}
use Rattle.totals.proofs.EventAtEnd.{last_said_before, president_of_before, shares_of_at_end, shares_of_before}
use Rattle.totals.specs.LookBack.{Game}
use Rattle.totals.specs.Shares.{president_of, president_said, shares_of, square_of}
use Rattle.history.specs.Record.{breaks}
use Rattle.market.specs.Moves.{fallen}
use Rattle.market.specs.Token.{moved_from, same_square}
use Rattle.forced_purchase.proofs.CheapestTrain.{not_less_is}
use Rattle.forced_purchase.specs.Raise.{after_presidents_sale, raised_sale_judgement}
use Rattle.forced_purchase.specs.declared.operator.Operator.{Operator}
use Rattle.tables.proofs.Rules.{not_broken}
use Rattle.tables.specs.Roster.{same_company}
use Rattle.tables.specs.declared.roster.Company.{Company}
use Rattle.tables.specs.declared.seat.Seat.{Seat}
use Rattle.tables.specs.declared.squares.Square.{Square}
use Rattle.tables.proofs.Companies.{company_is, company_itself}
use Rattle.tables.proofs.Tests.{second_fails}

-- a seat stays first with most where none of the others has more than it
most_stays : (events : List Event) (company : Company) (shares : Seat → ℤ) (first : Seat) (others : List Seat) →
    ((other : Seat) → shares other ≤ℤ shares_of events company (OfSeat other)) →
    one_has events company (shares first +ℤ pos 1) others ≡ false → with_most shares first others ≡ first
most_stays events company shares first [] fewer none = refl
most_stays events company shares first (other ∷ others) fewer none =
    let parts = or_parts (le_z (shares first +ℤ pos 1) (shares_of events company (OfSeat other)))
    (one_has events company (shares first +ℤ pos 1) others) none in
    let under : shares_of events company (OfSeat other) <ℤ (shares first +ℤ pos 1) = grind (arith, ints, parts.0) in
    let no_more : lt_z (shares first) (shares other) ≡ false =
    not_less_is (shares first) (shares other) (omega (arith, ints, fewer other, under)) in
    ap (λ (b : Bool). with_most shares (if b then other else first) others) no_more
    ∙ most_stays events company shares first others fewer parts.1

-- what a sale takes from a place, and adds to a seat
none_brought : (b : Bool) (shares : ℕ) → (if b then (if false then shares else 0) else 0) ≡ 0
none_brought true shares = refl
none_brought false shares = refl

all_taken : (a b : Bool) (shares : ℕ) → a ≡ true → b ≡ true → (if a then (if b then shares else 0) else 0) ≡ shares
all_taken true true shares first second = refl
all_taken true false shares first second = absurd cc
all_taken false b shares first second = absurd cc

-- where nothing comes there are no more then, and the rest is what did not go
fewer_then : (before after : ℤ) (brought taken : ℕ) → after ≡ ((before +ℤ pos brought) -ℤ pos taken) → brought ≡ 0
    → after ≤ℤ before
fewer_then before after brought taken is none = omega (arith, ints, is, none)

rest_then : (before after : ℤ) (brought taken shares : ℕ) → after ≡ ((before +ℤ pos brought) -ℤ pos taken)
    → brought ≡ 0 → taken ≡ shares → after ≡ before -ℤ pos shares
rest_then before after brought taken shares is none all = omega (arith, ints, is, none, all)

module _ (game : Game) (seat : Seat) (sale : Sale) where
  abbrev company : Company
  company = sale.company

  abbrev recorded : List Event
  recorded = game.events ++ event.Sells company seat sale.shares (sale.shares * market_price_of game.events company) ∷
      []

  abbrev paid : Game
  paid = sold game seat company sale.shares

  -- a bank that breaks moves no shares and no presidency
  same_shares : (other : Seat) → shares_of paid.events company (OfSeat other) ≡ shares_of recorded company (OfSeat other)
  same_shares other =
      elim (breaks game.seats recorded) as (λ (b : Bool). shares_of (if b then recorded
      ++ event.Broken ∷ [] else recorded) company (OfSeat other) ≡ shares_of recorded company (OfSeat other)) [
        | true ↦ shares_of_before recorded event.Broken company (OfSeat other) refl
        | false ↦ refl
      ]

  same_president : (its : Company) → president_of paid.events its ≡ president_of game.events its
  same_president its =
      elim (breaks game.seats recorded) as (λ (b : Bool). president_of (if b then recorded
      ++ event.Broken ∷ [] else recorded) its ≡ president_of recorded its) [
        | true ↦ president_of_before recorded event.Broken its refl
        | false ↦ refl
      ]
      ∙ president_of_before game.events (event.Sells company seat sale.shares
      (sale.shares * market_price_of game.events company)) its refl

  -- after it nobody has more shares
  no_more_held : (other : Seat) → shares_of paid.events company (OfSeat other) ≤ℤ shares_of game.events company (OfSeat other)
  no_more_held other =
      subst (λ (held : ℤ). held ≤ℤ shares_of game.events company (OfSeat other)) (sym (same_shares other))
      (fewer_then (shares_of game.events company (OfSeat other)) (shares_of recorded company (OfSeat other)) _ _
      (shares_of_at_end game.events (event.Sells company seat sale.shares
      (sale.shares * market_price_of game.events company)) company (OfSeat other))
      (none_brought (same_company company company) sale.shares))

  -- and the seat has what it keeps
  keeps_rest : shares_of paid.events company (OfSeat seat) ≡ kept_after game.events seat sale
  keeps_rest =
      same_shares seat
      ∙ rest_then (shares_of game.events company (OfSeat seat)) (shares_of recorded company (OfSeat seat)) _ _
      sale.shares (shares_of_at_end game.events (event.Sells company seat sale.shares
      (sale.shares * market_price_of game.events company)) company (OfSeat seat))
      (none_brought (same_company company company) sale.shares)
      (all_taken (same_company company company) (seat.0 == seat.0) sale.shares (company_itself company) (eq-eqb seat.0 seat.0 refl))

  -- so it still presides, where the sale is not to move the presidency
  stays_president : one_has game.events company (kept_after game.events seat sale +ℤ pos 1)
      (others_from game.seats seat) ≡ false →
      successor_of game.seats paid.events company seat ≡ seat
  stays_president none =
      most_stays game.events company (seat_shares_of paid.events company) seat (others_from game.seats seat) no_more_held
      (ap (λ (kept : ℤ). one_has game.events company (kept +ℤ pos 1) (others_from game.seats seat)) keeps_rest ∙ none)

  -- after what follows of its presidency a company has the same president
  abbrev Leads : Company → Seat → List Event → Type 0
  Leads its leader events = president_of events its ≡ Some leader

  of_same : (its : Company) → (its ≡ company) → Leads its seat paid.events →
      one_has game.events company (kept_after game.events seat sale +ℤ pos 1) (others_from game.seats seat) ≡ false →
      Leads its seat (with_president paid company).events
  of_same its same leads none =
      let found : president_of paid.events company ≡ Some seat = ap (president_of paid.events) (sym same) ∙ leads in
      let stays : ((successor_of game.seats paid.events company seat).0 == seat.0) ≡ true =
      ap (λ (new : Seat). new.0 == seat.0) (stays_president none) ∙ eq-eqb seat.0 seat.0 refl in
      ap (λ (old : Option Seat). president_of (with_successor paid company old) its) found
      ∙ ap (λ (b : Bool). president_of (if b then paid.events else paid.events
      ++ event.President company (successor_of game.seats paid.events company seat) ∷ []) its) stays
      ∙ leads

  of_other : (its : Company) (leader : Seat) → same_company company its ≡ false → Leads its leader paid.events
      → Leads its leader (with_president paid company).events
  of_other its leader apart leads =
      elim (president_of paid.events company) as (λ (old : Option Seat). Leads its leader
      (with_successor paid company old)) [
        | None ↦ leads
        | Some old ↦
            let new : Seat = successor_of game.seats paid.events company old in
            elim (new.0 == old.0) as (λ (b : Bool). Leads its leader
            (if b then paid.events else paid.events ++ event.President company new ∷ [])) [
              | true ↦ leads
              | false ↦ last_said_before (λ e. president_said its (office_of e))
                  (paid.events ++ event.President company new ∷ []) paid.events (event.President company new) refl
                  (ap (λ (b : Bool). if b then Some new else None) apart)
                  ∙ leads
            ]
      ]

-- a sale by the rules leaves the president of the company that operates
no_move : (president leaves moves : Bool) → (president && (leaves || moves)) ≡ false → president ≡ true → moves ≡ false
no_move true true moves none presides = absurd cc
no_move true false moves none presides = none
no_move false leaves moves none presides = absurd cc

-- what the rules of such a sale leave
stays_where_allowed : (by : Operator) (game : Game) (sale : Sale) → raised_sale_judgement by game sale ≡ None
    → must_stay game.seats game.events by.president sale (Some by.company) ≡ false
unfolding raised_sale_judgement sale_judgement
stays_where_allowed by game sale none =
    not_broken code_of_stock_rule (sale_rules game.seats game.events by.president sale (Some by.company)) none
    PresidentMustStay

none_over : (by : Operator) (game : Game) (sale : Sale) → raised_sale_judgement by game sale ≡ None → by.company ≡ sale.company
    → president_of game.events by.company ≡ Some by.president →
    one_has game.events sale.company (kept_after game.events by.president sale +ℤ pos 1)
    (others_from game.seats by.president) ≡ false
unfolding must_stay
none_over by game sale none same leads =
    let found : president_of game.events sale.company ≡ Some by.president =
    ap (president_of game.events) (sym same) ∙ leads in
    let he : presides by.president (president_of game.events sale.company) ≡ true =
    ap (presides by.president) found ∙ eq-eqb by.president.0 by.president.0 refl in
    let moves : moves_operating game.seats game.events by.president sale (Some by.company) ≡ false =
    no_move (presides by.president (president_of game.events sale.company))
    (none_is_left game.seats game.events by.president sale)
    (moves_operating game.seats game.events by.president sale (Some by.company))
    (stays_where_allowed by game sale none) he
    in
    second_fails (same_company by.company sale.company) _ moves
    (ap (λ (its : Company). same_company by.company its) (sym same) ∙ company_itself by.company)

-- a token that moves leaves it too
token_leaves : (move : Square → Square) (events : List Event) (moved its : Company) (square : Option Square)
    → president_of (moved_from move events moved square) its ≡ president_of events its
token_leaves move events moved its None = refl
token_leaves move events moved its (Some square) =
    elim (same_square (move square) square) as (λ (b : Bool). president_of
    (if b then events else events ++ event.Moves moved (move square) ∷ []) its ≡ president_of events its) [
      | true ↦ refl
      | false ↦ president_of_before events (event.Moves moved (move square)) its refl
    ]

-- after the whole sale
pub sale_leaves : (by : Operator) (game : Game) (sale : Sale) → raised_sale_judgement by game sale ≡ None
    → president_of game.events by.company ≡ Some by.president →
    president_of (after_presidents_sale by game sale).events by.company ≡ Some by.president
sale_leaves by game sale none leads =
    let paid : Game = sold game by.president sale.company sale.shares in
    let led : List Event = (with_president paid sale.company).events in
    let kept : president_of paid.events by.company ≡ Some by.president =
    same_president game by.president sale by.company ∙ leads in
    let stays : president_of led by.company ≡ Some by.president =
    elim (same_company sale.company by.company) as
    (λ (b : Bool). same_company sale.company by.company ≡ b → president_of led by.company ≡ Some by.president) [
      | true ↦ λ same.
          let is : by.company ≡ sale.company = sym (company_is sale.company by.company same) in
          of_same game by.president sale by.company is kept (none_over by game sale none is leads)
      | false ↦ λ apart. of_other game by.president sale by.company by.president apart kept
    ]
    refl
    in
    token_leaves (fallen sale.shares) led sale.company by.company (square_of led sale.company) ∙ stays
