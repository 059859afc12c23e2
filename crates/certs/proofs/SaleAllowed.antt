-- A sale that breaks no rule can be made, and still can where a list says the same; its block is
-- small.
use Rattle.std.proofs.Common.{◌≡◌, ℕ, ◌≤◌, ◌==◌, Bool, true, false, not, ◌||◌, ◌&&◌, List, [], ◌∷◌, ◌++◌, Option, Some}
use Rattle.std.proofs.Common.{None, is_some, ℤ, pos, ◌≤ℤ◌, ◌-ℤ◌, ◌+ℤ◌, refl, sym, subst, ap, ◌∙◌, arith}
use Rattle.std.proofs.lemmas.Bool.{not-false}
use Rattle.std.proofs.lemmas.Int.{ints}
use Rattle.std.specs.Int.Signed.{le_z, lt_z}
use Rattle.certs.specs.Counted.{presides}
use Rattle.certs.specs.President.{others_from}
use Rattle.certs.specs.Sale.{is_first_stock, is_not_held, is_over_five, kept_after, none_is_left, moves_operating}
use Rattle.certs.specs.Sale.{must_stay, one_has, sale_judgement, sale_rules}
use Rattle.certs.specs.SaleAct.{MaySell}
use Rattle.certs.specs.declared.share_deal.Sale.{Sale}
use Rattle.events.specs.Event.{IsQuiet}
use Rattle.events.specs.RuleCodes.{code_of_stock_rule}
use Rattle.events.specs.declared.event.Event.{Event}
use Rattle.events.specs.declared.event.Shareholder.TheVariants.{BankPool, Seat as OfSeat}
use Rattle.events.specs.declared.ruling.StockRule.{StockRule}
use Rattle.events.specs.declared.ruling.StockRule.TheVariants.{SaleInFirstRound, NotHeld, PoolFull, PresidentMustStay}
use Rattle.events.specs.declared.ruling.StockRule.TheVariants.{WrongStart}
use Rattle.totals.proofs.EventAtEnd.{quiet_same}
use Rattle.totals.specs.AtEnd.{SaysTheSame}
use Rattle.totals.specs.LookBack.{Game, round_of, with_event, with_events}
use Rattle.totals.specs.Shares.{is_started, president_of, shares_of}
use Rattle.history.specs.Sound.{IsSound}
use Rattle.tables.proofs.Rules.{not_broken}
use Rattle.tables.specs.Roster.{same_company}
use Rattle.tables.specs.Rules.{Rule, first_broken}
use Rattle.tables.specs.declared.roster.Company.{Company}
use Rattle.tables.specs.declared.seat.Seat.{Seat}

-- who may sell to pay for a train may sell
stays : (president leaves moves : Bool) → (president && (leaves || moves)) ≡ false
    → (president && (leaves || false)) ≡ false
stays true true moves kept = kept
stays true false moves kept = refl
stays false leaves moves kept = refl

-- shares can be sold
pub sale_allowed : (game : Game) (seat : Seat) (sale : Sale) (operating : Option Company)
    → sale_judgement game.seats game.events seat sale operating ≡ None → MaySell game seat sale
unfolding sale_judgement must_stay
sale_allowed game seat sale operating none =
    let events = game.events in
    let seats = game.seats in
    let kept = not_broken code_of_stock_rule (sale_rules seats events seat sale operating) none in
    record {
      held = kept NotHeld;
      pool = kept PoolFull;
      leaves =
          stays (presides seat (president_of events sale.company)) (none_is_left seats events seat sale)
          (moves_operating seats events seat sale operating) (kept PresidentMustStay);
      started = not-false (is_started events sale.company) (kept WrongStart);
    }

-- a company that is started stays so
pub same_start : (before after : List Event) (company : Company) → SaysTheSame before after
    → is_started after company ≡ is_started before company
same_start before after company same = ap is_some (same.square company)

-- the seats that have this many shares have them still
same_holders : (before after : List Event) (company : Company) (least : ℤ) (seats : List Seat)
    → SaysTheSame before after → one_has after company least seats ≡ one_has before company least seats
same_holders before after company least [] same = refl
same_holders before after company least (seat ∷ others) same =
    ap (λ (shares : ℤ). le_z least shares || one_has after company least others) (same.shares company (OfSeat seat))
    ∙ ap (λ (later : Bool). le_z least (shares_of before company (OfSeat seat)) || later)
    (same_holders before after company least others same)

-- a president leaves none as before
same_leave : (seats : ℕ) (before after : List Event) (seat : Seat) (sale : Sale) → SaysTheSame before after
    → none_is_left seats after seat sale ≡ none_is_left seats before seat sale
same_leave seats before after seat sale same =
    ap (λ (shares : ℤ). lt_z (shares -ℤ pos sale.shares) (pos 2)
    && not (one_has after sale.company (pos 2) (others_from seats seat))) (same.shares sale.company (OfSeat seat))
    ∙ ap (λ (another : Bool). lt_z (kept_after before seat sale) (pos 2) && not another)
    (same_holders before after sale.company (pos 2) (others_from seats seat) same)

-- a sale moves the presidency of the company that operates as before
same_moves : (seats : ℕ) (before after : List Event) (seat : Seat) (sale : Sale) (operating : Option Company)
    → SaysTheSame before after → moves_operating seats after seat sale operating
    ≡ moves_operating seats before seat sale operating
same_moves seats before after seat sale None same = refl
same_moves seats before after seat sale (Some operating) same =
    ap (λ (shares : ℤ). same_company operating sale.company
    && one_has after sale.company ((shares -ℤ pos sale.shares) +ℤ pos 1) (others_from seats seat))
    (same.shares sale.company (OfSeat seat))
    ∙ ap (λ (another : Bool). same_company operating sale.company && another)
    (same_holders before after sale.company (kept_after before seat sale +ℤ pos 1) (others_from seats seat) same)

-- a president must stay as before
same_stay : (seats : ℕ) (before after : List Event) (seat : Seat) (sale : Sale) (operating : Option Company)
    → SaysTheSame before after → must_stay seats after seat sale operating ≡ must_stay seats before seat sale operating
unfolding must_stay
same_stay seats before after seat sale operating same =
    ap (λ (president : Option Seat). presides seat president
    && (none_is_left seats after seat sale || moves_operating seats after seat sale operating))
    (same.president sale.company)
    ∙ ap (λ (leaves : Bool). presides seat (president_of before sale.company)
    && (leaves || moves_operating seats after seat sale operating)) (same_leave seats before after seat sale same)
    ∙ ap (λ (moves : Bool). presides seat (president_of before sale.company)
    && (none_is_left seats before seat sale || moves)) (same_moves seats before after seat sale operating same)

-- a row is as before if its test is, and so are the rows below it
same_row : (code : StockRule) {is was : Bool} {later earlier : List (Rule StockRule)} → is ≡ was → later ≡ earlier
    → (record { code = code; broken = is } ∷ later) ≡ (record { code = code; broken = was } ∷ earlier)
same_row code {is = is} {was = was} {later = later} {earlier = earlier} test rows =
    ap (λ (b : Bool). record { code = code; broken = b } ∷ later) test
    ∙ ap (λ (others : List (Rule StockRule)). record { code = code; broken = was } ∷ others) rows

-- in the same round a sale is judged as before
pub same_judgement : (seats : ℕ) (before after : List Event) (seat : Seat) (sale : Sale) (operating : Option Company)
    → SaysTheSame before after → round_of after ≡ round_of before
    → sale_judgement seats after seat sale operating ≡ sale_judgement seats before seat sale operating
unfolding sale_judgement is_not_held is_over_five
same_judgement seats before after seat sale operating same round =
    ap first_broken
    (same_row SaleInFirstRound (ap is_first_stock round)
    (same_row NotHeld (ap (λ (held : ℤ). sale.shares == 0 || lt_z held (pos sale.shares))
    (same.shares sale.company (OfSeat seat)))
    (same_row PoolFull (ap (λ (pooled : ℤ). lt_z (pos 5) (pooled +ℤ pos sale.shares)) (same.shares sale.company BankPool))
    (same_row PresidentMustStay (same_stay seats before after seat sale operating same)
    (same_row WrongStart {later = []} {earlier = []} (ap not (same_start before after sale.company same)) refl)))))

-- a sale can still be made where a list says the same
pub still_may_sell : (game : Game) (after : List Event) (seat : Seat) (sale : Sale) → SaysTheSame game.events after
    → MaySell game seat sale → MaySell (with_events game after) seat sale
unfolding is_not_held is_over_five
still_may_sell game after seat sale same may =
    record {
      held = ap (λ (held : ℤ). sale.shares == 0 || lt_z held (pos sale.shares))
          (same.shares sale.company (OfSeat seat)) ∙ may.held;
      pool = ap (λ (pooled : ℤ). lt_z (pos 5) (pooled +ℤ pos sale.shares)) (same.shares sale.company BankPool)
          ∙ may.pool;
      leaves = same_stay game.seats game.events after seat sale None same ∙ may.leaves;
      started = same_start game.events after sale.company same ∙ may.started;
    }

-- a sale that breaks no rule can be made after its ruling
pub may_sell_after : (old new : Game) (event : Event) (seat : Seat) (sale : Sale) (operating : Option Company)
    → new ≡ with_event old event → IsQuiet event → sale_judgement old.seats old.events seat sale operating ≡ None
    → MaySell new seat sale
may_sell_after old new event seat sale operating recorded quiet none =
    subst (λ (game : Game). MaySell game seat sale) (sym recorded)
    (still_may_sell old (old.events ++ event ∷ []) seat sale (quiet_same old.events event quiet)
    (sale_allowed old seat sale operating none))

-- few shares go to a pool that has none too few and has at most five then
few_come : (pooled : ℤ) (shares : ℕ) → pos 0 ≤ℤ pooled → lt_z (pos 5) (pooled +ℤ pos shares) ≡ false → shares ≤ 5
few_come pooled shares some pool = grind (arith, ints, some, pool)

-- a block that may be sold is small
pub block_small : (game : Game) (seat : Seat) (sale : Sale) → MaySell game seat sale → IsSound game
    → sale.shares ≤ 5
unfolding is_over_five
block_small game seat sale may sound =
    few_come (shares_of game.events sale.company BankPool) sale.shares (sound.held sale.company BankPool) may.pool
