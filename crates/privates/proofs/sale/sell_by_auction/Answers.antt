-- The winner of the auction can pay, and that sale settles the bids.
use Rattle.std.proofs.Common.{◌≡◌, ℕ, List, OnOk, sym, subst, arith}
use Rattle.events.specs.declared.event.Event.{Event}
use Rattle.privates.proofs.Bidders.{auction_differs, auction_settles, limits_hold, payable, same_bidders}
use Rattle.privates.specs.Bank.{MayPay}
use Rattle.privates.specs.Auction.{BidsDiffer, LimitsHold}
use Rattle.privates.proofs.StandingBids.{six_bids}
use Rattle.totals.specs.LookBack.{with_events}
use Rattle.privates.proofs.sale.sell_by_auction.Goals as goal

pub bidders_of-bidders-requires : goal.bidders_of-bidders-requires
bidders_of-bidders-requires c =
    six_bids c.args.history.now c.args.private c.args.bids.now c.requires.bids c.requires.underway.game

pub auction-won-requires-clause-differ : goal.auction-won-requires-clause-differ
auction-won-requires-clause-differ c =
    let game = c.args.history.now in
    let made = same_bidders game c.now.result c.args.private c.args.bids.now c.bidders_of-bidders.result.items
    c.as_slice.result.now c.now.ensures c.bidders_of-bidders.ensures c.as_slice.ensures.value in
    subst BidsDiffer (sym made) (auction_differs game c.args.private c.args.bids.now c.requires.bids
    (λ a b amount under_a under_b of_a of_b. c.requires.underway.game.sound.bids_differ c.args.private a b amount of_a
    of_b))

pub auction-won-requires-clause-limits : goal.auction-won-requires-clause-limits
auction-won-requires-clause-limits c =
    let game = c.args.history.now in
    let made = same_bidders game c.now.result c.args.private c.args.bids.now c.bidders_of-bidders.result.items
    c.as_slice.result.now c.now.ensures c.bidders_of-bidders.ensures c.as_slice.ensures.value in
    subst LimitsHold (sym made) (limits_hold game.seats game.events c.args.private c.args.bids.now)

pub price_paid-requires-clause-sum : goal.price_paid-requires-clause-sum
price_paid-requires-clause-sum c =
    let game = c.args.history.now in
    let made = same_bidders game c.now.result c.args.private c.args.bids.now c.bidders_of-bidders.result.items
    c.as_slice.result.now c.now.ensures c.bidders_of-bidders.ensures c.as_slice.ensures.value in
    let pays = payable game c.args.private c.args.bids.now c.as_slice.result.now c.auction-won.result made
    c.auction-won.ensures c.requires.bids c.requires.two c.requires.cheapest c.requires.underway in
    pays.is_price

pub price_paid-requires-clause-small : goal.price_paid-requires-clause-small
price_paid-requires-clause-small c =
    let game = c.args.history.now in
    let made = same_bidders game c.now.result c.args.private c.args.bids.now c.bidders_of-bidders.result.items
    c.as_slice.result.now c.now.ensures c.bidders_of-bidders.ensures c.as_slice.ensures.value in
    let pays = payable game c.args.private c.args.bids.now c.as_slice.result.now c.auction-won.result made
    c.auction-won.ensures c.requires.bids c.requires.two c.requires.cheapest c.requires.underway in
    pays.small

pub sell-requires-clause-small : goal.sell-requires-clause-small
sell-requires-clause-small c =
    let game = c.args.history.now in
    let made = same_bidders game c.now.result c.args.private c.args.bids.now c.bidders_of-bidders.result.items
    c.as_slice.result.now c.now.ensures c.bidders_of-bidders.ensures c.as_slice.ensures.value in
    let pays = payable game c.args.private c.args.bids.now c.as_slice.result.now c.auction-won.result made
    c.auction-won.ensures c.requires.bids c.requires.two c.requires.cheapest c.requires.underway in
    let small = pays.small in
    let price = c.price_paid.ensures in
    omega arith

pub sell-requires-clause-at_table : goal.sell-requires-clause-at_table
sell-requires-clause-at_table c =
    let game = c.args.history.now in
    let made = same_bidders game c.now.result c.args.private c.args.bids.now c.bidders_of-bidders.result.items
    c.as_slice.result.now c.now.ensures c.bidders_of-bidders.ensures c.as_slice.ensures.value in
    let pays = payable game c.args.private c.args.bids.now c.as_slice.result.now c.auction-won.result made
    c.auction-won.ensures c.requires.bids c.requires.two c.requires.cheapest c.requires.underway in
    pays.at_table

pub sell-requires-clause-may : goal.sell-requires-clause-may
sell-requires-clause-may c =
    let game = c.args.history.now in
    let made = same_bidders game c.now.result c.args.private c.args.bids.now c.bidders_of-bidders.result.items
    c.as_slice.result.now c.now.ensures c.bidders_of-bidders.ensures c.as_slice.ensures.value in
    let pays = payable game c.args.private c.args.bids.now c.as_slice.result.now c.auction-won.result made
    c.auction-won.ensures c.requires.bids c.requires.two c.requires.cheapest c.requires.underway in
    subst (λ (price : ℕ). MayPay game.seats game.events c.auction-won.result.0 c.args.private price)
    (sym c.price_paid.ensures) pays.may

pub returns-clause-after : goal.returns-clause-after
returns-clause-after c =
    let game = c.args.history.now in
    let made = same_bidders game c.now.result c.args.private c.args.bids.now c.bidders_of-bidders.result.items
    c.as_slice.result.now c.now.ensures c.bidders_of-bidders.ensures c.as_slice.ensures.value in
    subst (λ (events : List Event). OnOk c.sell.result (c.sell.new.history ≡ with_events game events))
    (auction_settles game c.args.private c.args.bids.now c.as_slice.result.now c.auction-won.result
    c.price_paid.result made c.auction-won.ensures c.price_paid.ensures c.requires.two) c.sell.ensures.after
