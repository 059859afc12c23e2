-- The only bidder can pay the bid.
use Rattle.std.proofs.Common.{ap, ◌∙◌, arith}
use Rattle.totals.specs.Bids.{bids_on}
use Rattle.privates.proofs.StandingBids.{first_is_standing, may_pay_bid}
use Rattle.totals.specs.LookBack.{Game}
use Rattle.privates.proofs.sale.settle_bids.Goals as goal

pub sell-requires-clause-small : goal.sell-requires-clause-small
sell-requires-clause-small c =
    let game = c.args.history.now in
    let bids = c.as_slice.ensures.value ∙ c.bids_on-bids.ensures
    ∙ ap (λ (game : Game). bids_on game.seats game.events c.args.private) c.now.ensures in
    let is_bid = first_is_standing game c.args.private c.as_slice.result.now
    (record { seat = record { 0 = 0 }; amount = 0 }) bids c.in-len1.len_at_least in
    let small = c.requires.underway.game.sound.bids_small c.args.private _ _ is_bid.is_bid in
    omega arith

pub sell-requires-clause-at_table : goal.sell-requires-clause-at_table
sell-requires-clause-at_table c =
    let game = c.args.history.now in
    let bids = c.as_slice.ensures.value ∙ c.bids_on-bids.ensures
    ∙ ap (λ (game : Game). bids_on game.seats game.events c.args.private) c.now.ensures in
    let is_bid = first_is_standing game c.args.private c.as_slice.result.now
    (record { seat = record { 0 = 0 }; amount = 0 }) bids c.in-len1.len_at_least in
    is_bid.under

pub sell-requires-clause-may : goal.sell-requires-clause-may
sell-requires-clause-may c =
    let game = c.args.history.now in
    let bids = c.as_slice.ensures.value ∙ c.bids_on-bids.ensures
    ∙ ap (λ (game : Game). bids_on game.seats game.events c.args.private) c.now.ensures in
    let is_bid = first_is_standing game c.args.private c.as_slice.result.now
    (record { seat = record { 0 = 0 }; amount = 0 }) bids c.in-len1.len_at_least in
    may_pay_bid game c.args.private _ c.requires.cheapest is_bid c.requires.underway.game.sound
