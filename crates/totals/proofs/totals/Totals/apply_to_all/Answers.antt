use Rattle.std.proofs.Common.{[], ◌∷◌, arith, length-append}
use Rattle.events.specs.Event.{actor_of, floated_by, obeyed_of, office_of, operated_by, ownership_of, par_set}
use Rattle.events.specs.Event.{payment_of, phase_set, round_begun_by, square_set, sv_price_set, says_bankrupt}
use Rattle.events.specs.Event.{says_broken, train_moved, transfer_of}
use Rattle.events.specs.Orders.{limit_in, par_of_baltimore_in, said_by}
use Rattle.totals.proofs.Applied.{balance_applied, bid_applied, flag_applied, one_low, place_applied}
use Rattle.totals.proofs.Applied.{greatest_applied, round_flag_applied}
use Rattle.totals.proofs.Applied.{round_word_applied, rulings_applied, said_applied, tokens_applied, word_applied}
use Rattle.totals.specs.LookBack.{owner_said, paid_by, paid_to}
use Rattle.totals.specs.Operating.{turn_said}
use Rattle.totals.specs.Shares.{brought_to, float_said, par_said, president_said, sale_said, square_said, taken_from}
use Rattle.totals.specs.Trains.{any_comes, any_goes, one_if, train_comes, train_goes}
use Rattle.tables.specs.Seat.{seat_at}
use Rattle.totals.proofs.totals.Totals.apply_to_all.Goals as goal

pub returns : goal.returns
returns c = λ events short before.
    let event = c.args.event.now in
    record {
      event_count = omega (
        arith,
        before.event_count,
        short,
        c.saturating_add-self.ensures,
        length-append events
            (event ∷ []),
      );
      owners = λ private. word_applied (λ e. owner_said private (ownership_of e)) events event _ _
          (c.apply.ensures private) (before.owners private);
      bids = λ private number low.
          bid_applied events event private (seat_at number) _ _ _ c.bidding.ensures
          (c.apply_bids.ensures private number low) (before.bids private number low);
      greatest_bids = λ private.
          greatest_applied events event private _ _ _ c.bidding-2.ensures (c.apply_greatest_bid.ensures private)
          (before.greatest_bids private);
      sv_price = said_applied sv_price_set events event _ _ _ c.sv_price.ensures c.apply-2.ensures before.sv_price;
      actor = said_applied actor_of events event _ _ _ c.actor.ensures c.apply-3.ensures before.actor;
      round = said_applied round_begun_by events event _ _ _ c.round.ensures c.apply-4.ensures before.round;
      phase = said_applied phase_set events event _ _ _ c.phase.ensures c.apply-5.ensures before.phase;
      broken = flag_applied says_broken events event _ _ c.apply_broken.ensures before.broken;
      bankrupt = flag_applied says_bankrupt events event _ _ c.apply_bankrupt.ensures before.bankrupt;
      pars = λ company. word_applied (λ e. par_said company (par_set e)) events event _ _
          (c.apply_par.ensures company) (before.pars company);
      squares = λ company. word_applied (λ e. square_said company (square_set e)) events event _ _
          (c.apply_square.ensures company) (before.squares company);
      presidents = λ company.
          word_applied (λ e. president_said company (office_of e)) events event _ _
          (c.apply_president.ensures company) (before.presidents company);
      arrivals = λ company. place_applied (λ e. square_said company (square_set e)) events event _ _ _
          before.event_count (c.apply_arrival.ensures company) (before.arrivals company);
      floats = λ company. word_applied (λ e. float_said company (floated_by e)) events event _ _
          (c.apply_float.ensures company) (before.floats company);
      cash = λ party has.
          balance_applied (λ e. paid_to party (payment_of e)) (λ e. paid_by party (payment_of e)) events event _ _ short
          (c.apply_payment.ensures.to party)
          (c.apply_payment.ensures.by party) (c.apply_payment.ensures.moved party has) (before.cash party has);
      shares = λ company place has.
          balance_applied (λ e. brought_to company place (transfer_of e))
          (λ e. taken_from company place (transfer_of e)) events event _ _ short
          (c.apply_transfer.ensures.to company place) (c.apply_transfer.ensures.by company place)
          (c.apply_transfer.ensures.moved company place has) (before.shares company place has);
      trains = λ place kind.
          balance_applied (λ e. one_if (train_comes place kind (train_moved e)))
          (λ e. one_if (train_goes place kind (train_moved e))) events event _ _ short
          (one_low (train_comes place kind (train_moved event))) (one_low (train_goes place kind (train_moved event)))
          (c.apply_train.ensures place kind) (before.trains place kind);
      train_owners = λ owner.
          balance_applied (λ e. one_if (any_comes owner (train_moved e))) (λ e. one_if (any_goes owner (train_moved e)))
          events event _ _ short
          (one_low (any_comes owner (train_moved event))) (one_low (any_goes owner (train_moved event)))
          (c.apply_train_owner.ensures owner) (before.train_owners owner);
      tokens = λ company. tokens_applied events event company _ _ short (c.apply_token.ensures company)
          (before.tokens company);
      operated = λ company.
          round_flag_applied (λ e. turn_said company (operated_by e)) events event _ _ (c.apply_turn.ensures company)
          (before.operated company);
      sales = λ company seat low.
          round_flag_applied (λ e. sale_said company seat (transfer_of e)) events event _ _
          (c.apply_sale.ensures company seat low)
          (before.sales company seat low);
      rulings = λ seat low. rulings_applied events event seat _ _ short (c.apply_ruling.ensures seat low)
          (before.rulings seat low);
      limits = λ private seat low.
          round_word_applied (λ e. said_by seat (limit_in private) (obeyed_of e)) events event _ _
          (c.apply_limit.ensures private seat low)
          (before.limits private seat low);
      par_orders = λ seat low.
          word_applied (λ e. said_by seat par_of_baltimore_in (obeyed_of e)) events event _ _
          (c.apply_par_order.ensures seat low)
          (before.par_orders seat low);
    }
