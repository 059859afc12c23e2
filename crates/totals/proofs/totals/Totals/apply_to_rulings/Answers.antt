use Rattle.std.proofs.Common.{[], ◌∷◌, arith, length-append, refl}
use Rattle.events.specs.Event.{actor_of, floated_by, obeyed_of, office_of, operated_by, ownership_of, par_set}
use Rattle.events.specs.Event.{payment_of, phase_set, round_begun_by, square_set, sv_price_set, says_bankrupt}
use Rattle.events.specs.Event.{says_broken, train_moved, transfer_of}
use Rattle.events.specs.Orders.{limit_in, par_of_baltimore_in, said_by}
use Rattle.totals.proofs.Applied.{round_word_applied, rulings_applied, said_applied, word_applied}
use Rattle.totals.proofs.Little.{balance_kept, bid_kept, flag_kept, greatest_kept, nothing_else, place_kept}
use Rattle.totals.proofs.Little.{round_flag_kept, tokens_kept, word_kept}
use Rattle.totals.specs.LookBack.{owner_said, paid_by, paid_to}
use Rattle.totals.specs.Operating.{turn_said}
use Rattle.totals.specs.Shares.{brought_to, float_said, par_said, president_said, sale_said, square_said, taken_from}
use Rattle.totals.specs.Trains.{any_comes, any_goes, one_if, train_comes, train_goes}
use Rattle.tables.specs.Seat.{seat_at}
use Rattle.totals.proofs.totals.Totals.apply_to_rulings.Goals as goal

pub returns : goal.returns
returns c = λ events short before.
    let event = c.args.event.now in
    let none = nothing_else event c.requires in
    record {
      event_count = omega (
        arith,
        before.event_count,
        short,
        c.saturating_add-self.ensures,
        length-append events
            (event ∷ []),
      );
      owners = λ private. word_kept (λ e. owner_said private (ownership_of e)) events event _
          (rw none.ownership refl) (before.owners private);
      bids = λ private number low.
          bid_kept events event private (seat_at number) _ none.bidding (before.bids private number low);
      greatest_bids = λ private.
          greatest_kept events event private _ none.bidding (before.greatest_bids private);
      sv_price = word_kept sv_price_set events event _ none.sv_price before.sv_price;
      actor = said_applied actor_of events event _ _ _ c.actor.ensures c.apply.ensures before.actor;
      round = word_kept round_begun_by events event _ none.round before.round;
      phase = word_kept phase_set events event _ none.phase before.phase;
      broken = flag_kept says_broken events event _ none.broken before.broken;
      bankrupt = flag_kept says_bankrupt events event _ none.bankrupt before.bankrupt;
      pars = λ company. word_kept (λ e. par_said company (par_set e)) events event _
          (rw none.par refl) (before.pars company);
      squares = λ company. word_kept (λ e. square_said company (square_set e)) events event _
          (rw none.square refl) (before.squares company);
      presidents = λ company. word_kept (λ e. president_said company (office_of e)) events event _
          (rw none.office refl) (before.presidents company);
      arrivals = λ company. place_kept (λ e. square_said company (square_set e)) events event _ _
          before.event_count (rw none.square refl) (before.arrivals company);
      floats = λ company. word_kept (λ e. float_said company (floated_by e)) events event _
          (rw none.float refl) (before.floats company);
      cash = λ party has.
          balance_kept (λ e. paid_to party (payment_of e)) (λ e. paid_by party (payment_of e)) events event _ short
          (rw none.payment refl) (rw none.payment refl) (before.cash party has);
      shares = λ company place has.
          balance_kept (λ e. brought_to company place (transfer_of e))
          (λ e. taken_from company place (transfer_of e)) events event _ short
          (rw none.transfer refl) (rw none.transfer refl) (before.shares company place has);
      trains = λ place kind.
          balance_kept (λ e. one_if (train_comes place kind (train_moved e)))
          (λ e. one_if (train_goes place kind (train_moved e))) events event _ short
          (rw none.train refl) (rw none.train refl) (before.trains place kind);
      train_owners = λ owner.
          balance_kept (λ e. one_if (any_comes owner (train_moved e))) (λ e. one_if (any_goes owner (train_moved e)))
          events event _ short (rw none.train refl) (rw none.train refl) (before.train_owners owner);
      tokens = λ company. tokens_kept events event company _ short none.token (before.tokens company);
      operated = λ company.
          round_flag_kept (λ e. turn_said company (operated_by e)) events event _ none.round
          (rw none.operated refl) (before.operated company);
      sales = λ company seat low.
          round_flag_kept (λ e. sale_said company seat (transfer_of e)) events event _ none.round
          (rw none.transfer refl) (before.sales company seat low);
      rulings = λ seat low. rulings_applied events event seat _ _ short (c.apply_ruling.ensures seat low)
          (before.rulings seat low);
      limits = λ private seat low.
          round_word_applied (λ e. said_by seat (limit_in private) (obeyed_of e)) events event _ _
          (c.apply_limit.ensures private seat low)
          (before.limits private seat low);
      par_orders = λ seat low.
          word_applied (λ e. said_by seat par_of_baltimore_in (obeyed_of e)) events event _ _
          (c.apply_par_order.ensures seat low)
          (before.par_orders seat low);
    }
