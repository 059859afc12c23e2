use Rattle.std.proofs.Common.{None, false, refl}
use Rattle.events.specs.Event.{payment_of, train_owner_place, train_moved, transfer_of}
use Rattle.totals.proofs.Empty.{no_balance, no_bid, no_count, no_sale, nothing_said, same_throughout}
use Rattle.totals.specs.Totals.{party_entry, shares_entry, train_entry, train_row}
use Rattle.totals.specs.LookBack.{paid_by, paid_to}
use Rattle.totals.specs.Shares.{brought_to, taken_from}
use Rattle.totals.specs.Trains.{any_comes, any_goes, one_if, train_comes, train_goes}
use Rattle.tables.specs.Roster.{index_of_company, index_of_private}
use Rattle.totals.proofs.totals.Totals.start.Goals as goal

pub returns : goal.returns
returns c = record {
  event_count = refl;
  owners = c.unsold.ensures.word;
  bids = no_bid;
  greatest_bids = λ private. same_throughout None 6 (index_of_private private);
  sv_price = refl;
  actor = refl;
  round = refl;
  phase = refl;
  broken = refl;
  bankrupt = refl;
  pars = nothing_said;
  squares = nothing_said;
  presidents = nothing_said;
  arrivals = nothing_said;
  floats = nothing_said;
  cash = λ party has. no_balance (λ e. paid_to party (payment_of e)) (λ e. paid_by party (payment_of e)) 15
      (party_entry party);
  shares = λ company place has.
      no_balance (λ e. brought_to company place (transfer_of e)) (λ e. taken_from company place (transfer_of e)) 64
      (shares_entry company place);
  trains = λ place kind.
      no_balance (λ e. one_if (train_comes place kind (train_moved e)))
      (λ e. one_if (train_goes place kind (train_moved e))) 88 (train_entry place kind);
  train_owners = λ owner.
      no_balance (λ e. one_if (any_comes owner (train_moved e))) (λ e. one_if (any_goes owner (train_moved e))) 11
      (train_row (train_owner_place owner));
  tokens = λ company. no_count 8 (index_of_company company);
  operated = λ company. same_throughout false 8 (index_of_company company);
  sales = λ company seat low. no_sale company seat;
  rulings = λ seat low. no_count 6 seat.0;
  limits = λ private seat low. c.no_limits.ensures private seat.0 low;
  par_orders = λ seat low. same_throughout None 6 seat.0;
}
