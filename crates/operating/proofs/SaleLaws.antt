-- Laws of bids and of sales to companies in a company's turn: each sale to a company is agreed by
-- the list before it, and nobody bids.
use Rattle.std.proofs.Common.{◌≡◌, Bool, true, ◌&&◌, List, [], ◌∷◌, ◌++◌, is_none, refl, sym, ap, ◌∙◌}
use Rattle.std.proofs.lemmas.List.{append_assoc, append-nil}
use Rattle.std.proofs.lemmas.List.Folds.{list_all-append}
use Rattle.std.specs.List.{list_all}
use Rattle.events.specs.Event.{bidding_of}
use Rattle.events.specs.declared.event.Event.{Event}
use Rattle.events.specs.declared.event.Event.TheVariants as event
use Rattle.totals.specs.LookBack.{Game}
use Rattle.operating.proofs.ForcedGames.{forced_bids_none, forced_sells_none, of_game_turn}
use Rattle.operating.proofs.TurnEvents.{IsOfTurn, is_agreed}
use Rattle.operating.proofs.TurnGames.{by_each}
use Rattle.operating.specs.BidLaws.{SaysNoBid, TurnsSayNoBid}
use Rattle.operating.specs.SaleLaws.{TurnsKeepAgreed}
use Rattle.purchases.proofs.SaleLaws.{one_more, others_keep_agreed}
use Rattle.purchases.proofs.TrainSteps.{IsPassedOn}
use Rattle.purchases.specs.SaleLaws.{SellersAgree}
use Rattle.tables.specs.declared.roster.Company.{Company}

-- sellers agree in a later game if they did before
abbrev StillAgree : Game → Game → Type 0
StillAgree before after = SellersAgree before.events → SellersAgree after.events

pub turns_keep_agreed : TurnsKeepAgreed
turns_keep_agreed file round company old new turn =
    let on : IsPassedOn StillAgree =
    record { same = λ game agreed. agreed; both = λ a b c one two agreed. two (one agreed) } in
    of_game_turn company StillAgree
    (by_each company StillAgree on
    (λ game its is agreed. one_more [] game.events its agreed (is_agreed company game its is)))
    (λ game its is no_tile no_train no_phase. others_keep_agreed game.events its (forced_sells_none its is))
    file round old new turn

-- no event of a turn says anything of bids
no_bid_by : (company : Company) (game : Game) (its : Event) → IsOfTurn company game its →
    is_none (bidding_of its) ≡ true
no_bid_by company game (event.Bids private seat amount) is = absurd is
no_bid_by company game (event.Sold private buyer price) is = absurd is
no_bid_by company game other is = refl

-- to say nothing of bids is passed on
no_bid_on : IsPassedOn SaysNoBid
no_bid_on =
    record {
      same = λ game. record {
        more = [];
        added = ap (λ (events : List Event). record { seats = game.seats; events = events })
            (sym (append-nil game.events));
        no_bid = refl;
      };
      both = λ a b c one two. record {
        more = one.more ++ two.more;
        added = two.added
            ∙ ap (λ (game : Game). record { seats = game.seats; events = game.events ++ two.more }) one.added
            ∙ ap (λ (events : List Event). record { seats = a.seats; events = events })
            (append_assoc a.events one.more two.more);
        no_bid = list_all-append (λ its. is_none (bidding_of its)) one.more two.more
            ∙ ap (λ (b : Bool). b && list_all (λ its. is_none (bidding_of its)) two.more) one.no_bid ∙ two.no_bid;
      };
    }

pub turns_say_no_bid : TurnsSayNoBid
turns_say_no_bid file round company old new turn =
    of_game_turn company SaysNoBid
    (by_each company SaysNoBid no_bid_on
    (λ game its is. record {
      more = its ∷ [];
      added = refl;
      no_bid = ap (λ (b : Bool). b && true) (no_bid_by company game its is);
    }))
    (λ game its is no_tile no_train no_phase. record {
      more = its ∷ [];
      added = refl;
      no_bid = ap (λ (b : Bool). b && true) (forced_bids_none its is);
    })
    file round old new turn
