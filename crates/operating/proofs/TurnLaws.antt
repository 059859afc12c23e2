-- Laws of a company's turn: it only adds events and begins no round, trains are as they were,
-- phases go on, and no tile is lost.
use Rattle.std.proofs.Common.{◌≡◌, ◌≤◌, ◌||◌, Bool, false, List, [], ◌∷◌, ◌++◌, Result, is_some, refl, sym, ap, ◌∙◌}
use Rattle.std.proofs.Common.{arith}
use Rattle.std.proofs.lemmas.List.{append_assoc, append-nil}
use Rattle.std.proofs.lemmas.List.Folds.{list_any-append}
use Rattle.std.proofs.lemmas.Bool.{or_from}
use Rattle.events.specs.Event.{round_begun_by}
use Rattle.events.specs.declared.event.Event.{Event}
use Rattle.events.specs.declared.event.Event.TheVariants as event
use Rattle.totals.specs.LookBack.{Game}
use Rattle.totals.specs.Trains.{phase_of}
use Rattle.purchases.proofs.Complete.{others_keep_standing, phase_kept}
use Rattle.purchases.proofs.Fleet.{purchases_keep_all}
use Rattle.purchases.proofs.TrainSteps.{IsPassedOn, phases_go_on}
use Rattle.operating.proofs.TurnEvents.{begins_none}
use Rattle.operating.proofs.ForcedGames.{OfForced, forced_begins_none, of_game_turn}
use Rattle.operating.proofs.TurnGames.{OfEvents, by_each, of_steps}
use Rattle.operating.proofs.TurnSteps.{of_line}
use Rattle.operating.specs.Laws.{OnlyAdds, TurnOnlyAdds}
use Rattle.operating.specs.TrainLaws.{PhasesGoOnInTurns, TurnsKeepAll}
use Rattle.operating.specs.TurnState.{TurnState}
use Rattle.purchases.specs.TrainLaws.{AllTrainsAreThere}
use Rattle.operating.specs.CompanyOrders.{ReadingLeads}
use Rattle.purchases.specs.Train.{purchase_of}
use Rattle.forced_purchase.specs.declared.operator.Operator.{Operator}
use Rattle.order_grammar.specs.declared.fault.Fault.{Fault}
use Rattle.order_grammar.specs.declared.order.Order.{Order}
use Rattle.sheets.specs.Part.{Numbered}
use Rattle.tables.specs.Train.{index_of_kind}
use Rattle.tables.specs.declared.roster.Company.{Company}

-- to add events that begin no round is passed on
adds_on : IsPassedOn OnlyAdds
adds_on =
    record {
      same = λ game. record {
        more = [];
        added = ap (λ (events : List Event). record { seats = game.seats; events = events })
            (sym (append-nil game.events));
        no_round = refl;
      };
      both = λ a b c one two. record {
        more = one.more ++ two.more;
        added = two.added ∙ ap (λ (game : Game). record { seats = game.seats; events = game.events ++ two.more })
            one.added
            ∙ ap (λ (events : List Event). record { seats = a.seats; events = events })
            (append_assoc a.events one.more two.more);
        no_round = list_any-append (λ its. is_some (round_begun_by its)) one.more two.more
            ∙ or_from _ _ one.no_round two.no_round;
      };
    }

-- so it holds of each event of a turn
pub adds_by : (company : Company) → OfEvents company OnlyAdds
adds_by company =
    by_each company OnlyAdds adds_on
    (λ game its is. record {
      more = its ∷ [];
      added = refl;
      no_round =
          ap (λ (b : Bool). b || false) (begins_none company game its is);
    })

-- and of each of a forced purchase
pub more_adds : OfForced OnlyAdds
more_adds game its is no_tile no_train no_phase =
    record { more = its ∷ []; added = refl; no_round = ap (λ (b : Bool). b || false) (forced_begins_none its is) }

-- a turn only adds events, and begins no round
pub only_adds : TurnOnlyAdds
only_adds file round company old new turn = of_game_turn company OnlyAdds (adds_by company) more_adds file round old
    new turn

-- a line leaves the seats as they are
pub line_seats : (by : Operator) (turn : TurnState) (line : Numbered) (reading : Result Order Fault) (new : TurnState) →
    ReadingLeads by turn line reading new → new.game.seats ≡ turn.game.seats
line_seats by turn line reading new leads =
    ap (λ (game : Game). game.seats) (of_line by _ (of_steps by.company OnlyAdds (adds_by by.company)) turn line
    reading new leads).added

-- trains are in a later game if they did before
abbrev pub KeepsTrains : Game → Game → Type 0
KeepsTrains before after = AllTrainsAreThere before.events → AllTrainsAreThere after.events

-- so they do after each event of a turn, and after each of a forced purchase
pub events_keep_trains : (company : Company) → OfEvents company KeepsTrains
events_keep_trains company =
    record {
      on = record { same = λ game are_there. are_there; both = λ a b c one two are_there. two (one are_there) };
      others = λ game its is no_tile no_train no_phase are_there. others_keep_standing game.events its no_train no_phase
          are_there;
      lays = λ game asker lay cost rules are_there. others_keep_standing game.events (event.Laid company lay cost) refl
          refl are_there;
      purchases = λ game kind from rules. purchases_keep_all game company (purchase_of kind from) rules;
    }

pub forced_keeps_trains : OfForced KeepsTrains
forced_keeps_trains game its is no_tile no_train no_phase are_there = others_keep_standing game.events its no_train
    no_phase are_there

-- and in a turn
pub turns_keep_all : TurnsKeepAll
turns_keep_all file round company old new turn =
    of_game_turn company KeepsTrains (events_keep_trains company) forced_keeps_trains file round old new turn

-- the phase is the same in a later game, or a later one
abbrev GoesOn : Game → Game → Type 0
GoesOn before after = index_of_kind (phase_of before.events) ≤ index_of_kind (phase_of after.events)

-- and so it is in a turn
pub phases_go_on_in_turns : PhasesGoOnInTurns
phases_go_on_in_turns file round company old new turn =
    of_game_turn company GoesOn
    (record {
      on = record { same = λ game. omega arith; both = λ a b c one two. omega arith };
      others = λ game its is no_tile no_train no_phase. omega
          (arith, ap index_of_kind (phase_kept game.events its no_phase));
      lays = λ game asker lay cost rules. omega (
        arith,
        ap index_of_kind
            (phase_kept game.events (event.Laid company lay cost) refl),
      );
      purchases = λ game kind from rules. phases_go_on game company (purchase_of kind from);
    })
    (λ game its is no_tile no_train no_phase. omega (arith, ap index_of_kind (phase_kept game.events its no_phase)))
    file round old new turn
