-- A private that is closed stays so in a company's turn: one that names an owner is the purchase of
-- a private from a player who owns it.
use Rattle.std.proofs.Common.{[], ◌∷◌, ◌++◌, refl}
use Rattle.events.specs.Event.{ownership_of}
use Rattle.events.specs.declared.event.Event.{Event}
use Rattle.events.specs.declared.event.Event.TheVariants as event
use Rattle.events.specs.declared.event.Holder.TheVariants as holder
use Rattle.totals.specs.LookBack.{Game, last_said, owner_said}
use Rattle.operating.proofs.ForcedGames.{forced_names_none, of_game_turn}
use Rattle.operating.proofs.TurnEvents.{IsOfTurn}
use Rattle.operating.proofs.TurnGames.{by_each}
use Rattle.operating.specs.PrivateLaws.{ClosedStaysClosed}
use Rattle.purchases.proofs.ClosedPrivates.{others_keep_closed, owned_not, owner_keeps_closed}
use Rattle.purchases.proofs.TrainSteps.{IsPassedOn}
use Rattle.purchases.specs.PrivateLaws.{KeepsClosed}
use Rattle.tables.specs.declared.roster.Company.{Company}

-- so it is after each event of a company's turn
of_each : (company : Company) (game : Game) (its : Event) → IsOfTurn company game its →
    KeepsClosed game.events (game.events ++ its ∷ [])
of_each company game (event.PrivateBought sold buyer seller price) given =
    owner_keeps_closed game.events (event.PrivateBought sold buyer seller price) sold (holder.Company buyer) refl
    (owned_not (last_said (λ e. owner_said sold (ownership_of e)) game.events) (holder.Seat seller) given.owns)
of_each company game (event.Sold sold seat price) is = absurd is
of_each company game other is = others_keep_closed game.events other refl

-- and so after the whole
abbrev StillClosed : Game → Game → Type 0
StillClosed before after = KeepsClosed before.events after.events

pub closed_stays_closed : ClosedStaysClosed
closed_stays_closed file round company old new turn =
    let on : IsPassedOn StillClosed = record {
      same = λ game private closed. closed;
      both = λ a b c one two private closed. two private (one private closed);
    } in
    of_game_turn company StillClosed (by_each company StillClosed on (of_each company))
    (λ game its is no_tile no_train no_phase. others_keep_closed game.events its (forced_names_none its is)) file
    round old new turn
