-- What keeps an opening round under way.
use Rattle.std.proofs.Common.{◌≡◌, ℕ, ◌≤◌, ◌==◌, Bool, true, false, if◌then◌else◌, List, [], ◌∷◌, ◌++◌, Option, Some, None}
use Rattle.std.proofs.Common.{is_some, append-nil, refl, sym, subst, ap, ◌∙◌}
use Rattle.std.specs.Option.{option_or}
use Rattle.events.specs.Event.{ownership_of, square_set}
use Rattle.events.specs.declared.event.Event.{Event}
use Rattle.events.specs.declared.event.Event.TheVariants as event
use Rattle.events.specs.declared.event.Holder.{Holder}
use Rattle.events.specs.declared.ruling.Ruling.{Ruling}
use Rattle.totals.proofs.EventAtEnd.{last_said_at_end, square_of_before}
use Rattle.totals.specs.LookBack.{Game, is_sold, last_said, owner_of, owner_said, with_event}
use Rattle.history.specs.Games.{IsGame}
use Rattle.history.specs.Sound.{IsSound}
use Rattle.history.specs.Record.{after_revenues, breaks, paid_to_owner, revenues_recorded, with_broken, with_left}
use Rattle.privates.specs.LimitsKept.{limit_said, limits_kept, limits_ruled, no_limits}
use Rattle.turns.specs.Small.{IsSmallRuling}
use Rattle.privates.specs.Underway.{BaltimoreWaits, IsUnderway, IsWaiting, LimitsAreSmall, PennsylvaniaWaits}
use Rattle.tables.specs.Roster.{privates, revenue_of}
use Rattle.tables.specs.declared.roster.Company.TheVariants.{Pennsylvania, BaltimoreOhio}
use Rattle.tables.specs.declared.roster.Private.{Private}
use Rattle.tables.specs.declared.roster.Private.TheVariants as private
use Rattle.tables.specs.declared.round.Round.{Round}
use Rattle.tables.specs.declared.seat.Seat.{Seat}

-- nothing was said before if nothing is said in all
none_before : {A : Type 0} (later earlier : Option A) → is_some (option_or later earlier) ≡ false
    → is_some earlier ≡ false
none_before None earlier none = none
none_before (Some word) earlier none = cc

-- a private that is unsold after an event was so before it
pub unsold_before : (events : List Event) (event : Event) (its : Private) → is_sold (events ++ event ∷ []) its ≡ false
    → is_sold events its ≡ false
unsold_before events event its unsold =
    none_before (owner_said its (ownership_of event)) (last_said (λ e. owner_said its (ownership_of e)) events)
    (sym (ap is_some (last_said_at_end (λ e. owner_said its (ownership_of e)) events event)) ∙ unsold)

-- an event that sets no square
waiting_kept : (events : List Event) (event : Event) → square_set event ≡ None → LimitsAreSmall (events ++ event ∷ [])
    → IsWaiting events → IsWaiting (events ++ event ∷ [])
waiting_kept events event no_square limits before =
    record {
      pennsylvania = λ unsold. square_of_before events event Pennsylvania no_square
          ∙ before.pennsylvania (unsold_before events event private.CamdenAmboy unsold);
      baltimore = λ unsold. square_of_before events event BaltimoreOhio no_square
          ∙ before.baltimore (unsold_before events event private.BaltimoreOhio unsold);
      limits = limits;
    }

-- an event that says nothing of limits either
pub waiting_silent : (events : List Event) (event : Event) → square_set event ≡ None
    → ((its : Private) (seat : Seat) → limit_said its seat event ≡ None) → IsWaiting events
    → IsWaiting (events ++ event ∷ [])
waiting_silent events event no_square silent before =
    waiting_kept events event no_square (limits_kept events event silent before.limits) before

-- the ruling of a small order
pub ruling_underway : (game new : Game) (seat : Seat) (line : ℕ) (ruling : Ruling)
    → new ≡ with_event game (event.Ruled seat line ruling) → IsSmallRuling ruling → IsSound new → IsUnderway game
    → IsUnderway new
ruling_underway game new seat line ruling recorded small sound before =
    subst IsUnderway (sym recorded)
    (record {
      game = record { few = before.game.few; sound = subst IsSound recorded sound };
      waiting = waiting_kept game.events (event.Ruled seat line ruling) refl
          (limits_ruled game.events seat line ruling small before.waiting.limits) before.waiting;
    })

-- a round begins
pub begun_underway : (game new : Game) (round : Round) → new ≡ with_event game (event.Round round)
    → PennsylvaniaWaits game.events → BaltimoreWaits game.events → IsGame new → IsUnderway new
begun_underway game new round recorded pennsylvania baltimore its =
    subst IsUnderway (sym recorded)
    (record {
      game = subst IsGame recorded its;
      waiting = record {
        pennsylvania = λ unsold. square_of_before game.events (event.Round round) Pennsylvania refl
            ∙ pennsylvania (unsold_before game.events (event.Round round) private.CamdenAmboy unsold);
        baltimore = λ unsold. square_of_before game.events (event.Round round) BaltimoreOhio refl
            ∙ baltimore (unsold_before game.events (event.Round round) private.BaltimoreOhio unsold);
        limits = no_limits game.events round;
      };
    })

-- a silent event that keeps the list sound
pub event_underway : (game new : Game) (event : Event) → square_set event ≡ None
    → ((its : Private) (seat : Seat) → limit_said its seat event ≡ None) → new ≡ with_event game event
    → IsSound (with_event game event) → IsUnderway game → IsUnderway new
event_underway game new event no_square silent recorded sound before =
    subst IsUnderway (sym recorded) (record {
      game = record { few = before.game.few; sound = sound };
      waiting =
          waiting_silent game.events event no_square silent before.waiting;
    })

-- what was not reached
left_cases : (b : Bool) (game : Game) (seat : Seat) (lines : ℕ)
    → IsSound (record { seats = game.seats; events = game.events ++ (if b then [] else event.Left seat lines ∷ []) })
    → IsUnderway game → IsUnderway (record {
      seats = game.seats;
      events =
          game.events ++ (if b then [] else event.Left seat lines ∷ []);
    })
left_cases true game seat lines sound before =
    subst (λ (events : List Event). IsUnderway (record { seats = game.seats; events = events }))
    (sym (append-nil game.events)) before
left_cases false game seat lines sound before =
    event_underway game (with_event game (event.Left seat lines)) (event.Left seat lines) refl (λ its other. refl)
    refl sound before

pub left_underway : (game new : Game) (seat : Seat) (lines : ℕ)
    → new ≡ record { seats = game.seats; events = game.events ++ with_left seat lines [] } → IsSound new
    → IsUnderway game → IsUnderway new
left_underway game new seat lines recorded sound before =
    subst IsUnderway (sym recorded) (left_cases (lines == 0) game seat lines (subst IsSound recorded sound) before)

-- an event that says that the bank is broken, if it is
waiting_broken : (seats : ℕ) (events : List Event) → IsWaiting events → IsWaiting (with_broken seats events)
waiting_broken seats events before =
    elim (breaks seats events) as (λ b. IsWaiting (if b then events ++ event.Broken ∷ [] else events)) [
      | true ↦ waiting_silent events event.Broken refl (λ its seat. refl) before
      | false ↦ before
    ]

-- a private's revenue
waiting_paid : (seats : ℕ) (events : List Event) (its : Private) (owner : Option Holder) → IsWaiting events
    → IsWaiting (paid_to_owner seats events its owner)
waiting_paid seats events its None before = before
waiting_paid seats events its (Some owner) before =
    waiting_broken seats (events ++ event.Revenue its owner (revenue_of its) ∷ [])
    (waiting_silent events (event.Revenue its owner (revenue_of its)) refl (λ other seat. refl) before)

-- the revenues of some privates
waiting_revenues : (seats : ℕ) (events : List Event) (paying : List Private) → IsWaiting events
    → IsWaiting (after_revenues seats events paying)
waiting_revenues seats events [] before = before
waiting_revenues seats events (its ∷ others) before =
    waiting_revenues seats (paid_to_owner seats events its (owner_of events its)) others
    (waiting_paid seats events its (owner_of events its) before)

-- the revenues of all
pub revenues_underway : (game new : Game) → new ≡ revenues_recorded game → IsSound new → IsUnderway game
    → IsUnderway new
revenues_underway game new recorded sound before =
    record {
      game = record { few = subst (λ (after : Game). after.seats ≤ 6) (sym recorded) before.game.few; sound = sound };
      waiting = subst (λ (after : Game). IsWaiting after.events) (sym recorded)
          (waiting_revenues game.seats game.events privates before.waiting);
    }
