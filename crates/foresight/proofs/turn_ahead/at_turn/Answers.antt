use Rattle.std.proofs.Common.{◌≡◌, ◌<◌, ◌+◌, ◌++◌, ◌∷◌, [], ℕ, List, suc, ap, sym, subst, ◌∙◌, arith}
use Rattle.std.proofs.lemmas.Bool.Decides.{nat_tests}
use Rattle.foresight.proofs.Passing.{distance, distance_few, left_within, nearer}
use Rattle.foresight.specs.FirstTurn.{after_passes}
use Rattle.events.specs.declared.event.Event.{Event}
use Rattle.events.specs.declared.event.Event.TheVariants as event
use Rattle.tables.specs.Seat.{left_of}
use Rattle.tables.specs.declared.seat.Seat.{Seat}
use Rattle.totals.specs.LookBack.{Game, priority_of}
use Rattle.turns.proofs.Turns.{priority_within}
use Rattle.foresight.proofs.turn_ahead.at_turn.Goals as goal

pub loop-seat-init : goal.loop-seat-init
loop-seat-init c =
    let old : Game = c.args.history in
    let first : c.priority-next.result ≡ priority_of old.seats old.events =
    c.priority-next.ensures
    ∙ ap (λ (game : Game). priority_of game.seats game.events) c.now.ensures in
    let its = c.requires.at_table in
    let some : 0 < old.seats = omega arith in
    let within : c.priority-next.result.0 < old.seats =
    subst (λ (seat : Seat). seat.0 < old.seats) (sym first) (priority_within old.seats old.events some) in
    record {
      count = 0;
      its = sym first;
      few = let few = distance_few old.seats c.priority-next.result.0 c.args.seat.0 within its in omega (arith, few);
      passed = ap (λ (game : Game). game.events) c.in_ok-record_event.ensures.ok;
      at_table = within;
      seats = ap (λ (game : Game). game.seats) c.in_ok-record_event.ensures.ok;
      sound = c.in_ok-record_event.ensures.sound;
    }

pub loop-seat-smaller : goal.loop-seat-smaller
loop-seat-smaller c =
    let seats : ℕ = c.args.history.seats in
    let before = c.loop-seat.invariant in
    let left : c.left-next.result ≡ left_of seats c.loop-seat.next =
    c.left-next.ensures ∙ ap (λ (count : ℕ). left_of count c.loop-seat.next) c.seats-seats.ensures in
    let near = nearer seats c.loop-seat.next c.args.seat.0 c.requires.few before.at_table c.requires.at_table
    (λ same. grind (arith, nat_tests, same, c.index.ensures.value, c.index-in-loop-seat.ensures.value, c.loop-seat-test.true))
    in
    subst (λ (seat : Seat). distance seats seat.0 c.args.seat.0 < distance seats c.loop-seat.next.0 c.args.seat.0)
    (sym left) (omega (arith, near))

pub loop-seat-preserved : goal.loop-seat-preserved
loop-seat-preserved c =
    let old : Game = c.args.history in
    let before = c.loop-seat.invariant in
    let left : c.left-next.result ≡ left_of old.seats c.loop-seat.next =
    c.left-next.ensures ∙ ap (λ (count : ℕ). left_of count c.loop-seat.next) c.seats-seats.ensures in
    let near = nearer old.seats c.loop-seat.next c.args.seat.0 c.requires.few before.at_table c.requires.at_table
    (λ same. grind (arith, nat_tests, same, c.index.ensures.value, c.index-in-loop-seat.ensures.value, c.loop-seat-test.true))
    in
    let few = before.few in
    record {
      count = suc before.count;
      its = ap (left_of old.seats) before.its ∙ sym left;
      few = subst (λ (seat : Seat). suc before.count + distance old.seats seat.0 c.args.seat.0 < old.seats) (sym left)
          (omega (arith, near, few));
      passed = ap (λ (game : Game). game.events) c.in_ok-record_event-2.ensures.ok
          ∙ ap (λ (events : List Event). events ++ event.Passes c.loop-seat.next ∷ []) before.passed
          ∙ ap (λ (seat : Seat). after_passes old.seats (priority_of old.seats old.events)
          (old.events ++ event.Round c.args.round ∷ []) before.count ++ event.Passes seat ∷ []) (sym before.its);
      at_table = subst (λ (seat : Seat). seat.0 < old.seats) (sym left)
          (left_within old.seats c.loop-seat.next c.requires.few before.at_table);
      seats = ap (λ (game : Game). game.seats) c.in_ok-record_event-2.ensures.ok ∙ before.seats;
      sound = c.in_ok-record_event-2.ensures.sound;
    }
