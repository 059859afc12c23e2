use Rattle.std.proofs.Common.{◌≡◌, ℕ, suc, ap, sym, refl, subst, ◌∙◌, arith}
use Rattle.foresight.specs.FirstTurn.{seat_after}
use Rattle.events.specs.declared.event.Event.TheVariants as event
use Rattle.page_lays.specs.Players.{IsPlayerAt, passed_ahead}
use Rattle.tables.specs.Seat.{left_of}
use Rattle.tables.specs.declared.seat.Seat.{Seat}
use Rattle.totals.specs.LookBack.{Game, priority_of, with_event}
use Rattle.page_lays.proofs.players.players_in_turns.Goals as goal

pub loop-init : goal.loop-init
loop-init c =
    let old : Game = c.args.history in
    let first : c.priority-seat.result ≡ priority_of old.seats old.events =
    c.priority-seat.ensures
    ∙ ap (λ (game : Game). priority_of game.seats game.events) c.now.ensures in
    record {
      count = 0;
      counted = refl;
      its = sym first;
      there = c.in_ok-record_event.ensures.ok;
      told = c.new-players.ensures.items;
      sound = c.in_ok-record_event.ensures.sound;
    }

pub loop-preserved : goal.loop-preserved
loop-preserved c =
    let old : Game = c.args.history in
    let before = c.loop.invariant in
    let left : c.left-seat.result ≡ left_of old.seats c.loop.seat =
    c.left-seat.ensures ∙ ap (λ (count : ℕ). left_of count c.loop.seat) c.seats-seats.ensures in
    let there : c.loop.history ≡ passed_ahead c.args.round old before.count = before.there in
    let at : IsPlayerAt c.args.round (passed_ahead c.args.round old before.count)
    (seat_after old.seats (priority_of old.seats old.events) before.count) c.in_ok-player.player =
    subst (λ (seat : Seat). IsPlayerAt c.args.round (passed_ahead c.args.round old before.count) seat
    c.in_ok-player.player) (sym before.its)
    (subst (λ (game : Game). IsPlayerAt c.args.round game c.loop.seat c.in_ok-player.player) there
    c.in_ok-player.ensures) in
    let counted = before.counted in
    record {
      count = suc before.count;
      counted = omega (arith, counted);
      its = ap (left_of old.seats) before.its ∙ sym left;
      there = c.in_ok-record_event-2.ensures.ok
          ∙ ap (λ (game : Game). with_event game (event.Passes c.loop.seat)) before.there
          ∙ ap (λ (seat : Seat). with_event (passed_ahead c.args.round old before.count) (event.Passes seat))
          (sym before.its);
      told = (c.loop.players.items, c.in_ok-player.player, before.told, at, c.in_ok-push.ensures.items);
      sound = c.in_ok-record_event-2.ensures.sound;
    }
