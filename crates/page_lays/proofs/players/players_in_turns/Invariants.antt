-- this many have passed, and each is in the list
use Rattle.std.proofs.Common.{◌≡◌, ℕ}
use Rattle.foresight.specs.FirstTurn.{seat_after}
use Rattle.history.specs.Sound.{IsSound}
use Rattle.page_lays.specs.Players.{ArePlayersIn, passed_ahead}
use Rattle.totals.specs.LookBack.{priority_of}
use Rattle.page_lays.proofs.players.players_in_turns.Given as goal

abbrev pub invariant-loop : goal.invariant-loop
invariant-loop l = record {
  count : ℕ;
  counted : count ≡ l.counter;
  its : seat_after l.fn.history.seats (priority_of l.fn.history.seats l.fn.history.events) count ≡ l.seat;
  there : l.history ≡ passed_ahead l.fn.round l.fn.history count;
  told : ArePlayersIn l.fn.round l.fn.history count l.players.items;
  sound : IsSound l.history;
}
