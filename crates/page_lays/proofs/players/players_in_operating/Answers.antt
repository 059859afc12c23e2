use Rattle.std.proofs.Common.{◌≡◌, ℕ, subst, arith}
use Rattle.page_lays.proofs.TurnLemmas.{one_more_standing}
use Rattle.page_lays.specs.Players.{AreStandingIn, IsStandingAt}
use Rattle.tables.specs.declared.seat.Seat.{Seat}
use Rattle.page_lays.proofs.players.players_in_operating.Goals as goal

pub loop-number-preserved : goal.loop-number-preserved
loop-number-preserved c =
    one_more_standing c.args.round c.args.history.now c.loop-number.number c.loop-number.players.items _
    c.in_ok-player.player c.loop-number.invariant
    (subst (λ (seat : Seat). IsStandingAt c.args.round c.args.history.now seat c.in_ok-player.player) c.at.ensures
    c.in_ok-player.ensures)
    c.in_ok-push.ensures.items

pub returns : goal.returns
returns c =
    let all : c.loop-number.number ≡ c.args.history.now.seats = omega arith in
    subst (λ (count : ℕ). AreStandingIn c.args.round c.args.history.now count c.loop-number.players.items) all
    c.loop-number.invariant
