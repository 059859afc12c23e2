use Rattle.std.proofs.Common.{◌≡◌, ℕ, ◌∙◌, sym, ap, add-one, arith}
use Rattle.privates.specs.Sale.{settle_auctions, settled}
use Rattle.tables.specs.Steps.{iterate}
use Rattle.totals.specs.LookBack.{Game, with_events}
use Rattle.privates.proofs.sale.settle_all.Goals as goal

pub loop-private-preserved : goal.loop-private-preserved
loop-private-preserved c =
    let start = c.args.history.now in
    record {
      after =
          c.in_ok-settle.ensures.after
          ∙ ap (λ (game : Game). with_events game (settle_auctions game.seats game.events))
          c.loop-private.invariant.after
          ∙ ap (λ (k : ℕ). with_events start (iterate (settle_auctions start.seats) k start.events))
          (sym (add-one c.loop-private._private-index));
      underway = c.in_ok-settle.ensures.underway;
    }

pub returns-clause-after : goal.returns-clause-after
unfolding settled
returns-clause-after c =
    let start = c.args.history.now in
    let all : c.loop-private._private-index ≡ 6 = omega arith in
    c.loop-private.invariant.after
    ∙ ap (λ (k : ℕ). with_events start (iterate (settle_auctions start.seats) k start.events)) all
