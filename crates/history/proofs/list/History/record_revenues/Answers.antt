use Rattle.std.proofs.Common.{ℕ, refl, ap, get_or, ◌∙◌}
use Rattle.history.proofs.Recording.{revenues_go_on}
use Rattle.totals.specs.LookBack.{Game, owner_of}
use Rattle.history.specs.Record.{paid_to_owner}
use Rattle.tables.specs.Roster.{privates}
use Rattle.tables.specs.declared.roster.Private.{Private}
use Rattle.tables.specs.declared.roster.Private.TheVariants.{SchuylkillValley}
use Rattle.history.proofs.list.History.record_revenues.Goals as goal

pub loop-private-preserved : goal.loop-private-preserved
loop-private-preserved c =
    let seats = c.args.self.now.seats in
    let private : Private = get_or privates c.loop-private.private-index SchuylkillValley in
    let said = c.in_ok-record_revenue.ensures.ok in
    let paid = ap (λ (game : Game). game.events) said
    ∙ ap (λ (n : ℕ). paid_to_owner n c.loop-private.self.events private
    (owner_of c.loop-private.self.events private)) c.loop-private.invariant.seats in
    record {
      seats = ap (λ (game : Game). game.seats) said ∙ c.loop-private.invariant.seats;
      events = revenues_go_on seats seats c.loop-private.self.events c.record_revenue.new.self.events privates
          c.loop-private.private-index SchuylkillValley c.loop-private-test.true refl paid
          ∙ c.loop-private.invariant.events;
      sound = c.in_ok-record_revenue.ensures.sound;
    }
