use Rattle.std.proofs.Common.{ℤ, pos, ap, sym, ◌∙◌, SFits}
use Rattle.std.specs.Int.{w128}
use Rattle.std.specs.Int.Signed.{lt_z}
use Rattle.std.proofs.lemmas.Int.{to_z-of_z}
use Rattle.events.specs.declared.event.Shareholder.{Shareholder}
use Rattle.totals.specs.Shares.{shares_of}
use Rattle.certs.specs.Purchase.{is_sold_out_there}
use Rattle.desk_rules.proofs.purchase_rules.is_sold_out_there.Goals as goal

pub returns-in-Share : goal.returns-in-Share
unfolding is_sold_out_there
returns-in-Share c =
    let events = c.args.view.now.events in
    let fits : SFits w128 c.shares.result = record { sfits = c.shares.type_inv } in
    ap (λ (shares : ℤ). lt_z shares (pos 1)) (to_z-of_z w128 c.shares.result fits ∙ c.shares.ensures.sum)
    ∙ ap (λ (place : Shareholder). lt_z (shares_of events c.in-Share.company place) (pos 1)) c.of_source.ensures
    ∙ ap (is_sold_out_there events) (sym c.in-Share.is)
