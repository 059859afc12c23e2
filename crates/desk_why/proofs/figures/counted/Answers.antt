use Rattle.std.proofs.Common.{rules, ◌≡◌, ◌∙◌}
use Rattle.certs.specs.Counted.{counted_of}
use Rattle.desk_why.proofs.figures.counted.Goals as goal

-- the certificates that the tables count are those that the events say
pub returns : goal.returns
returns c below =
    let same : c.counted.result ≡ counted_of c.args.view.now.events c.args.seat =
    c.counted.ensures ∙ c.counted_by_the_game.ensures _ _ _ c.at.ensures below in
    search (rules, same)
