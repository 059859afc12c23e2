use Rattle.std.proofs.Common.{List, subst}
use Rattle.board.specs.LayRules.{IsLayAnswer}
use Rattle.map_tables.specs.declared.lay.Lay.{Lay}
use Rattle.moves.proofs.ListedLemmas.{listed_from_none}
use Rattle.moves.specs.Candidates.{lays_on}
use Rattle.moves.specs.Listed.{Lists}
use Rattle.moves.specs.declared.priced.Priced.{Priced}
use Rattle.desk_map_rules.proofs.lays.lays_by.Goals as goal

pub returns : goal.returns
returns c =
    let rules = IsLayAnswer c.args.board.now c.args.asker.now in
    listed_from_none rules (lays_on c.args.hex) c.push_lays_on.new.lays.items
    (subst (λ (old : List (Priced Lay)). Lists rules (lays_on c.args.hex) old c.push_lays_on.new.lays.items)
    c.new-lays.ensures.items c.in_ok-push_lays_on.ensures)
