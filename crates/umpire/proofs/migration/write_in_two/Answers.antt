use Rattle.order_grammar.proofs.PrefixLemmas.{at_error}
use Rattle.umpire.proofs.GatherLemmas.{prefix_at_end}
use Rattle.umpire.proofs.migration.write_in_two.Goals as goal

pub returns-in_err-write_gathered-clause-prefix : goal.returns-in_err-write_gathered-clause-prefix
returns-in_err-write_gathered-clause-prefix g c =
    at_error c.from_residual-in_err-write_gathered.result
    (prefix_at_end _ _ _ _ _ _ c.in_ok-put_in_two.ensures.ok c.new-gathered.ensures.items
    c.in_err-write_gathered.ensures.prefix)
