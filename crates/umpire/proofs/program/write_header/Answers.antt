use Rattle.order_grammar.proofs.PrefixLemmas.{at_error}
use Rattle.umpire.proofs.Parts.{none_of}
use Rattle.umpire.proofs.program.write_header.Goals as goal

pub returns-in_err-text-clause-prefix : goal.returns-in_err-text-clause-prefix
returns-in_err-text-clause-prefix g c = at_error c.from_residual.result (none_of _ _)
