use Rattle.order_grammar.proofs.PrefixLemmas.{at_error}
use Rattle.umpire.proofs.Parts.{none_of}
use Rattle.umpire.proofs.verification.write_uncertified.Goals as goal

pub returns-in_err-line-clause-prefix : goal.returns-in_err-line-clause-prefix
returns-in_err-line-clause-prefix g c = at_error c.from_residual.result (none_of _ _)
