use Rattle.umpire.proofs.OneAnswer.{one_answer}
use Rattle.umpire.proofs.laws.one_answer.Goals as goal

pub returns : goal.returns
returns c = one_answer c.one_list_of_calls.ensures c.one_report.ensures
