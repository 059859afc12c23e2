use Rattle.desk_dues.proofs.Falls.{rusts_as_ruled, rusts_no_other}
use Rattle.desk_dues.proofs.laws.trains_rust_as_ruled.Goals as goal

pub returns-clause-ruled : goal.returns-clause-ruled
returns-clause-ruled c = rusts_as_ruled

pub returns-clause-no_other : goal.returns-clause-no_other
returns-clause-no_other c = rusts_no_other
