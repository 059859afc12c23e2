use Rattle.market.proofs.Chart.{down_stays, fall_stays, left_stays, right_stays, up_stays}
use Rattle.market.proofs.laws.moves_stay_on_chart.Goals as goal

pub returns-clause-right : goal.returns-clause-right
returns-clause-right c = right_stays

pub returns-clause-left : goal.returns-clause-left
returns-clause-left c = left_stays

pub returns-clause-up : goal.returns-clause-up
returns-clause-up c = up_stays

pub returns-clause-down : goal.returns-clause-down
returns-clause-down c = down_stays

pub returns-clause-fall : goal.returns-clause-fall
returns-clause-fall c = fall_stays
