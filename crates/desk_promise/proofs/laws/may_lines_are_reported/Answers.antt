use Rattle.desk_promise.proofs.LinesTold.{may_lines_reported}
use Rattle.desk_promise.proofs.laws.may_lines_are_reported.Goals as goal

pub returns : goal.returns
returns c =
    may_lines_reported c.standing_rows_are_reported.ensures c.opening_rows_are_reported.ensures
    c.stock_rows_are_reported.ensures
    c.company_rows_are_reported.ensures.trains c.company_rows_are_reported.ensures.privates
    c.company_rows_are_reported.ensures.raises c.company_operates.ensures c.floated_companies_in_order.ensures
