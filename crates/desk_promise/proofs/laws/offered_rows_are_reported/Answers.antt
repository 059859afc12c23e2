use Rattle.desk_promise.proofs.CompanyPromise.{Laws}
use Rattle.desk_promise.proofs.OfferedTold.{offered_privates_reported, offered_trains_reported}
use Rattle.desk_promise.proofs.laws.offered_rows_are_reported.Goals as goal

pub returns : goal.returns
returns c =
    let laws : Laws = record {
      spelt = c.read_where_spelt.ensures;
      is_read = c.spelling_is_read_again.ensures;
      again = c.conditional_spelling_is_read_again.ensures;
      plain = c.version_one_has_no_conditions.ensures;
      rounds = record {
        alike = c.same_sheets_are_read_alike.ensures;
        adds = c.rounds_only_add.ensures;
        one_opening = c.one_opening_round.ensures;
        one_stock = c.one_stock_round.ensures;
        one_operating = c.one_operating_round.ensures;
      };
      once = c.one_company_turn.ensures;
      turn_adds = c.turn_only_adds.ensures;
      ends = c.operating_round_ends.ensures;
    } in
    record {
      trains =
          offered_trains_reported laws c.company_rows_are_ruled.ensures.trains c.offered_rows_are_obeyed.ensures.trains_told;
      privates =
          offered_privates_reported laws c.company_rows_are_ruled.ensures.privates
          c.offered_rows_are_obeyed.ensures.privates_told;
    }
