use Rattle.desk_promise.proofs.OpeningPromise.{opening_rows_reported}
use Rattle.desk_promise.proofs.laws.opening_rows_are_reported.Goals as goal

pub returns : goal.returns
returns c =
    opening_rows_reported c.read_where_spelt.ensures c.spelling_is_read_again.ensures
    c.conditional_spelling_is_read_again.ensures c.version_one_has_no_conditions.ensures
    c.same_sheets_are_read_alike.ensures c.rounds_only_add.ensures c.three_to_six_play.ensures
    c.one_opening_round.ensures c.one_stock_round.ensures c.one_operating_round.ensures c.opening_round_ends.ensures
    c.opening_turns_say_who_acted.ensures c.play_reaches_first_turns.ensures.opening_heads
    c.rows_are_ruled.ensures.opening
