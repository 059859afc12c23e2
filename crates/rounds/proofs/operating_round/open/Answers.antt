use Rattle.std.proofs.lemmas.Result.{on_ok_weaker}
use Rattle.rounds.proofs.CompanyTurns.{round_opened}
use Rattle.rounds.proofs.operating_round.open.Goals as goal

pub returns-clause-opened : goal.returns-clause-opened
returns-clause-opened c =
    on_ok_weaker c.record_revenues.result (round_opened c.args.sheets.now c.args.round c.args.history.now
    c.record_event.new.self c.rule_standing_lines.new.history c.record_revenues.new.self c.requires.seats
    c.in_ok-record_event.ensures.ok c.in_ok-rule_standing_lines.ensures.after) c.record_revenues.ensures.ok
