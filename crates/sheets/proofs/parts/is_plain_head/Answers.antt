use Rattle.std.proofs.Common.{◌≡◌, true, ap, sym, ◌∙◌}
use Rattle.std.proofs.lemmas.Bool.{OnTrue_at, OnTrue_from}
use Rattle.sheets.specs.Part.{line_unread, opens_part}
use Rattle.tables.specs.declared.round.Round.{Round}
use Rattle.sheets.proofs.Heads.{company_opens, turn_opens}
use Rattle.sheets.proofs.parts.is_plain_head.Goals as goal

pub returns-in-Opening : goal.returns-in-Opening
returns-in-Opening c =
    let reading = (line_unread c.args.line).reading in
    OnTrue_from c.is_plain_turn.result (opens_part c.args.round reading ≡ true) (λ plain.
    ap (λ (round : Round). opens_part round reading) c.in-Opening.is
    ∙ (turn_opens 0 reading (OnTrue_at plain c.is_plain_turn.ensures)).0)

pub returns-in-Stock : goal.returns-in-Stock
returns-in-Stock c =
    let reading = (line_unread c.args.line).reading in
    OnTrue_from c.is_plain_turn-in-Stock.result (opens_part c.args.round reading ≡ true) (λ plain.
    ap (λ (round : Round). opens_part round reading) c.in-Stock.is
    ∙ (turn_opens 0 reading (OnTrue_at plain c.is_plain_turn-in-Stock.ensures)).1)

pub returns-in-Operating : goal.returns-in-Operating
returns-in-Operating c =
    let reading = (line_unread c.args.line).reading in
    OnTrue_from c.is_some.result (opens_part c.args.round reading ≡ true) (λ plain.
    ap (λ (round : Round). opens_part round reading) c.in-Operating.is
    ∙ company_opens 0 0 c.plain_company.result reading c.plain_company.ensures (sym c.is_some.ensures ∙ plain))
