use Rattle.std.proofs.Common.{◌≡◌, ◌+◌, true, get_or, sym, ◌∙◌}
use Rattle.sheets.proofs.TextLemmas.{behind}
use Rattle.desk_check.specs.PlainLines.{is_plain_start}
use Rattle.desk_check.proofs.PlainLemmas.{behind_first}
use Rattle.desk_check.proofs.plain_lines.behind_plain.Goals as goal

pub returns : goal.returns
returns c =
    let plain : is_plain_start (get_or c.args.text.now 0 0) ≡ true =
    sym c.is_plain_start.ensures ∙ c.if-not-is_plain_start.false in
    rw (behind c.args.text.now (c.in_ok-end.end + 1))
    (behind_first c.args.text.now c.in_ok-end.end plain c.in_ok-end.ensures)
