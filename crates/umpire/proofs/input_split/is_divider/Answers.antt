use Rattle.std.proofs.Common.{sym, ◌∙◌}
use Rattle.umpire.proofs.PartingLemmas.{divides_not}
use Rattle.umpire.proofs.input_split.is_divider.Goals as goal

pub returns-else-begins_with_word : goal.returns-else-begins_with_word
returns-else-begins_with_word c =
    c.if-begins_with_word.false ∙ sym (divides_not c.cert_line_read_where_spelt.ensures c.args.line.now
    (sym c.begins_with_word.ensures ∙ c.if-begins_with_word.false))
