use Rattle.std.proofs.Common.{◌≡◌, List, ℕ, Ok, codes, ap, ◌∙◌}
use Rattle.std.proofs.lemmas.Bool.{OnTrue_from}
use Rattle.std.proofs.lemmas.Bool.Decides.{Decides-eqb}
use Rattle.std.proofs.lemmas.Slice.Eq.{slice_eq-Decides}
use Rattle.order_grammar.specs.Version.{reading_in}
use Rattle.order_grammar.specs.declared.order.Order.TheVariants.{Turn}
use Rattle.sheets.specs.Part.{line_unread}
use Rattle.sheets.specs.Reading.{order_read}
use Rattle.sheets.proofs.Heads.{read_here, turn_read}
use Rattle.sheets.proofs.parts.is_plain_turn.Goals as goal

pub returns : goal.returns
returns c = OnTrue_from c.eq.result ((line_unread c.args.line).reading ≡ Ok Turn) (λ same.
    let line = c.args.line in
    let text : line.text.now ≡ codes "TURN" =
    (slice_eq-Decides Decides-eqb _ _ _ c.eq.ensures).0 same ∙ c.as_slice.ensures in
    read_here line.number _ c.if-line-gt-LINES_MOST.false
    ∙ ap (λ (t : List ℕ). order_read (reading_in line.version t)) text ∙ turn_read line.version)
