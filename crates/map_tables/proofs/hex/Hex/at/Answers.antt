use Rattle.std.proofs.Common.{◌≡◌, ◌∙◌, sym}
use Rattle.map_tables.proofs.HexAt.{hex_at-none, hex_at-some}
use Rattle.map_tables.proofs.hex.Hex.at.Goals as goal
use Rattle.map_tables.proofs.hex.Hex.at.Goals.{else-row-via-then-row+else-column, else-row-via-else-row}

pub returns-in_err-hex : goal.returns-in_err-hex
returns-in_err-hex c =
    c.from_residual.ensures ∙ sym (hex_at-none c.args.row c.args.column
    (λ hex guessed r k. cc (c.in_err-hex.was, c.guess.ensures)))

pub returns-then-column : goal.returns-then-column
returns-then-column c =
    sym (hex_at-some c.args.row c.args.column c.in_ok-hex.hex (sym c.row.ensures.value ∙ c.if-row.true)
    (sym c.column.ensures.value ∙ c.if-column.true))

pub returns-else-row : goal.returns-else-row
returns-else-row c =
    sym (hex_at-none c.args.row c.args.column (λ hex guessed r k.
    let same : hex ≡ c.in_ok-hex.hex = cc (c.in_ok-hex.was, c.guess.ensures) in
    elim c.else-row.branch [
      | else-row-via-then-row+else-column w ↦ w.if-column.false (cc (w.column.ensures.value))
      | else-row-via-else-row w ↦ w.if-row.false (cc (c.row.ensures.value))
    ]))
