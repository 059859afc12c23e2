use Rattle.std.proofs.Common.{◌≡◌, [], arith, ap, length}
use Rattle.map_tables.proofs.Texts.{hex_text-le, hex_written}
use Rattle.map_tables.proofs.hex.Hex.text.Goals as goal

pub returns-clause-bound : goal.returns-clause-bound
returns-clause-bound c =
    let none : c.new-text.result.items ≡ [] = cc in
    let is = hex_written c.args.self c.row-row.result c.column-column.result c.new-text.result.items
    c.push.new.self.items c.push_number.new.text.items none c.row-row.ensures.value c.column-column.ensures.value
    c.push.ensures.items c.push_number.ensures in
    omega (arith, ap length is, hex_text-le c.args.self)
