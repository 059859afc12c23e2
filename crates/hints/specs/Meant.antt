-- What was meant by a line: a line is proposed only if it is an order.
use Rattle.std.specs.Prelude.{◌≡◌, true, ⊤}
use Rattle.hints.specs.Choice.{is_order}
use Rattle.hints.specs.declared.hint.Meant.{Meant}
use Rattle.hints.specs.declared.hint.Meant.TheVariants.{Line}
use Rattle.order_grammar.specs.declared.condition.Version.{Version}

-- if one line is known that was meant, it has words, and is read without a fault in a file of this version
abbrev pub IsMeant : Version → Meant → Type 0
IsMeant version (Line line) = is_order version line.items ≡ true
IsMeant version other = ⊤
